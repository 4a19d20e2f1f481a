-- `permutation::rounds` meets its contract. The loop's invariant: after i turns the state is P i of the state at the start.
-- Assumes nothing.
use mathlib.Core.Path.{◌≡◌, refl, sym, ap, ◌∙◌}
use mathlib.Core.List.{List, []}
use Prim.Native.Nat.{ℕ}
use native.Mathlib.Omega.{arith}
use native.Mathlib.Numerals.{add-one}
use lib.ListN.{get_or}
use Rattle.permutation.specs.State.{State}
use Rattle.permutation.specs.Permutation.{R, P}
use Rattle.permutation.proofs.rounds.Goals as goal

pub loop-i-init : goal.loop-i-init
unfolding P
loop-i-init c = refl

pub loop-i-preserved : goal.loop-i-preserved
unfolding P
loop-i-preserved c =
    ap (λ (states : List State). get_or states 4 []) c.round-states.ensures ∙ ap (λ (t : State). R t c.loop-i.i) c.loop-i.invariant
    ∙ ap (λ (k : ℕ). P k c.args.s.now) (sym (add-one c.loop-i.i))

pub returns : goal.returns
returns c =
    let e : c.loop-i.i ≡ c.args.n = omega arith in
    c.loop-i.invariant ∙ ap (λ (k : ℕ). P k c.args.s.now) e
