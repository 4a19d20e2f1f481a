-- `constants::keccak_f` meets its contract. The loop's invariant: b is the state array after i rounds.
-- Assumes nothing.
use mathlib.Core.Path.{refl, sym, ap, ◌∙◌}
use Prim.Native.Nat.{ℕ}
use native.Mathlib.Omega.{arith}
use native.Mathlib.Numerals.{add-one}
use borrow.Author.Rules.{rules}
use Rattle.constants.specs.Keccak.{StateArray, Rnd, rounds}
use Rattle.constants.proofs.keccak_f.Goals as goal

pub loop-i-init : goal.loop-i-init
unfolding rounds
loop-i-init c = (search rules, refl)

pub loop-i-preserved : goal.loop-i-preserved
unfolding rounds
loop-i-preserved c =
    let i : ℕ = c.loop-i.i in (
      omega arith,
      c.round-next.ensures ∙ ap (λ (a : StateArray). Rnd a i) c.loop-i.invariant.1
          ∙ ap (λ (n : ℕ). rounds n c.args.a) (sym (add-one i)),
    )
