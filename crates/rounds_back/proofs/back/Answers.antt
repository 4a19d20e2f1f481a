-- `rounds_back::back` meets its contract. The loop's invariant: what undoing the first i rounds of the state makes is what undoing all was to make.
-- Assumes nothing.
use mathlib.Core.Path.{◌≡◌, sym, ap, ◌∙◌}
use Prim.Native.Nat.{ℕ, suc, ◌-◌}
use native.Mathlib.Omega.{arith}
use Rattle.rounds_back.specs.Inverse.{P⁻¹}
use Rattle.rounds_back.proofs.back.Goals as goal

pub loop-i-preserved : goal.loop-i-preserved
unfolding P⁻¹
loop-i-preserved c =
    let e : c.loop-i.i ≡ suc (c.loop-i.i - 1) = omega arith in
    ap (P⁻¹ (c.loop-i.i - 1)) c.round_back-before.ensures ∙ ap (λ (k : ℕ). P⁻¹ k c.loop-i.t) (sym e) ∙ c.loop-i.invariant

pub returns : goal.returns
unfolding P⁻¹
returns c =
    let e : c.loop-i.i ≡ 0 = omega arith in
    ap (λ (k : ℕ). P⁻¹ k c.loop-i.t) (sym e) ∙ c.loop-i.invariant
