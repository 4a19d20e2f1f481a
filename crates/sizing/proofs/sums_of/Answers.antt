-- `sizing::sums_of` meets its contract. The loop's invariant: the shots that are left, added to the sums of those before, make the sums of all.
-- Assumes nothing.
use mathlib.Core.Path.{◌≡◌, sym, ap, subst, ◌∙◌}
use Prim.Native.Nat.{ℕ, ◌+◌}
use native.Mathlib.Omega.{arith}
use lib.ListN.{length, drop}
use Rattle.sizing.specs.declared.Sums.{Sums}
use Rattle.sizing.specs.Sums.{with_shots, After}
use Rattle.sizing.proofs.Numbers.{short-here}
use Rattle.sizing.proofs.Plans.{shots-turn, shots-end}
use Rattle.sizing.proofs.sums_of.Goals as goal

pub loop-n-preserved : goal.loop-n-preserved
loop-n-preserved c =
    let l = c.loop-n in
    let b = l.invariant.bounds in
    let a = c.args in
    let w = c.with_shot-s.ensures in
    record {
      short = (short-here a.lengths.now l.n-index c.loop-n-test.true l.invariant.short).1;
      bounds = record { used = omega (arith, b, w); kept = omega (arith, b, w); blocks = omega (arith, b, w) };
      sums =
          ap (λ (s : Sums). with_shots a.e s (drop (l.n-index + 1) a.lengths.now)) w.0
          ∙ sym (shots-turn a.e l.s a.lengths.now l.n-index c.loop-n-test.true)
          ∙ l.invariant.sums;
    }

pub returns : goal.returns
returns c =
    let l = c.loop-n in
    let a = c.args in
    let e : l.n-index ≡ length a.lengths.now = omega (arith, l.auto, c.loop-n-test) in
    (shots-end a.e l.s a.lengths.now l.n-index c.loop-n-test.false ∙ l.invariant.sums, subst (λ (k : ℕ). After k l.s) e l.invariant.bounds)
