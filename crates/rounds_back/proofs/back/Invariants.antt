-- `rounds_back::back` meets its contract. The loop's invariant: what undoing the first i rounds of the state makes is what undoing all was to make.
-- Assumes nothing.
use mathlib.Core.Path.{◌≡◌}
use Rattle.rounds_back.specs.Inverse.{P⁻¹}
use Rattle.rounds_back.proofs.back.Given as goal

abbrev pub invariant-loop-i : goal.invariant-loop-i
invariant-loop-i l = P⁻¹ l.i l.t ≡ P⁻¹ l.n l.initial.t
