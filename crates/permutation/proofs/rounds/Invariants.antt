-- `permutation::rounds` meets its contract. The loop's invariant: after i turns the state is P i of the state at the start.
-- Assumes nothing.
use mathlib.Core.Path.{◌≡◌}
use Rattle.permutation.specs.Permutation.{P}
use Rattle.permutation.proofs.rounds.Given as goal

abbrev pub invariant-loop-i : goal.invariant-loop-i
invariant-loop-i l = l.t ≡ P l.i l.initial.t
