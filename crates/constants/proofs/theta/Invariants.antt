-- `constants::theta` meets its contract. The loop's invariant: the sheets before x are done.
-- Assumes nothing.
use Rattle.constants.proofs.Lists.{Filled}
use Rattle.constants.proofs.Lanes.{theta-sheet}
use Rattle.constants.proofs.theta.Given as goal

abbrev pub invariant-loop-x : goal.invariant-loop-x
invariant-loop-x l = Filled 5 (theta-sheet l.a) l.initial.b l.x l.b
