-- `constants::pi` meets its contract. The loop's invariant: the sheets before x are done.
-- Assumes nothing.
use Rattle.constants.proofs.Lists.{Filled}
use Rattle.constants.proofs.Lanes.{pi-sheet}
use Rattle.constants.proofs.pi.Given as goal

abbrev pub invariant-loop-x : goal.invariant-loop-x
invariant-loop-x l = Filled 5 (pi-sheet l.a) l.initial.b l.x l.b
