-- `state_bytes::state_in` meets its contract. The loop's invariant: the first w words are filled.
-- Assumes nothing.
use mathlib.Core.Path.{◌≡◌}
use lib.ListN.{take, drop}
use Rattle.state_bytes.specs.StateBytes.{state_length}
use Rattle.state_bytes.proofs.Filled.{filled}
use Rattle.state_bytes.proofs.state_in.Given as goal

abbrev pub invariant-loop-w : goal.invariant-loop-w
invariant-loop-w l = l.s ≡ filled (take state_length (drop l.at l.b)) l.w
