-- `state_bytes::start` meets its contract: the bytes of the state that `start_state` ensures.
-- Assumes nothing.
use mathlib.Core.Path.{ap}
use Rattle.state_bytes.specs.StateBytes.{bytes_of, start_bytes}
use Rattle.state_bytes.proofs.start.Goals as goal

pub returns : goal.returns
unfolding start_bytes
returns c = ap bytes_of c.start_state.ensures
