-- `round_log::state_at` meets its contract: the bytes of state i stand where the states before it end.
-- Assumes nothing.
use Rattle.round_log.specs.RoundLog.{state_at}
use Rattle.round_log.proofs.state_at.Goals as goal

pub returns : goal.returns
unfolding state_at
returns c = c.state_in.ensures
