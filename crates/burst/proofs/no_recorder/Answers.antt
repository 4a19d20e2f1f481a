-- `burst::no_recorder` meets its contract.
-- Assumes nothing.
use Rattle.burst.specs.Recorder.{no_recorder}
use Rattle.burst.proofs.no_recorder.Goals as goal

pub returns : goal.returns
unfolding no_recorder
returns c = c.new_recorder.ensures
