-- `burst::Recorder::with_picture` meets its contract.
-- Assumes nothing.
use Rattle.burst.proofs.Answers.{kept-with}
use Rattle.burst.proofs.Recorder.with_picture.Goals as goal

pub returns : goal.returns
returns c = kept-with c.args.self.now c.args.count _ c.next_entry-x.ensures
