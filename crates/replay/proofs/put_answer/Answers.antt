-- `replay::put_answer` meets its contract.
-- Assumes nothing.
use Rattle.replay.proofs.Scripts.{put-two}
use Rattle.replay.proofs.put_answer.Goals as goal

pub returns : goal.returns
returns c =
    put-two c.args.answers.now _ _ c.args.at _ _ _ c.store_le-next.ensures.0 c.store_le-next.ensures.1 c.store_le.ensures.1 c.requires
