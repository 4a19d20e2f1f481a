-- `blocks::put_tag` meets its contract: the tag is words 0 and 1.
-- Assumes nothing.
use Rattle.state_bytes.specs.StateBytes.{bytes_of}
use Rattle.blocks.proofs.Steps.{put-words}
use Rattle.blocks.proofs.put_tag.Goals as goal

pub returns : goal.returns
returns c =
    put-words c.args.out.now _ _ (bytes_of c.args.s.now) c.args.at _ _ c.requires c.word-a.ensures c.word-b.ensures
    c.store_u64.ensures.1 c.store_u64-2.ensures.1
