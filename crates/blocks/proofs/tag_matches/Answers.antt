-- `blocks::tag_matches` meets its contract: words are the same where their bytes are.
-- Assumes nothing.
use Rattle.state_bytes.specs.StateBytes.{bytes_of}
use Rattle.blocks.proofs.Steps.{same-words}
use Rattle.blocks.proofs.tag_matches.Goals as goal

pub returns : goal.returns
returns c =
    same-words (bytes_of c.args.s.now) c.args.c.now c.args.at _ _ _ _
    c.word.type_inv c.word-2.type_inv c.load_u64.type_inv c.load_u64-2.type_inv
    c.word.ensures c.word-2.ensures c.load_u64.ensures.1 c.load_u64-2.ensures.1
