-- `blocks::tag_agrees` meets its contract: the state after the message, and its tag beside the one at the end.
-- Assumes nothing.
use mathlib.Core.Path.{refl}
use native.Mathlib.Omega.{arith}
use Rattle.blocks.proofs.Whole.{tag_at}
use Rattle.blocks.proofs.tag_agrees.Goals as goal

pub returns : goal.returns
returns c =
    tag_at c.args.q c.requires.0 c.args.c.now _ _ _ _ _ c.requires.1 (omega arith) refl c.verify_message.ensures c.tag_matches.ensures
