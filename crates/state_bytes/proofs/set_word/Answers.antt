-- `state_bytes::set_word` meets its contract: a word changes, and eight bytes change.
-- Assumes nothing.
use native.Mathlib.Omega.{arith}
use Rattle.state_bytes.proofs.Words.{bytes-set-word}
use Rattle.state_bytes.proofs.set_word.Goals as goal

pub returns : goal.returns
returns c = bytes-set-word c.args.s.now c.args.w c.requires c.args.x (omega arith) (omega arith)
