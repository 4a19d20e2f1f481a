-- `state_bytes::word` meets its contract: the bytes of a word.
-- Assumes nothing.
use mathlib.Core.Path.{sym}
use Rattle.state_bytes.proofs.Words.{bytes_word}
use Rattle.state_bytes.proofs.word.Goals as goal

pub returns : goal.returns
returns c = sym (bytes_word c.args.s.now c.args.w c.requires)
