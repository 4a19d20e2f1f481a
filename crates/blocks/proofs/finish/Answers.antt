-- `blocks::finish` meets its contract: the padding is xored into the word where byte n lies, then P6.
-- Assumes nothing.
use mathlib.Core.Path.{ap, ◌∙◌}
use Rattle.state_bytes.specs.StateBytes.{bytes_of, permuted}
use Rattle.state_bytes.proofs.Lengths.{length-bytes}
use Rattle.blocks.proofs.Steps.{padded-word}
use Rattle.blocks.proofs.finish.Goals as goal

pub returns : goal.returns
returns c =
    let v = bytes_of c.args.s.now in
    c.permute.ensures
    ∙ ap (permuted 6)
    (c.set_word.ensures
    ∙ padded-word v c.args.n c.args.frame _ (length-bytes _) c.requires.0 c.requires.1 c.word-z.ensures)
