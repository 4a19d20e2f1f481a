-- `blocks::verify_sealed` meets its contract: the tag that `tag_agrees` looks for is the one that belongs to what the sealed message holds.
-- Assumes nothing.
use Rattle.blocks.specs.Sealing.{ready_of, secret_of}
use Rattle.blocks.proofs.Whole.{agrees}
use Rattle.blocks.proofs.verify_sealed.Goals as goal

pub returns : goal.returns
unfolding ready_of secret_of
returns c =
    let o = c.ready.ensures in
    (agrees _ _ _ _ _ _ _ o.0 c.tag_agrees.ensures, o.0, o.1)
