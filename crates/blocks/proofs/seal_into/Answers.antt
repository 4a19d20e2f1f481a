-- `blocks::seal_into` meets its contract: the three runs of bytes touch.
-- Assumes nothing.
use mathlib.Core.List.{◌++◌}
use Rattle.blocks.proofs.Whole.{sealed-runs}
use Rattle.blocks.proofs.seal_into.Goals as goal

pub returns : goal.returns
returns c =
    let a = c.args in
    sealed-runs a.q c.requires.0 a.x.key.now a.x.nonce.now a.secret.now (a.x.first.now ++ a.x.second.now) a.message.now a.out.now
    c.requires.3 c.requires.5 c.seal_ready.ensures.0 c.seal_ready.ensures.1 c.encrypt_message.ensures.0 c.encrypt_message.ensures.1 c.put_tag.ensures
