-- `burst::nonce_of` meets its contract.
-- Assumes nothing.
use Rattle.burst.proofs.Puts.{nonce-put}
use Rattle.burst.proofs.nonce_of.Goals as goal

pub returns : goal.returns
returns c =
    nonce-put c.args.e c.args.name _ _ _ _ _ _ c.store_le-i.ensures.0 c.store_le-j.ensures.0 c.store_le-i.ensures.1 c.store_le-j.ensures.1
    c.store_le.ensures.1
