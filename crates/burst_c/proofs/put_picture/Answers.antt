-- `burst_c::put_picture` meets its contract: each field goes where the one before it ends.
-- Assumes nothing.
use Rattle.std.proofs.Common.{rules}
use Rattle.burst_c.proofs.Returned.{fetch-put}
use Rattle.burst_c.proofs.put_picture.Goals as goal

pub returns : goal.returns
returns c =
    let a = c.args in
    fetch-put a.info.now _ _ _ a.p.stamp _ _ a.p.shot.0 a.p.length c.requires (search rules)
    c.store_le-i.ensures.1 c.store_le-i.ensures.0 c.store_le-j.ensures.1 c.store_le-j.ensures.0 c.put_bytes.ensures.1
