-- `burst_c::put_summary` meets its contract: each field goes where the one before it ends.
-- Assumes nothing.
use Rattle.std.proofs.Common.{rules}
use Rattle.burst_c.proofs.Returned.{check-put}
use Rattle.burst_c.proofs.put_summary.Goals as goal

pub returns : goal.returns
returns c =
    let a = c.args in
    check-put a.info.now _ _ _ _ _ _ a.s.site_mark _ _ _ _ _ a.s.burst_number a.s.taken.0 a.s.kept.0 a.s.dropped a.s.camera c.requires
    (search rules)
    c.store_le-i.ensures.1 c.store_le-i.ensures.0 c.put_bytes-j.ensures.1 c.put_bytes-j.ensures.0 c.store_le-k.ensures.1 c.store_le-k.ensures.0
    c.store_le-l.ensures.1 c.store_le-l.ensures.0 c.store_le-m.ensures.1 c.store_le-m.ensures.0 c.store_le.ensures.1
