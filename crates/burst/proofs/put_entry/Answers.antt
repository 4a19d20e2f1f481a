-- `burst::put_entry` meets its contract: the entry's four fields, one behind the other.
-- Assumes nothing.
use native.Mathlib.Omega.{arith}
use Rattle.burst.specs.Index.{bytes_of_entry}
use Rattle.burst.proofs.Puts.{entry-put}
use Rattle.burst.proofs.put_entry.Goals as goal

pub returns : goal.returns
unfolding bytes_of_entry
returns c =
    let a = c.args in (
      omega (arith, c.store_le-i, c.store_le-j, c.store_le-k, c.store_le),
      entry-put a.out.now _ _ _ _ a.at _ _ _ a.x.shot.0 a.x.zeros a.x.offset a.x.length c.requires
          c.store_le-i.ensures.1 c.store_le-i.ensures.0 c.store_le-j.ensures.1 c.store_le-j.ensures.0 c.store_le-k.ensures.1 c.store_le-k.ensures.0
          c.store_le.ensures.1,
    )
