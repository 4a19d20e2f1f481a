-- `bytes_le::store_u64` meets its contract: what is copied into the part are the number's eight bytes.
-- Assumes nothing.
use mathlib.Core.Path.{refl, ap, ◌∙◌}
use native.Mathlib.Omega.{arith}
use borrow.Rule.Slice.PartMut.{put_mid}
use Rattle.bytes_le.specs.Bytes.{le}
use Rattle.bytes_le.proofs.Laws.{part-put}
use Rattle.bytes_le.proofs.Loads.{to-le}
use Rattle.bytes_le.proofs.store_u64.Goals as goal

pub returns : goal.returns
returns c =
    let a = c.args in
    (refl, ap (put_mid _ _ _) (c.copy_from_slice.ensures.after ∙ c.to_le_bytes.ensures ∙ to-le a.x) ∙ part-put a.out.now (le 8 a.x) a.at _ (omega arith))
