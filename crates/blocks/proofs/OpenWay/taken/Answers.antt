-- `blocks::Open` meets the contract of `taken`: the low bytes of an exclusive or.
-- Assumes nothing.
use mathlib.Core.Path.{ap, ◌∙◌}
use native.Mathlib.Nat.{mod-lt, one-le-pow, zero-lt-suc}
use Rattle.bytes_le.specs.Bytes.{le}
use Rattle.blocks.proofs.Words.{low-xored}
use Rattle.blocks.proofs.OpenWay.taken.Goals as goal

pub returns : goal.returns
returns c =
    let a = c.args in
    let e = c.low_bytes.ensures in (
      ap (le a.l) e ∙ low-xored a.l a.z a.k c.requires.0,
      rw e (mod-lt _ (one-le-pow a.l 256 (zero-lt-suc 255))),
    )
