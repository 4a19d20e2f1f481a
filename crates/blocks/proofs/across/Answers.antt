-- `blocks::across` meets its contract: the end of the first part and the beginning of the second are put into eight bytes, one after the other.
-- Assumes nothing.
use native.Mathlib.Omega.{arith}
use mathlib.Core.Path.{refl, ◌∙◌}
use lib.ListN.{replicate}
use Rattle.blocks.proofs.Words.{across-run}
use Rattle.blocks.proofs.across.Goals as goal

pub returns : goal.returns
returns c =
    let a = c.args in
    let r = c.load_le.ensures in (
      r.1
          ∙ across-run (replicate 8 0) a.first.now a.second.now _ _ a.at a.l _ refl (omega arith) (omega arith) c.requires.0 (omega arith)
          c.put_bytes.ensures.1
          c.put_bytes-2.ensures.1,
      r.2,
    )
