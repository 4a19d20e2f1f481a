-- `burst::entry_bytes` meets its contract.
-- Assumes nothing.
use mathlib.Core.Path.{◌∙◌}
use native.Mathlib.Omega.{arith}
use Rattle.bytes_le.proofs.Laws.{put_whole}
use Rattle.burst.specs.Index.{bytes_of_entry}
use Rattle.burst.proofs.Puts.{length-entry-of}
use Rattle.burst.proofs.entry_bytes.Goals as goal

pub returns : goal.returns
returns c =
    let e = c.args.x in
    let l = length-entry-of e in
    c.put_entry.ensures.1 ∙ put_whole _ (bytes_of_entry e) (omega arith)
