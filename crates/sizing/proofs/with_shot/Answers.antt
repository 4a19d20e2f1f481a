-- `sizing::with_shot` meets its contract. The check finds this too; written out, it refuses `gaps_counted_as_records` by a type that does not fit.
-- Assumes nothing.
use mathlib.Core.Path.{refl}
use native.Mathlib.Omega.{arith}
use lib.ListN.{replicate, length-replicate}
use Rattle.burst.specs.Fields.{entry_length}
use Rattle.burst.specs.Parts.{no_mark}
use Rattle.sizing.proofs.Plans.{shot-kept}
use Rattle.sizing.proofs.with_shot.Goals as goal

pub returns : goal.returns
returns c =
    let a = c.args in
    let e = c.part_blocks-blocks.ensures.0 no_mark (replicate entry_length 0) (replicate a.n 0) refl (length-replicate a.n 0) in
    (shot-kept a.e a.s a.n _ c.if-n-eq0.false e, omega arith, omega arith, omega arith)
