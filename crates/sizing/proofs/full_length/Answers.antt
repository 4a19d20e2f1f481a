-- `sizing::full_length` meets its contract.
-- Assumes nothing.
use Prim.Native.Nat.{◌+◌, ◌*◌, ◌≤◌}
use native.Mathlib.Omega.{arith}
use Rattle.burst.specs.Editions.{max_entries, max_header}
use Rattle.burst.specs.Parts.{seal_length}
use Rattle.burst.specs.Layout.{max_index}
use Rattle.sizing.specs.Sums.{max_record}
use Rattle.sizing.proofs.Cards.{in-range, full-bytes, records-bound}
use Rattle.sizing.proofs.full_length.Goals as goal
use Rattle.sizing.proofs.full_length.Goals.{After-index_length-index}

-- header, records and index are within bounds
few : (c : After-index_length-index) → let a = c.args in
    (a.e.header ≤ max_header) × (a.shots * (a.picture + seal_length) ≤ max_entries * max_record) × (c.index_length-index.result ≤ max_index)
few c =
    let k = c.requires.0 in
    let h = in-range _ _ _ c.requires.1 in
    (k.header, records-bound _ _ _ k h, omega (arith, k, h, c.index_length-index.ensures))

pub overflow_add-records : goal.overflow_add-records
overflow_add-records c = let h = in-range _ _ _ c.requires.1 in omega (arith, h)

pub overflow_mul-records : goal.overflow_mul-records
overflow_mul-records c = let h = in-range _ _ _ c.requires.1 in omega (arith, records-bound _ _ _ c.requires.0 h)

pub overflow_cast-shots : goal.overflow_cast-shots
overflow_cast-shots c = let h = in-range _ _ _ c.requires.1 in omega (arith, h, c.requires.0)

pub returns : goal.returns
returns c =
    let h = in-range _ _ _ c.requires.1 in
    (omega (arith, full-bytes c.args.e c.args.shots c.args.picture h.least, c.index_length-index.ensures), omega arith)

pub overflow_add-result : goal.overflow_add-result
overflow_add-result c = omega (arith, few (goal.at.overflow_add-result c).After-index_length-index)

pub overflow_add-result-2 : goal.overflow_add-result-2
overflow_add-result-2 c = omega (arith, few (goal.at.overflow_add-result-2 c).After-index_length-index)

pub overflow_add-result-3 : goal.overflow_add-result-3
overflow_add-result-3 c = omega (arith, few (goal.at.overflow_add-result-3 c).After-index_length-index)
