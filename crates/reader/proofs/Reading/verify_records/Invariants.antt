-- `reader::Reading::verify_records` meets its contract. The loop's invariant: the verdict on all records is that on the records that are left.
-- Assumes nothing.
use mathlib.Core.Path.{◌≡◌}
use Prim.Native.Nat.{◌-◌}
use Rattle.reader.specs.Front.{kept_in, index_offset_in, position_of}
use Rattle.reader.specs.Reader.{record_parts, verdict_on}
use Rattle.reader.proofs.Reading.verify_records.Given as goal

abbrev pub invariant-loop-place : goal.invariant-loop-place
invariant-loop-place l =
    let f = l.self.f.now in
    verdict_on l.self.key.now f (record_parts (kept_in f) (index_offset_in f) f)
    ≡ verdict_on l.self.key.now f (record_parts (l.place-end - l.place) (position_of f l.place) f)
