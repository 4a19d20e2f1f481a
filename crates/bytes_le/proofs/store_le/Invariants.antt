-- `bytes_le::store_le` meets its contract. The loop's invariant: the low bytes are put, and rest is what is left of x.
-- Assumes nothing.
use Rattle.std.proofs.Common.{◌≡◌, ◌-◌}
use lib.Seq.{sets}
use Rattle.bytes_le.specs.Bytes.{le}
use Rattle.bytes_le.proofs.store_le.Given as goal

abbrev pub invariant-loop-byte : goal.invariant-loop-byte
invariant-loop-byte l = sets l.byte-items l.byte-index (le (l.n - l.byte-index) l.rest) ≡ sets l.initial.byte-items 0 (le l.n l.x)
