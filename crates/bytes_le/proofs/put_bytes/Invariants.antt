-- `bytes_le::put_bytes` meets its contract. The loop's invariant: the first i bytes are put.
-- Assumes nothing.
use mathlib.Core.Path.{◌≡◌}
use lib.ListN.{take}
use Rattle.bytes_le.specs.Bytes.{put_bytes}
use Rattle.bytes_le.proofs.put_bytes.Given as goal

abbrev pub invariant-loop-i : goal.invariant-loop-i
invariant-loop-i l = l.out ≡ put_bytes l.initial.out l.at (take l.i l.src)
