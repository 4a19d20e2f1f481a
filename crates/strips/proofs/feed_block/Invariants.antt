-- `strips::feed_block` meets its contract. The loop's invariant: the first j bytes are put, and b holds them.
-- Assumes nothing.
use mathlib.Core.Path.{◌≡◌}
use Prim.Native.Nat.{◌+◌}
use lib.ListN.{take}
use Rattle.bytes_le.specs.Bytes.{put_bytes}
use Rattle.strips.specs.Machine.{held, fed, fed_bytes}
use Rattle.strips.proofs.feed_block.Given as goal

abbrev pub invariant-loop-j : goal.invariant-loop-j
invariant-loop-j l =
    (held l.b (l.fill + l.j) ≡ fed 128 (held l.initial.b l.fill) (take l.j l.m))
    × (l.out ≡ put_bytes l.initial.out 0 (fed_bytes 128 (held l.initial.b l.fill) (take l.j l.m)))
