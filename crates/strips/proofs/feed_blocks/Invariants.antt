-- `strips::feed_blocks` meets its contract. The loop's invariant: what is left gives, from here on, what the whole was to give.
-- Assumes nothing.
use mathlib.Core.Path.{◌≡◌}
use Prim.Native.Nat.{◌-◌, ◌≤◌}
use lib.ListN.{length, drop}
use Rattle.bytes_le.specs.Bytes.{put_bytes}
use Rattle.state_bytes.specs.StateBytes.{bytes_of}
use Rattle.strips.specs.Machine.{held, fed, fed_bytes}
use Rattle.strips.proofs.feed_blocks.Given as goal

abbrev pub invariant-loop-at : goal.invariant-loop-at
invariant-loop-at l =
    (l.at ≤ length l.m)
    × (fed 128 (held (bytes_of l.s) 0) (drop l.at l.m) ≡ fed 128 (held (bytes_of l.initial.s) 0) (drop l.from l.m))
    × (put_bytes l.out l.at (fed_bytes 128 (held (bytes_of l.s) 0) (drop l.at l.m)) ≡ put_bytes l.initial.out l.from (fed_bytes 128 (held (bytes_of l.initial.s) 0) (drop l.from l.m)))

abbrev pub decreases-loop-at : goal.decreases-loop-at
decreases-loop-at l = length l.m - l.at
