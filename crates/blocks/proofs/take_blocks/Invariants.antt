-- `blocks::take_blocks` meets its contract. The loop's invariant: what is put before here is put, and what is left gives the rest of it and the same state at the end.
-- Assumes nothing.
use mathlib.Core.Path.{◌≡◌}
use Prim.Native.Nat.{ℕ, ◌-◌, ◌≤◌}
use lib.ListN.{take, drop}
use Rattle.bytes_le.specs.Bytes.{Bytes}
use Rattle.state_bytes.specs.StateBytes.{bytes_of}
use Rattle.blocks.specs.Ways.{put_by, taken_by}
use Rattle.blocks.proofs.Turns.{Written}
use Rattle.blocks.proofs.take_blocks.Given as goal

abbrev pub invariant-loop-at : goal.invariant-loop-at
invariant-loop-at g l =
    let d : Bytes = take l.l (drop l.from (g.S.Source.bytes l.d l.initial.out)) in
    (l.at ≤ l.l)
    × ((end : ℕ) → taken_by l.block g.A.Way.taken l.more end (bytes_of l.s) (drop l.at d) ≡ taken_by l.block g.A.Way.taken l.more end (bytes_of l.initial.s) d)
    × Written (put_by l.block g.A.Way.taken l.more) g.K.Sink.put l.initial.s d l.initial.out l.to l.s l.out l.at

abbrev pub decreases-loop-at : goal.decreases-loop-at
decreases-loop-at g l = l.l - l.at
