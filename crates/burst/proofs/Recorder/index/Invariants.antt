-- `burst::Recorder::index` meets its contract. The loop's invariant: the entries before x are put.
-- Assumes nothing.
use mathlib.Core.Path.{◌≡◌}
use Prim.Native.Nat.{◌*◌}
use lib.ListN.{length, take}
use Rattle.burst.specs.Layout.{max_index}
use Rattle.burst.specs.Index.{index_bytes}
use Rattle.burst.proofs.Recorder.index.Given as goal

abbrev pub invariant-loop-x : goal.invariant-loop-x
invariant-loop-x l = (l.at ≡ 12 * l.x-index) × (length l.b ≡ max_index) × (take l.at l.b ≡ index_bytes (take l.x-index l.x-items))
