-- `state_bytes::store_state` meets its contract. The loop's invariant: the bytes of the first w words are put.
-- Assumes nothing.
use mathlib.Core.Path.{◌≡◌}
use Prim.Native.Nat.{◌*◌}
use lib.ListN.{take}
use Rattle.bytes_le.specs.Bytes.{put_bytes}
use Rattle.state_bytes.specs.StateBytes.{bytes_of}
use Rattle.state_bytes.proofs.store_state.Given as goal

abbrev pub invariant-loop-w : goal.invariant-loop-w
invariant-loop-w l = l.b ≡ put_bytes l.initial.b 0 (take (8 * l.w) (bytes_of l.s))
