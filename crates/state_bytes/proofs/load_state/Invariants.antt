-- `state_bytes::load_state` meets its contract. The loop's invariant: the first w words have their bytes from b.
-- Assumes nothing.
use mathlib.Core.Path.{◌≡◌}
use Prim.Native.Nat.{◌*◌}
use lib.ListN.{take}
use Rattle.bytes_le.specs.Bytes.{put_bytes}
use Rattle.state_bytes.specs.StateBytes.{bytes_of}
use Rattle.state_bytes.proofs.load_state.Given as goal

abbrev pub invariant-loop-w : goal.invariant-loop-w
invariant-loop-w l = bytes_of l.s ≡ put_bytes (bytes_of l.initial.s) 0 (take (8 * l.w) l.b)
