-- `blocks::decrypt_in_place` meets its contract: bytes that are put before index j change none behind it.
-- Assumes nothing.
use mathlib.Core.Path.{ap, ◌∙◌}
use Prim.Native.Nat.{◌+◌, ◌*◌}
use native.Mathlib.Omega.{arith}
use lib.ListN.{length}
use Rattle.bytes_le.specs.Bytes.{put_bytes}
use Rattle.bytes_le.proofs.Laws.{behind-put, length-put}
use Rattle.blocks.proofs.Blocks.{decrypt-put}
use Rattle.blocks.proofs.decrypt_in_place.Goals as goal

pub take_blocks-requires : goal.take_blocks-requires
take_blocks-requires c = (
  c.requires.0,
  c.requires.1,
  omega arith,
  (c.requires.2, omega arith, omega arith, omega arith, λ o b i j h e k. (length-put o j b k, behind-put o j b (i + length b) (omega arith) (omega arith))),
)

pub returns : goal.returns
returns c =
    let a = c.args in
    c.take_blocks.ensures.2 ∙ ap (put_bytes a.b.now 0) (decrypt-put (8 * a.n) (omega arith) _ _)
