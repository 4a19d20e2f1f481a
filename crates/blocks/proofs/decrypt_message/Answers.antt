-- `blocks::decrypt_message` meets its contract.
-- Assumes nothing.
use mathlib.Core.Path.{ap, ◌∙◌}
use Prim.Native.Nat.{◌*◌}
use native.Mathlib.Omega.{arith}
use Rattle.bytes_le.specs.Bytes.{put_bytes}
use Rattle.blocks.proofs.Blocks.{decrypt-put}
use Rattle.blocks.proofs.decrypt_message.Goals as goal

pub returns : goal.returns
returns c =
    let a = c.args in
    c.take_blocks.ensures.2 ∙ ap (put_bytes a.out.now 0) (decrypt-put (8 * a.n) (omega arith) _ _)
