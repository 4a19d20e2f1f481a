-- `blocks::encrypt_message` meets its contract: the last block is finished.
-- Assumes nothing.
use mathlib.Core.Path.{ap, ◌∙◌}
use Prim.Native.Nat.{◌*◌}
use native.Mathlib.Omega.{arith}
use lib.Seq.{take-length}
use Rattle.bytes_le.specs.Bytes.{put_bytes}
use Rattle.state_bytes.specs.StateBytes.{bytes_of}
use Rattle.blocks.specs.Sealing.{absorb_message, encrypt}
use Rattle.blocks.proofs.Blocks.{encrypt-put, message-taken}
use Rattle.blocks.proofs.encrypt_message.Goals as goal

pub returns : goal.returns
returns c =
    let a = c.args in
    let q = c.take_blocks-last.ensures in
    let e = take-length a.m.now in (
      c.finish.ensures ∙ q.1 0 ∙ message-taken (8 * a.n) (omega arith) _ _ ∙ ap (absorb_message (8 * a.n) (bytes_of a.s.now)) e,
      q.2 ∙ ap (put_bytes a.out.now a.to) (encrypt-put (8 * a.n) (omega arith) _ _ ∙ ap (encrypt (8 * a.n) (bytes_of a.s.now)) e),
    )
