-- `blocks::verify_message` meets its contract: the last block is finished.
-- Assumes nothing.
use mathlib.Core.Path.{ap, ◌∙◌}
use Prim.Native.Nat.{◌*◌}
use native.Mathlib.Omega.{arith}
use lib.Seq.{take-length}
use Rattle.bytes_le.specs.Bytes.{Bytes}
use Rattle.state_bytes.specs.StateBytes.{bytes_of}
use Rattle.state_bytes.proofs.Lengths.{length-bytes}
use Rattle.blocks.specs.Sealing.{absorb_message, decrypt}
use Rattle.blocks.proofs.Blocks.{checked-taken}
use Rattle.blocks.proofs.verify_message.Goals as goal

pub returns : goal.returns
returns c =
    let a = c.args in
    let v : Bytes = bytes_of a.s.now in
    c.finish.ensures ∙ c.take_blocks-end.ensures.1 0 ∙ checked-taken (8 * a.n) (omega arith) (omega arith) _ v (length-bytes a.s.now)
    ∙ ap (λ (d : Bytes). absorb_message (8 * a.n) v (decrypt (8 * a.n) v d)) (take-length a.c.now)
