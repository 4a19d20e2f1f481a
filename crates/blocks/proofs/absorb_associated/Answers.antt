-- `blocks::absorb_associated` meets its contract: the last block is finished.
-- Assumes nothing.
use mathlib.Core.Path.{ap, ◌∙◌}
use mathlib.Core.List.{◌++◌}
use Prim.Native.Nat.{◌+◌, ◌*◌}
use native.Mathlib.Omega.{arith}
use lib.ListN.{length, length-append}
use lib.Seq.{take_all}
use Rattle.bytes_le.specs.Bytes.{Bytes}
use Rattle.state_bytes.specs.StateBytes.{bytes_of}
use Rattle.blocks.specs.Sealing.{absorb_associated}
use Rattle.blocks.proofs.Blocks.{associated-taken}
use Rattle.blocks.proofs.absorb_associated.Goals as goal

pub returns : goal.returns
returns c =
    let a = c.args in
    let d : Bytes = a.x.first.now ++ a.x.second.now in
    c.finish.ensures ∙ c.take_blocks-last.ensures.1 1 ∙ associated-taken (8 * a.n) (omega arith) _ _
    ∙ ap (absorb_associated (8 * a.n) (bytes_of a.s.now)) (take_all (length a.x.first.now + length a.x.second.now) d (rw length-append (omega arith)))
