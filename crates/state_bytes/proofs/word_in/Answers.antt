-- `state_bytes::word_in` meets its contract: eight bytes of the state's are eight bytes of b.
-- Assumes nothing.
use mathlib.Core.Path.{sym, ap, ◌∙◌}
use Prim.Native.Nat.{◌*◌}
use native.Mathlib.Omega.{arith}
use lib.ListN.{take, drop}
use lib.Seq.{drop-drop}
use Rattle.bytes_le.specs.Bytes.{Bytes, unle, le_at}
use Rattle.bytes_le.proofs.Laws.{part-part}
use Rattle.state_bytes.specs.StateBytes.{state_length}
use Rattle.state_bytes.proofs.word_in.Goals as goal

pub returns : goal.returns
unfolding le_at
returns c =
    let a = c.args in
    let b : Bytes = a.b.now in
    c.load_u64.ensures.0 ∙ ap unle (ap (take 8) (sym (drop-drop (8 * a.w) a.at b)) ∙ sym (part-part (drop a.at b) state_length (8 * a.w) 8 (omega arith)))
