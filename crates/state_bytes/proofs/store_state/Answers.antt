-- `state_bytes::store_state` meets its contract. The loop's invariant: the bytes of the first w words are put.
-- Assumes nothing.
use mathlib.Core.Path.{◌≡◌, ap, ◌∙◌}
use native.Mathlib.Omega.{arith}
use lib.ListN.{length}
use lib.Seq.{take_all}
use Rattle.bytes_le.specs.Bytes.{put_bytes}
use Rattle.bytes_le.proofs.Laws.{put-none}
use Rattle.state_bytes.specs.StateBytes.{bytes_of, state_length, state_words}
use Rattle.state_bytes.proofs.Lengths.{length-bytes}
use Rattle.state_bytes.proofs.Turns.{eight-more}
use Rattle.state_bytes.proofs.store_state.Goals as goal

pub loop-w-init : goal.loop-w-init
loop-w-init c = put-none _ _

pub loop-w-preserved : goal.loop-w-preserved
loop-w-preserved c =
    let n : length (bytes_of c.args.s.now) ≡ state_length = length-bytes c.args.s.now in
    c.store_u64.ensures.1
    ∙ eight-more c.args.b.now (bytes_of c.args.s.now) c.loop-w.w _ _ (omega arith) c.requires (omega arith) c.loop-w.invariant c.word.ensures

pub returns : goal.returns
returns c =
    let e : c.loop-w.w ≡ state_words = omega arith in
    let n : length (bytes_of c.args.s.now) ≡ state_length = length-bytes c.args.s.now in
    rw e at c.loop-w.invariant ∙ ap (put_bytes c.args.b.now 0) (take_all state_length (bytes_of c.args.s.now) (omega arith))
