-- `state_bytes::load_state` meets its contract. The loop's invariant: the first w words have their bytes from b.
-- Assumes nothing.
use mathlib.Core.Path.{◌≡◌, ◌∙◌}
use native.Mathlib.Omega.{arith}
use lib.ListN.{length, take}
use lib.Seq.{length-take-le}
use Rattle.bytes_le.proofs.Laws.{put-none, put_whole}
use Rattle.state_bytes.specs.StateBytes.{bytes_of, state_length, state_words}
use Rattle.state_bytes.proofs.Lengths.{length-bytes}
use Rattle.state_bytes.proofs.Turns.{eight-more}
use Rattle.state_bytes.proofs.load_state.Goals as goal

pub loop-w-init : goal.loop-w-init
loop-w-init c = put-none _ _

pub loop-w-preserved : goal.loop-w-preserved
loop-w-preserved c =
    let n : length (bytes_of c.args.s.now) ≡ state_length = length-bytes c.args.s.now in
    c.set_word.ensures
    ∙ eight-more (bytes_of c.args.s.now) c.args.b.now c.loop-w.w _ _ (omega arith) (omega arith) c.requires c.loop-w.invariant c.load_u64.ensures.1

pub returns : goal.returns
returns c =
    let e : c.loop-w.w ≡ state_words = omega arith in
    let n : length (bytes_of c.args.s.now) ≡ state_length = length-bytes c.args.s.now in
    let m : length (take state_length c.args.b.now) ≡ state_length = length-take-le state_length c.args.b.now c.requires in
    rw e at c.loop-w.invariant ∙ put_whole (bytes_of c.args.s.now) (take state_length c.args.b.now) (omega arith)
