-- `blocks::take_words` meets its contract. The loop's invariant: the words below w are taken and put.
-- Assumes nothing.
use Prim.Native.Nat.{◌+◌, ◌*◌}
use native.Mathlib.Omega.{arith}
use Rattle.state_bytes.specs.StateBytes.{bytes_of}
use Rattle.state_bytes.proofs.Lengths.{length-bytes}
use Rattle.blocks.proofs.Full.{next_room, none_yet, one-more}
use Rattle.blocks.proofs.take_words.Goals as goal

pub loop-w-init : goal.loop-w-init
loop-w-init g c = none_yet g.met.A.Way.laws g.met.K.Sink.laws (bytes_of c.args.s.now) c.args.out.now c.args.to

pub take_word-requires : goal.take_word-requires
take_word-requires g c =
    let a = c.args in
    let w = c.loop-w.w in (
      omega arith,
      omega arith,
      next_room g.met.A.Way.laws (g.S.Source.bytes a.d) g.met.K.Sink.laws a.at (8 * a.n) a.to a.out.now c.requires.1 (8 * w) 8 (omega arith)
          (bytes_of a.s.now) (rw length-bytes (omega arith)) c.loop-w.invariant.1 c.loop-w.auto.out,
    )

pub loop-w-preserved : goal.loop-w-preserved
loop-w-preserved g c =
    let a = c.args in
    let w = c.loop-w.w in
    one-more g.met.A.Way.laws (g.S.Source.bytes a.d) g.met.K.Sink.laws a.at (8 * a.n) a.to a.out.now c.requires.1 (8 * w) 8 (omega arith)
    (bytes_of a.s.now) (rw length-bytes (omega arith)) c.loop-w.invariant.1 c.loop-w.invariant.0 c.take_word.ensures (8 * (w + 1)) (omega arith)
