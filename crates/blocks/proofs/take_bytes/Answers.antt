-- `blocks::take_bytes` meets its contract: whole words, then the word that is left.
-- Assumes nothing.
use Prim.Native.Nat.{◌*◌, ◌/◌, ◌%◌}
use native.Mathlib.Omega.{arith}
use Rattle.state_bytes.specs.StateBytes.{bytes_of}
use Rattle.state_bytes.proofs.Lengths.{length-bytes}
use Rattle.blocks.proofs.Full.{next_room, one-more}
use Rattle.blocks.proofs.take_bytes.Goals as goal

pub take_word-requires : goal.take_word-requires
take_word-requires g c =
    let a = c.args in (
      omega arith,
      omega arith,
      next_room g.met.A.Way.laws (g.S.Source.bytes a.d) g.met.K.Sink.laws a.at a.n a.to a.out.now c.requires.1 (8 * (a.n / 8)) (a.n % 8) (omega arith)
          (bytes_of a.s.now) (rw length-bytes (omega arith)) c.take_words.ensures.1 c.take_words.auto.out,
    )

pub returns : goal.returns
returns g c =
    let a = c.args in
    one-more g.met.A.Way.laws (g.S.Source.bytes a.d) g.met.K.Sink.laws a.at a.n a.to a.out.now c.requires.1 (8 * (a.n / 8)) (a.n % 8) (omega arith)
    (bytes_of a.s.now) (rw length-bytes (omega arith)) c.take_words.ensures.1 c.take_words.ensures.0 c.take_word.ensures a.n (omega arith)
