-- `blocks::take_word` meets its contract: `taken-word`.
-- Assumes nothing.
use mathlib.Core.Path.{◌≡◌, ap, ◌∙◌}
use Prim.Native.Nat.{◌*◌}
use native.Mathlib.Omega.{arith}
use lib.ListN.{length, take, drop}
use Rattle.state_bytes.specs.StateBytes.{bytes_of}
use Rattle.state_bytes.proofs.Lengths.{length-bytes}
use Rattle.blocks.proofs.Words.{taken-word}
use Rattle.blocks.proofs.take_word.Goals as goal

pub returns : goal.returns
returns g c =
    let a = c.args in
    let n : length (bytes_of a.s.now) ≡ 160 = length-bytes a.s.now in
    let z = c.word-z in
    let k = c.load-k in
    let x = c.taken-x in
    let e = taken-word g.met.A.Way.laws (bytes_of a.s.now) (8 * a.w) a.l z.result k.result x.result (take a.l (drop a.at (g.S.Source.bytes a.d a.out.now)))
    c.requires.1 (omega arith) z.ensures k.ensures x.ensures in
    (c.set_word.ensures ∙ e.0, c.put.ensures ∙ ap (g.K.Sink.put a.out.now a.to) e.1)
