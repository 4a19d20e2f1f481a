-- `blocks::take_blocks` meets its contract. The loop's invariant: what is put before here is put, and what is left gives the rest of it and the same state at the end.
-- Assumes nothing.
use mathlib.Core.Path.{refl, ◌∙◌}
use Prim.Native.Nat.{◌-◌, ◌*◌}
use native.Mathlib.Omega.{arith}
use Rattle.blocks.proofs.Turns.{ended, left_in, put-end, put-turn, room_in, turn}
use Rattle.blocks.proofs.take_blocks.Goals as goal

pub take_full-requires : goal.take_full-requires
take_full-requires g c =
    let a = c.args in
    let i = c.loop-at.invariant in (
      c.requires.1,
      room_in g.A.Way.taken (8 * a.n) (omega arith) (omega arith) a.more (g.S.Source.bytes a.d) g.met.K.Sink.laws a.from a.l a.to a.out.now c.requires.3
          c.loop-at.at i.2 (8 * a.n) (omega arith) c.loop-at.auto.out,
    )

pub loop-at-preserved : goal.loop-at-preserved
loop-at-preserved g c =
    let a = c.args in
    let s = c.loop-at.s in
    let q = c.take_full.ensures in
    let i = c.loop-at.invariant in
    let d = left_in g.A.Way.taken (8 * a.n) (omega arith) (omega arith) a.more (g.S.Source.bytes a.d) g.met.K.Sink.laws a.from a.l a.to a.out.now c.requires.3 c.loop-at.at i.2 i.0 in (
      omega arith,
      λ end. turn g.met.A.Way.laws (8 * a.n) (omega arith) (omega arith) a.more d s c.loop-at-test.true q.0 c.finish.ensures end ∙ i.1 end,
      put-turn g.met.A.Way.laws (8 * a.n) (omega arith) (omega arith) a.more d s g.met.K.Sink.laws i.2 c.requires.3.2 refl _ c.loop-at-test.true q.0 c.finish.ensures q.1,
    )

pub take_bytes-requires : goal.take_bytes-requires
take_bytes-requires g c =
    let a = c.args in
    let at = c.loop-at.at in
    let i = c.loop-at.invariant in (
      omega arith,
      room_in g.A.Way.taken (8 * a.n) (omega arith) (omega arith) a.more (g.S.Source.bytes a.d) g.met.K.Sink.laws a.from a.l a.to a.out.now c.requires.3
          at i.2 (a.l - at) (omega arith) c.loop-at.auto.out,
    )

pub returns : goal.returns
returns g c =
    let a = c.args in
    let s = c.loop-at.s in
    let q = c.take_bytes.ensures in
    let i = c.loop-at.invariant in
    let d = left_in g.A.Way.taken (8 * a.n) (omega arith) (omega arith) a.more (g.S.Source.bytes a.d) g.met.K.Sink.laws a.from a.l a.to a.out.now c.requires.3 c.loop-at.at i.2 i.0 in (
      c.loop-at-test.false,
      λ end. ended g.met.A.Way.laws (8 * a.n) (omega arith) (omega arith) a.more d s c.loop-at-test.false i.0 q.0 end ∙ i.1 end,
      put-end g.met.A.Way.laws (8 * a.n) (omega arith) (omega arith) a.more d s g.met.K.Sink.laws i.2 c.requires.3.2 refl c.loop-at-test.false i.0 q.1,
    )
