-- `strips::feed` meets its contract: within the block that waits, or over its end.
-- Assumes nothing.
use mathlib.Core.Path.{◌≡◌, sym, ap, ◌∙◌}
use Prim.Native.Nat.{ℕ, ◌+◌, ◌-◌}
use native.Mathlib.Omega.{arith}
use borrow.Author.Rules.{rules}
use lib.ListN.{length, take}
use lib.Seq.{length-take-le}
use Rattle.bytes_le.specs.Bytes.{Bytes}
use Rattle.blocks.specs.Sealing.{finish}
use Rattle.strips.specs.Machine.{Held, held}
use Rattle.strips.proofs.Turns.{loaded, strip-fed, strip-put}
use Rattle.strips.proofs.feed.Goals as goal

pub returns : goal.returns
returns c =
    let a = c.args in
    let h = c.if-m-room.false in
    let q = c.feed_block-2 in
    let room = 128 - a.fill in
    let e : length (take room a.m.now) ≡ room = length-take-le room a.m.now (omega arith) in
    let w = ap (λ (n : ℕ). held q.new.b (a.fill + n)) (sym e) ∙ q.ensures.0 in
    let f = c.finish.ensures ∙ ap (λ (b : Bytes). finish b 128 1) (loaded q.new.b _ c.load_state.ensures (search rules)) in (
      c.feed_blocks.ensures.0 ∙ ap (λ (k : Held). k.state) (strip-fed a.b.now a.fill a.m.now room (omega arith) h _ _ w f),
      c.feed_blocks.ensures.1 ∙ strip-put a.b.now a.fill a.m.now room (omega arith) h _ _ w f a.out.now _ (omega arith) q.ensures.1,
    )
