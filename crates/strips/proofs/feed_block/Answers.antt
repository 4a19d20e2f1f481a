-- `strips::feed_block` meets its contract. The loop's invariant: the first j bytes are put, and b holds them.
-- Assumes nothing.
use mathlib.Core.Path.{◌≡◌, sym, ap, ◌∙◌}
use Prim.Native.Nat.{◌+◌, ◌<◌}
use native.Mathlib.Nat.{add-zero}
use native.Mathlib.Omega.{arith}
use lib.Bits.{bit_xor}
use lib.ListN.{length, take, get_or, set}
use lib.Seq.{length-take-le}
use Rattle.bytes_le.specs.Bytes.{Bytes, put_bytes}
use Rattle.bytes_le.proofs.Laws.{put-none, put-snoc}
use Rattle.strips.specs.Machine.{held, fed_bytes}
use Rattle.strips.proofs.Machine.{length-fed}
use Rattle.strips.proofs.Turns.{byte-fed, byte-out}
use Rattle.strips.proofs.feed_block.Goals as goal

pub loop-j-init : goal.loop-j-init
loop-j-init c = (ap (held c.args.b.now) (add-zero _), put-none _ _)

pub loop-j-preserved : goal.loop-j-preserved
loop-j-preserved c =
    let l = c.loop-j in
    let a = c.args in
    let b = a.b.now in
    let m = a.m.now in
    let hm : l.j < length a.m.now = c.loop-j-test.true in
    let hf : a.fill + l.j < 128 = omega arith in
    let lp : length (fed_bytes 128 (held a.b.now a.fill) (take l.j a.m.now)) ≡ l.j =
    length-fed 128 (held b a.fill) (take l.j m) ∙ length-take-le l.j m (omega arith) in (
      byte-fed m l.j hm b a.fill hf l.b l.invariant.0,
      ap (λ (o : Bytes). set o l.j (bit_xor (get_or l.b (a.fill + l.j) 0) (get_or m l.j 0))) l.invariant.1
          ∙ put-snoc a.out.now 0 (fed_bytes 128 (held b a.fill) (take l.j m)) l.j _ (omega arith) (omega arith)
          ∙ ap (put_bytes a.out.now 0) (sym (byte-out m l.j hm b a.fill hf l.b l.invariant.0)),
    )
