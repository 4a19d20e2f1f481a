-- `bytes_le::put_bytes` meets its contract. The loop's invariant: the first i bytes are put.
-- Assumes nothing.
use mathlib.Core.Path.{◌≡◌, sym, ap, ◌∙◌}
use mathlib.Core.List.{List}
use Prim.Native.Nat.{ℕ, ◌+◌, ◌<◌, ◌≤◌}
use native.Mathlib.Omega.{arith}
use native.Mathlib.Numerals.{add-one}
use lib.ListN.{length, take, get_or, set}
use lib.Seq.{take-suc, length-take-le}
use Rattle.bytes_le.specs.Bytes.{put_bytes}
use Rattle.bytes_le.proofs.Laws.{put-none, put-snoc}
use Rattle.bytes_le.proofs.put_bytes.Goals as goal

pub loop-i-init : goal.loop-i-init
loop-i-init c = put-none _ _

pub loop-i-preserved : goal.loop-i-preserved
loop-i-preserved c =
    let a = c.args in
    let h : c.loop-i.i < length a.src.now = c.loop-i-test.true in
    let h₁ : c.loop-i.i ≤ length a.src.now = omega arith in
    let e : c.loop-i.i ≡ length (take c.loop-i.i a.src.now) = sym (length-take-le c.loop-i.i a.src.now h₁) in
    ap (λ (r : List ℕ). set r (a.at + c.loop-i.i) (get_or a.src.now c.loop-i.i 0)) c.loop-i.invariant
    ∙ put-snoc a.out.now a.at (take c.loop-i.i a.src.now) (a.at + c.loop-i.i) _ (ap (λ (k : ℕ). a.at + k) e) (omega arith)
    ∙ ap (put_bytes a.out.now a.at) (sym (take-suc a.src.now c.loop-i.i 0 h) ∙ ap (λ (k : ℕ). take k a.src.now) (sym (add-one c.loop-i.i)))
