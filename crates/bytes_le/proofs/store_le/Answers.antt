-- `bytes_le::store_le` meets its contract. The loop's invariant: the low bytes are put, and rest is what is left of x.
-- Assumes nothing.
use Rattle.std.proofs.Common.{List, ◌≡◌, ◌+◌, ◌-◌, ◌<◌, ◌≤◌, ℕ, suc, refl, arith, ap, ◌∙◌, add-one, length, take, drop}
use borrow.Rule.Slice.PartMut.{put_mid}
use Rattle.bytes_le.specs.Bytes.{le}
use Rattle.bytes_le.proofs.Laws.{part-put, sets-put, put_whole, length-le, length_part}
use Rattle.bytes_le.proofs.store_le.Goals as goal

part-length : (l : List ℕ) (at n : ℕ) → at + n ≤ length l → length (take (at + n - at) (drop at l)) ≡ n
part-length l at n h = let k : at + n - at ≡ n = omega arith in ap (λ (i : ℕ). length (take i (drop at l))) k ∙ length_part l at n h

pub loop-byte-preserved : goal.loop-byte-preserved
loop-byte-preserved c =
    let l = c.loop-byte in
    let a = c.args in
    let n : l.byte-index < a.n = omega (arith, part-length a.out.now a.at a.n c.requires) in
    let s : a.n - l.byte-index ≡ suc (a.n - suc l.byte-index) = omega arith in
    rw (add-one l.byte-index) (rw s at l.invariant)

pub returns : goal.returns
returns c =
    let l = c.loop-byte in
    let a = c.args in
    let h : a.at + a.n ≤ length a.out.now = c.requires in
    let part = take (a.at + a.n - a.at) (drop a.at a.out.now) in
    let len : length part ≡ a.n = part-length a.out.now a.at a.n h in
    let z : a.n - l.byte-index ≡ 0 = omega (arith, len) in
    let e : length (le a.n a.x) ≡ a.n = length-le a.n a.x in
    let items : l.byte-items ≡ le a.n a.x = rw z at l.invariant ∙ sets-put (le a.n a.x) part 0 (omega (arith, len, e)) ∙ put_whole part (le a.n a.x) (omega (arith, len, e)) in
    (refl, ap (put_mid _ _ _) items ∙ part-put a.out.now (le a.n a.x) a.at _ (omega (arith, e)))
