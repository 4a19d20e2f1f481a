-- Laws of bytes put into a buffer, and of numbers as bytes.
-- Assumes nothing.
use mathlib.Core.Path.{◌≡◌, refl, sym, ap, ◌∙◌, ap₂}
use mathlib.Core.List.{List, [], ◌∷◌, ◌++◌, append_assoc, append-nil}
use Prim.Native.Nat.{ℕ, zero, suc, ◌+◌, ◌-◌, ◌/◌, ◌≤◌, ◌<◌}
use native.Mathlib.Omega.{arith}
use native.Mathlib.Nat.{add_assoc, zero-add}
use lib.ListN.{length, take, drop, length-append, length-drop, take-append-drop, set, drop_of_length-le}
use lib.Seq.{length-take-le, take-append-le, drop-append-le, drop-append-add, drop-drop, take-take, take_at, drop_at, sets, sets-eq, set_at, drop-cons}
use borrow.Rule.Slice.PartMut.{put_mid}
use Rattle.bytes_le.specs.Bytes.{Bytes, le, put_bytes, unle}

pub length-le : (n x : ℕ) → length (le n x) ≡ n
length-le zero x = refl
length-le (suc n) x = ap suc (length-le n (x / 256))

pub length-put : (l : List ℕ) (at : ℕ) (vs : List ℕ) → at + length vs ≤ length l → length (put_bytes l at vs) ≡ length l
unfolding put_bytes
length-put l at vs h =
    let h₁ : at ≤ length l = omega arith in
    simp (length-append, length-drop, length-take-le at l h₁) (omega arith)

-- two runs that touch are one
pub put-put : (l : List ℕ) (at : ℕ) (vs ws : List ℕ) (n : ℕ) → n ≡ at + length vs → n + length ws ≤ length l
    → put_bytes (put_bytes l at vs) n ws ≡ put_bytes l at (vs ++ ws)
unfolding put_bytes
put-put l at vs ws n e h =
    let h₁ : at ≤ length l = omega arith in
    let e₁ : length (take at l ++ vs) ≡ n = simp (length-append, length-take-le at l h₁) (sym e) in
    let f : take at l ++ (vs ++ drop (at + length vs) l) ≡ (take at l ++ vs) ++ drop n l = rw e (sym (append_assoc (take at l) vs (drop (at + length vs) l))) in
    let t : take n ((take at l ++ vs) ++ drop n l) ≡ take at l ++ vs = take_at (take at l ++ vs) (drop n l) n e₁ in
    let d : drop (n + length ws) ((take at l ++ vs) ++ drop n l) ≡ drop (n + length ws) l =
    ap (λ (k : ℕ). drop (k + length ws) ((take at l ++ vs) ++ drop n l)) (sym e₁) ∙ drop-append-add (take at l ++ vs) (drop n l) (length ws) ∙ drop-drop (length ws) n l in
    ap (λ (r : List ℕ). take n r ++ (ws ++ drop (n + length ws) r)) f
    ∙ ap (λ (r : List ℕ). r ++ (ws ++ drop (n + length ws) ((take at l ++ vs) ++ drop n l))) t
    ∙ ap (λ (r : List ℕ). (take at l ++ vs) ++ (ws ++ r)) d
    ∙ append_assoc (take at l) vs (ws ++ drop (n + length ws) l)
    ∙ ap (λ (r : List ℕ). take at l ++ r) (sym (append_assoc vs ws (drop (n + length ws) l)))
    ∙ ap (λ (k : ℕ). take at l ++ ((vs ++ ws) ++ drop k l)) (ap (λ (k : ℕ). k + length ws) e ∙ add_assoc at (length vs) (length ws) ∙ ap (λ (k : ℕ). at + k) (sym (length-append vs ws)))

-- what stands in front of the end of what was put
pub take_put : (l : List ℕ) (at : ℕ) (vs : List ℕ) (n : ℕ) → n ≡ at + length vs → at ≤ length l
    → take n (put_bytes l at vs) ≡ take at l ++ vs
unfolding put_bytes
take_put l at vs n e h =
    ap (take n) (sym (append_assoc (take at l) vs (drop (at + length vs) l)))
    ∙ take_at (take at l ++ vs) (drop (at + length vs) l) n (simp (length-append, length-take-le at l h) (sym e))

-- a callee that was lent `l[at..]` and put vs at its front
pub put-part : (l : List ℕ) (at : ℕ) (vs : List ℕ) (k : ℕ) → at + length vs ≤ length l → k ≡ length l - at
    → take at l ++ (put_bytes (drop at l) 0 vs ++ drop k (drop at l)) ≡ put_bytes l at vs
unfolding put_bytes
put-part l at vs k h e =
    let z : drop k (drop at l) ≡ [] = drop-drop k at l ∙ drop_of_length-le l {i = at + k} (omega arith) in
    let e₁ : drop (0 + length vs) (drop at l) ≡ drop (at + length vs) l = ap (λ (i : ℕ). drop i (drop at l)) (zero-add (length vs)) ∙ drop-drop (length vs) at l in
    ap (λ (r : List ℕ). take at l ++ ((vs ++ drop (0 + length vs) (drop at l)) ++ r)) z
    ∙ ap (λ (r : List ℕ). take at l ++ r) (append-nil (vs ++ drop (0 + length vs) (drop at l)))
    ∙ ap (λ (r : List ℕ). take at l ++ (vs ++ r)) e₁

-- a run of stores is a put
pub sets-put : (vs l : List ℕ) (at : ℕ) → at + length vs ≤ length l → sets l at vs ≡ put_bytes l at vs
unfolding put_bytes
sets-put vs l at h = sets-eq vs l at h ∙ append_assoc (take at l) vs (drop (at + length vs) l)

-- a copy over a part is a put
pub part-put : (l vs : List ℕ) (at k : ℕ) → k ≡ length vs → put_mid at k l vs ≡ put_bytes l at vs
unfolding put_bytes
part-put l vs at k e = ap (λ (r : List ℕ). take at l ++ (vs ++ r)) (drop-drop k at l ∙ ap (λ (i : ℕ). drop (at + i) l) e)

-- one more byte
pub put-snoc : (l : List ℕ) (at : ℕ) (vs : List ℕ) (n v : ℕ) → n ≡ at + length vs → n < length l
    → set (put_bytes l at vs) n v ≡ put_bytes l at (vs ++ (v ∷ []))
unfolding put_bytes
put-snoc l at vs n v e h =
    let h₁ : at ≤ length l = omega arith in
    let e₁ : length (take at l ++ vs) ≡ n = simp (length-append, length-take-le at l h₁) (sym e) in
    let f : take at l ++ (vs ++ drop (at + length vs) l) ≡ (take at l ++ vs) ++ drop n l = rw e (sym (append_assoc (take at l) vs (drop (at + length vs) l))) in
    let e₂ : suc n ≡ at + length (vs ++ (v ∷ [])) = simp length-append (omega arith) in
    ap (λ (r : List ℕ). set r n v) (f ∙ ap (λ (r : List ℕ). (take at l ++ vs) ++ r) (drop-cons l n 0 h))
    ∙ set_at (take at l ++ vs) (lib.ListN.get_or l n 0) (drop (suc n) l) v n e₁
    ∙ append_assoc (take at l) vs (v ∷ drop (suc n) l)
    ∙ ap (λ (r : List ℕ). take at l ++ r) (sym (append_assoc vs (v ∷ []) (drop (suc n) l)))
    ∙ ap (λ (k : ℕ). take at l ++ ((vs ++ (v ∷ [])) ++ drop k l)) e₂

pub put-none : (l : List ℕ) (at : ℕ) → l ≡ put_bytes l at []
unfolding put_bytes
put-none l at = sym (ap (λ (k : ℕ). take at l ++ drop k l) (native.Mathlib.Nat.add-zero at) ∙ take-append-drop at l)

-- all of it
pub put_whole : (l vs : List ℕ) → length l ≤ length vs → put_bytes l 0 vs ≡ vs
unfolding put_bytes
put_whole l vs h = ap (λ (r : List ℕ). vs ++ r) (drop_of_length-le l {i = 0 + length vs} (omega arith)) ∙ append-nil vs

-- ---- numbers read back
pub unle-2 : (x : ℕ) → x < 65536 → unle (le 2 x) ≡ x
unle-2 x h = omega arith

pub unle-4 : (x : ℕ) → x < 4294967296 → unle (le 4 x) ≡ x
unle-4 x h = omega arith

pub unle-8 : (x : ℕ) → x < 18446744073709551616 → unle (le 8 x) ≡ x
unle-8 x h = omega arith

-- ---- put, from the front
pub put_front : (l vs : Bytes) → put_bytes l 0 vs ≡ vs ++ drop (length vs) l
unfolding put_bytes
put_front l vs = ap (λ (k : ℕ). vs ++ drop k l) (native.Mathlib.Nat.zero-add (length vs))

pub put_next : (z : ℕ) (l : Bytes) (n : ℕ) (vs : Bytes) → put_bytes (z ∷ l) (suc n) vs ≡ z ∷ put_bytes l n vs
unfolding put_bytes
put_next z l n vs =
    let e : suc n + length vs ≡ suc (n + length vs) = omega arith in
    ap (λ (k : ℕ). z ∷ (take n l ++ (vs ++ drop k (z ∷ l)))) e

-- ---- what is put stands there
pub drop-put : (l : Bytes) (n : ℕ) (vs : Bytes) → n ≤ length l → take (length vs) (drop n (put_bytes l n vs)) ≡ vs
unfolding put_bytes
drop-put l n vs h =
    ap (take (length vs)) (drop_at (take n l) (vs ++ drop (n + length vs) l) n (length-take-le n l h))
    ∙ take_at vs (drop (n + length vs) l) (length vs) refl

-- what stands behind what is put stays
pub behind-put : (l : Bytes) (at : ℕ) (vs : Bytes) (n : ℕ) → at + length vs ≤ n → at ≤ length l → drop n (put_bytes l at vs) ≡ drop n l
unfolding put_bytes
behind-put l at vs n h ha =
    let b : Bytes = take at l ++ vs in
    let e : length b ≡ at + length vs = simp (length-append, length-take-le at l ha) in
    let f : n ≡ length b + (n - length b) = omega arith in
    let g : at + length vs + (n - length b) ≡ n = omega arith in
    ap₂ drop f (sym (append_assoc (take at l) vs (drop (at + length vs) l)))
    ∙ drop-append-add b (drop (at + length vs) l) (n - length b)
    ∙ drop-drop (n - length b) (at + length vs) l ∙ ap (λ (k : ℕ). drop k l) g

-- ---- put into one of two lists
pub put-left : (a b : Bytes) (i : ℕ) (vs : Bytes) → i + length vs ≤ length a → put_bytes (a ++ b) i vs ≡ put_bytes a i vs ++ b
unfolding put_bytes
put-left a b i vs g =
    ap₂ (λ (x y : Bytes). x ++ (vs ++ y)) (take-append-le i a b (omega arith)) (drop-append-le (i + length vs) a b g)
    ∙ ap (λ (l : Bytes). take i a ++ l) (sym (append_assoc vs (drop (i + length vs) a) b))
    ∙ sym (append_assoc (take i a) (vs ++ drop (i + length vs) a) b)

pub put_last : (a b : Bytes) (i : ℕ) (vs : Bytes) → length a ≡ i → length vs ≡ length b → put_bytes (a ++ b) i vs ≡ a ++ vs
unfolding put_bytes
put_last a b i vs e f =
    let z : drop (i + length vs) (a ++ b) ≡ [] = drop_of_length-le (a ++ b) {i = i + length vs} (rw length-append (omega arith)) in
    ap₂ (λ (x y : Bytes). x ++ (vs ++ y)) (take_at a b i e) z
    ∙ ap (λ (l : Bytes). a ++ l) (append-nil vs)

-- ---- parts
-- the length of a part
pub length_part : (d : Bytes) (at j : ℕ) → at + j ≤ length d → length (take j (drop at d)) ≡ j
length_part d at j h = length-take-le j (drop at d) (rw length-drop (omega arith))

-- a part of a part
pub part-part : (l : Bytes) (n at r : ℕ) → at + r ≤ n → take r (drop at (take n l)) ≡ take r (drop at l)
part-part l n zero r h = take-take r n l (omega arith)
part-part [] zero (suc at) r h = refl
part-part [] (suc n) (suc at) r h = refl
part-part (x ∷ l) zero (suc at) r h = absurd (omega arith)
part-part (x ∷ l) (suc n) (suc at) r h = part-part l n at r (omega arith)
