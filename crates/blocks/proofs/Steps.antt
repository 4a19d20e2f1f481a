-- The padding, which changes one byte, and the tag, which is two words.
-- Assumes nothing.
use mathlib.Core.Path.{◌≡◌, refl, sym, ap, ap₂, ◌∙◌}
use mathlib.Core.List.{[], ◌∷◌, ◌++◌, append_assoc}
use Prim.Native.Nat.{ℕ, zero, suc, ◌<◌, ◌+◌, ◌-◌, ◌*◌, ◌/◌, ◌%◌, ◌^◌, ◌≤◌}
use mathlib.Core.Bool.{Bool, true, false, cond}
use native.Mathlib.Omega.{arith}
use native.Mathlib.Nat.{le_refl, pow-suc}
use lib.Bits.{bit_xor, bit_or, xor_zero_r}
use lib.Dec.{eqb}
use lib.ListN.{length, take, drop, replicate, length-append, length-replicate}
use lib.Seq.{take-add, drop-drop}
use borrow.Enum.Match.{each_below}
use borrow.Author.Tests.{eq-eqb, ne_eqb, eqb-true, eqb-false}
use Rattle.bytes_le.specs.Bytes.{Bytes, le, put_bytes, same}
use Rattle.bytes_le.proofs.Laws.{put-put}
use Rattle.state_bytes.specs.StateBytes.{permuted}
use Rattle.bits.proofs.Cases.{two}
use Rattle.bits.proofs.Tests.{or-test, xor-test}
use Rattle.blocks.specs.Sealing.{◌⊕₈◌, absorb, finish, padding, xor_at, xor_with}
use Rattle.blocks.specs.WayLaws.{xor-front}
use Rattle.blocks.proofs.Runs.{le-xor, xor-with-run}
use Rattle.blocks.proofs.Xor.{xor-with-snoc}

-- ---- zeros change nothing
zeros : (v : Bytes) (k : ℕ) → xor_with v (replicate k 0) ≡ v
zeros v zero = refl
zeros [] (suc k) = refl
zeros (x ∷ v) (suc k) = ap₂ (λ (y : ℕ) (l : Bytes). y ∷ l) (xor_zero_r x) (zeros v k)

pub xor-with-zeros : (v b : Bytes) (k : ℕ) → xor_with v (b ++ replicate k 0) ≡ xor_with v b
xor-with-zeros v [] k = zeros v k
xor-with-zeros [] (y ∷ b) k = refl
xor-with-zeros (x ∷ v) (y ∷ b) k = ap (λ (l : Bytes). bit_xor x y ∷ l) (xor-with-zeros v b k)

-- ---- the padding
pub padded : (v p b : Bytes) (n f : ℕ) (r : Bytes) → length p ≡ n → n < length v → b ≡ xor_with v p
    → r ≡ finish b n f → r ≡ absorb v p f
unfolding absorb
padded v p b n f r l h e er =
    er ∙ ap (λ (b : Bytes). finish b n f) e
    ∙ ap (λ (k : ℕ). finish (xor_with v p) k f) (sym l)
    ∙ ap (permuted 6) (xor-with-snoc v p (padding f) (omega arith))

-- shifted t bytes up, it is byte t of a word
abbrev Shifted : ℕ → ℕ → Type 0
Shifted t f = le 8 (padding f * 2 ^ (8 * t) % 2 ^ 64) ≡ replicate t 0 ++ (padding f ∷ replicate (7 - t) 0)

shifted : (f t : ℕ) → f < 2 → t < 8 → Shifted t f
shifted f t hf h =
    let e : Shifted t 0 × Shifted t 1 =
    each_below 8 (λ t. Shifted t 0 × Shifted t 1)
    ((refl, refl), ((refl, refl), ((refl, refl), ((refl, refl), ((refl, refl), ((refl, refl), ((refl, refl), ((refl, refl), tt)))))))) t h in
    two (Shifted t) e.0 e.1 f hf

-- xored into word z, where byte n lies, it changes byte n alone. p and o, of zeros, stand for the words before and the word's bytes before
pub padded-word : (v : Bytes) (n f z : ℕ) → length v ≡ 160 → n < 160 → f < 2 → le 8 z ≡ take 8 (drop (8 * (n / 8)) v)
    → put_bytes v (8 * (n / 8)) (le 8 (bit_xor z (padding f * 2 ^ (8 * (n % 8)) % 2 ^ 64))) ≡ xor_at v n (padding f)
padded-word v n f z lv hn hf e =
    let w : ℕ = 8 * (n / 8) in
    let t : ℕ = n % 8 in
    let x : ℕ = padding f in
    let k : ℕ = x * 2 ^ (8 * t) % 2 ^ 64 in
    let p : Bytes = replicate w 0 in
    let o : Bytes = replicate t 0 in
    let lp : length p ≡ w = length-replicate w 0 in
    let lo : length (p ++ o) ≡ n = rw (length-append, length-replicate, length-replicate) (omega arith) in
    let ev : xor_with v p ≡ v = zeros v w in
    let eo : xor_with v (p ++ o) ≡ v = xor-with-zeros v p t ∙ ev in
    let run : put_bytes v w (drop w v ⊕₈ le 8 k) ≡ xor_with v (p ++ le 8 k) =
    ap₂ (λ (b : Bytes) (i : ℕ). put_bytes b i (drop i b ⊕₈ le 8 k)) (sym ev) (sym lp)
    ∙ xor-with-run v p (le 8 k) (omega arith) in
    ap (put_bytes v w) (le-xor 8 z k ∙ ap (λ (b : Bytes). b ⊕₈ le 8 k) e ∙ xor-front (drop w v) (le 8 k) 8 (le_refl 8))
    ∙ run
    ∙ ap (λ (b : Bytes). xor_with v (p ++ b)) (shifted f t hf (omega arith))
    ∙ ap (xor_with v) (sym (append_assoc p o (x ∷ replicate (7 - t) 0)) ∙ sym (append_assoc (p ++ o) (x ∷ []) (replicate (7 - t) 0)))
    ∙ xor-with-zeros v ((p ++ o) ++ (x ∷ [])) (7 - t)
    ∙ sym (xor-with-snoc v (p ++ o) x (omega arith))
    ∙ ap₂ (λ (b : Bytes) (i : ℕ). xor_at b i x) eo lo

-- ---- the tag: two words
two-words : (d : Bytes) (i a b : ℕ) → le 8 a ≡ take 8 (drop i d) → le 8 b ≡ take 8 (drop (i + 8) d) → le 8 a ++ le 8 b ≡ take 16 (drop i d)
two-words d i a b ea eb =
    ap₂ (λ (x y : Bytes). x ++ y) ea (eb ∙ ap (take 8) (sym (drop-drop 8 i d))) ∙ sym (take-add 8 8 (drop i d))

pub put-words : (o o₁ o₂ v : Bytes) (at a b : ℕ) → at + 16 ≤ length o → le 8 a ≡ take 8 v → le 8 b ≡ take 8 (drop 8 v)
    → o₁ ≡ put_bytes o at (le 8 a) → o₂ ≡ put_bytes o₁ (at + 8) (le 8 b) → o₂ ≡ put_bytes o at (take 16 v)
put-words o o₁ o₂ v at a b h ea eb e₁ e₂ =
    e₂ ∙ ap (λ (l : Bytes). put_bytes l (at + 8) (le 8 b)) e₁
    ∙ put-put o at (le 8 a) (le 8 b) (at + 8) refl (omega arith)
    ∙ ap (put_bytes o at) (two-words v 0 a b ea eb)

cond-cond : (s t u w : Bool) → w ≡ cond t u false → cond s w false ≡ cond (cond s t false) u false
cond-cond true t u w e = e
cond-cond false t u w e = refl

same-append : (p q a b : Bytes) → length p ≡ length q → same (p ++ a) (q ++ b) ≡ cond (same p q) (same a b) false
same-append [] [] a b e = refl
same-append [] (y ∷ q) a b e = absurd (omega arith)
same-append (x ∷ p) [] a b e = absurd (omega arith)
same-append (x ∷ p) (y ∷ q) a b e = cond-cond (eqb x y) (same p q) (same a b) _ (same-append p q a b (omega arith))

-- a number is its low byte and the rest
parts-test : (a b : ℕ) → cond (eqb (a % 256) (b % 256)) (eqb (a / 256) (b / 256)) false ≡ eqb a b
parts-test a b = by (eqb (a % 256) (b % 256)) (eqb (a / 256) (b / 256)) refl refl
  where
    by : (s t : Bool) → eqb (a % 256) (b % 256) ≡ s → eqb (a / 256) (b / 256) ≡ t → cond s t false ≡ eqb a b
    by true true e f = sym (eq-eqb a b (omega (arith, eqb-true (a % 256) (b % 256) e, eqb-true (a / 256) (b / 256) f)))
    by true false e f = sym (ne_eqb a b (λ z. eqb-false _ _ f (ap (λ (k : ℕ). k / 256) z)))
    by false t e f = sym (ne_eqb a b (λ z. eqb-false _ _ e (ap (λ (k : ℕ). k % 256) z)))

-- numbers of n bytes are the same where their bytes are
same-le : (n a b : ℕ) → a < 256 ^ n → b < 256 ^ n → same (le n a) (le n b) ≡ eqb a b
same-le zero a b ha hb = let e : a ≡ b = omega arith in sym (eq-eqb a b e)
same-le (suc n) a b ha hb =
    ap (λ (t : Bool). cond (eqb (a % 256) (b % 256)) t false)
    (same-le n (a / 256) (b / 256) (let h : a < 256 ^ n * 256 = rw pow-suc at ha in omega arith) (let h : b < 256 ^ n * 256 = rw pow-suc at hb in omega arith))
    ∙ parts-test a b

pub same-words : (v c : Bytes) (at a b x y : ℕ) → a < 2 ^ 64 → b < 2 ^ 64 → x < 2 ^ 64 → y < 2 ^ 64
    → le 8 a ≡ take 8 v → le 8 b ≡ take 8 (drop 8 v) → le 8 x ≡ take 8 (drop at c) → le 8 y ≡ take 8 (drop (at + 8) c)
    → eqb (bit_or (bit_xor a x) (bit_xor b y)) 0 ≡ same (take 16 v) (take 16 (drop at c))
same-words v c at a b x y ha hb hx hy ea eb ex ey =
    or-test (bit_xor a x) (bit_xor b y)
    ∙ ap₂ (λ (s t : Bool). cond s t false) (xor-test a x ∙ sym (same-le 8 a x ha hx)) (xor-test b y ∙ sym (same-le 8 b y hb hy))
    ∙ sym (same-append (le 8 a) (le 8 x) (le 8 b) (le 8 y) refl)
    ∙ ap₂ same (two-words v 0 a b ea eb) (two-words c at x y ex ey)
