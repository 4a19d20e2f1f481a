-- The bytes that std's `to_le_bytes` and `from_le_bytes` speak of, as `le` and `unle` have them.
-- Assumes nothing.
use mathlib.Core.Path.{◌≡◌, refl, sym, ap, ap₂, ◌∙◌}
use mathlib.Core.List.{[], ◌∷◌, ◌++◌}
use Prim.Native.Nat.{ℕ, zero, suc, ◌+◌, ◌-◌, ◌*◌, ◌/◌, ◌%◌, ◌^◌, ◌≤◌, ◌<◌}
use native.Mathlib.Nat.{div-div-eq-div-mul, pow-suc, pow-le-pow_right, zero-lt-suc, lt_of_lt_of_le}
use native.Mathlib.Omega.{arith}
use lib.ListN.{length, take, drop, get_or, replicate, length-append, length-drop}
use Rattle.std.proofs.lemmas.Nat.{le_bytes_8}
use Rattle.std.proofs.lemmas.List.{drop-replicate}
use Rattle.std.specs.Int.{byte_at, bytes_low_first, to_le_bytes, from_le_bytes, w64}
use Rattle.bytes_le.specs.Bytes.{Bytes, AllBytes, le, unle, le_at}
use Rattle.bytes_le.proofs.Laws.{unle-8, length_part}
use Rattle.bytes_le.proofs.All.{all_append, all_take, all_drop, le-at, le_at-less}

pub fits : (n x : ℕ) → n < 8 → x < 256 ^ suc n → x < 2 ^ 64
fits n x h l = lt_of_lt_of_le l (pow-le-pow_right {n = 256} (zero-lt-suc 255) h)

low-le : (k i x : ℕ) → bytes_low_first i k x ≡ le k (x / 256 ^ i)
low-le zero i x = refl
low-le (suc k) i x =
    let next : x / 256 ^ suc i ≡ x / 256 ^ i / 256 = ap (λ (d : ℕ). x / d) (pow-suc 256 i) ∙ sym (div-div-eq-div-mul x (256 ^ i) 256) in
    ap₂ (λ (b : ℕ) (r : Bytes). b ∷ r) (first i) (low-le k (suc i) x ∙ ap (le k) next)
  where
    first : (i : ℕ) → byte_at i x ≡ x / 256 ^ i % 256
    first zero = omega arith
    first (suc i) = refl

pub to-le : (x : ℕ) → to_le_bytes w64 x ≡ le 8 x
to-le x = low-le 8 0 x ∙ ap (le 8) (let e : x / 256 ^ 0 ≡ x = omega arith in e)

-- bytes are below 256
pub all-bytes : (b : Bytes) → ((i : ℕ) → get_or b i 0 < 256) → AllBytes b
all-bytes [] h = tt
all-bytes (x ∷ b) h = (h 0, all-bytes b (λ i. h (suc i)))

byte-less : (b : Bytes) → AllBytes b → (i : ℕ) → get_or b i 0 < 256
byte-less [] h i = omega arith
byte-less (x ∷ b) h zero = h.0
byte-less (x ∷ b) h (suc i) = byte-less b h.1 i

-- zeros behind are nothing
unle-zeros : (bs : Bytes) (k : ℕ) → unle (bs ++ replicate k 0) ≡ unle bs
unle-zeros [] zero = refl
unle-zeros [] (suc k) = let h = unle-zeros [] k in omega arith
unle-zeros (b ∷ bs) k = ap (λ (x : ℕ). b + 256 * x) (unle-zeros bs k)

all-zeros : (k : ℕ) → AllBytes (replicate k 0)
all-zeros zero = tt
all-zeros (suc k) = (zero-lt-suc 255, all-zeros k)

-- eight bytes
pub loaded-word : (bs : Bytes) (x : ℕ) → AllBytes bs → length bs ≡ 8 → x < 2 ^ 64 → x ≡ from_le_bytes w64 bs → (x ≡ unle bs) × (le 8 x ≡ bs)
loaded-word bs x all len f e =
    let w = sym (to-le x) ∙ le_bytes_8 bs x len (byte-less bs all) e in
    (sym (unle-8 x f) ∙ ap unle w, w)

-- n bytes, with zeros behind them
pub loaded : (b : Bytes) (at n x : ℕ) → AllBytes b → n ≤ 8 → at + n ≤ length b → x < 2 ^ 64
    → x ≡ from_le_bytes w64 (take n (drop at b) ++ drop n (replicate 8 0)) → (x ≡ le_at n b at) × (le n x ≡ take n (drop at b)) × (x < 256 ^ n)
unfolding le_at
loaded b at n x all h l f e =
    let part : Bytes = take n (drop at b) in
    let bs : Bytes = part ++ drop n (replicate 8 0) in
    let len : length bs ≡ 8 = simp (length-append, length-drop, length_part b at n l) (omega arith) in
    let whole = loaded-word bs x (all_append part _ (all_take n _ (all_drop at b all)) (all_drop n _ (all-zeros 8))) len f e in
    let same : x ≡ unle part = whole.0 ∙ ap (λ (r : Bytes). unle (part ++ r)) (drop-replicate n 8 0) ∙ unle-zeros part (8 - n) in
    (same, ap (le n) same ∙ le-at b all n at l, rw same (le_at-less b all n at))
