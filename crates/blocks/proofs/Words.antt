-- A word of the state of which only the first bytes count: what is xored into it, and what takes its place; and such bytes read across two parts.
-- Assumes nothing.
use mathlib.Core.Path.{◌≡◌, refl, sym, ap, ap₂, ◌∙◌}
use mathlib.Core.List.{[], ◌∷◌, ◌++◌, append_assoc}
use Prim.Native.Nat.{ℕ, zero, suc, ◌+◌, ◌-◌, ◌*◌, ◌/◌, ◌%◌, ◌^◌, ◌≤◌, ◌<◌}
use native.Mathlib.Nat.{le_refl, le_of_suc-le-suc, mod-lt, not-suc-le-zero, one-le-pow, one-mul, pow-suc, zero-lt-suc}
use native.Mathlib.Omega.{arith}
use lib.Arith.{mod-mul}
use lib.Bits.{bit_xor, xor_shr, xor_mod, xor_zero_r}
use lib.Pow.{pow-add, shl_exact}
use lib.ListN.{length, take, drop, length-append, length-drop, take-append-drop}
use lib.Seq.{drop-append-le, drop-drop, length-take-le, take_all, take-append-add, take_at}
use Rattle.bytes_le.specs.Bytes.{Bytes, le, put_bytes}
use Rattle.bytes_le.proofs.Laws.{length-le, put-put, take_put}
use Rattle.blocks.specs.Sealing.{◌⊕₈◌}
use Rattle.blocks.specs.Ways.{Takes}
use Rattle.blocks.specs.WayLaws.{length-xor, xor-front, xor-none}
use Rattle.blocks.proofs.Runs.{le-xor}

-- ---- the low bytes of a number
take-le : (l n x : ℕ) → l ≤ n → take l (le n x) ≡ le l x
take-le zero n x h = refl
take-le (suc l) zero x h = absurd (not-suc-le-zero h)
take-le (suc l) (suc n) x h = ap (λ (b : Bytes). x % 256 ∷ b) (take-le l n (x / 256) (le_of_suc-le-suc h))

le-digit : (l q r : ℕ) → r < 256 → le (suc l) (q * 256 + r) ≡ r ∷ le l q
le-digit l q r h =
    let lo : (q * 256 + r) % 256 ≡ r = omega arith in
    let hi : (q * 256 + r) / 256 ≡ q = omega arith in
    ap₂ (λ (z k : ℕ). z ∷ le l k) lo hi

le_low : (l x : ℕ) → le l (x % 256 ^ l) ≡ le l x
le_low zero x = refl
le_low (suc l) x =
    ap (λ (n : ℕ). le (suc l) (x % n)) (pow-suc 256 l)
    ∙ ap (le (suc l)) (mod-mul x (one-le-pow l 256 (zero-lt-suc 255)) (zero-lt-suc 255))
    ∙ le-digit l (x / 256 % 256 ^ l) (x % 256) (mod-lt x (zero-lt-suc 255))
    ∙ ap (λ (b : Bytes). x % 256 ∷ b) (le_low l (x / 256))

pub low-xored : (l z k : ℕ) → l ≤ 8 → le l (bit_xor z k % 256 ^ l) ≡ le 8 z ⊕₈ le l k
low-xored l z k h =
    le_low l (bit_xor z k) ∙ le-xor l z k ∙ ap (λ (b : Bytes). b ⊕₈ le l k) (sym (take-le l 8 z h))
    ∙ xor-front (le 8 z) (le l k) l (rw length-le (le_refl l))

-- ---- a number of l bytes is xored into one whose n bytes begin u: the bytes after the first l stay
xored : (n l z k : ℕ) (u : Bytes) → l ≤ n → le n z ≡ take n u → k < 256 ^ l → le n (bit_xor z k) ≡ (u ⊕₈ le l k) ++ drop l (take n u)
xored n zero z k u hl e h =
    let k₀ : k ≡ 0 = omega arith in
    ap (λ (m : ℕ). le n (bit_xor z m)) k₀ ∙ ap (le n) (xor_zero_r z) ∙ e ∙ ap (λ (b : Bytes). b ++ take n u) (sym (xor-none u))
xored zero (suc l) z k u hl e h = absurd (not-suc-le-zero hl)
xored (suc n) (suc l) z k [] hl e h = let s : suc n ≡ 0 = sym (length-le (suc n) z) ∙ ap length e in absurd (omega arith)
xored (suc n) (suc l) z k (x ∷ u) hl e h =
    let q : k / 256 < 256 ^ l = let p : k < 256 ^ l * 256 = rw pow-suc at h in omega arith in
    let hx : z % 256 ≡ x = cc in
    let hu : le n (z / 256) ≡ take n u = cc in
    ap₂ (λ (y : ℕ) (b : Bytes). y ∷ b) (xor_mod z k 8 ∙ ap (λ (y : ℕ). bit_xor y (k % 256)) hx)
    (ap (le n) (xor_shr z k 8) ∙ xored n l (z / 256) (k / 256) u (le_of_suc-le-suc hl) hu q)

-- ---- of n bytes, those that stay as they are need not be put
put-kept : (v x : Bytes) (i n : ℕ) → length x ≤ n → i + n ≤ length v → put_bytes v i (x ++ drop (length x) (take n (drop i v))) ≡ put_bytes v i x
unfolding put_bytes
put-kept v x i n hx h =
    let r = drop i v in
    let lr : length (drop i v) ≡ length v - i = length-drop i v in
    let lt : length (take n (drop i v)) ≡ n = length-take-le n (drop i v) (omega arith) in
    let ln : i + length (x ++ drop (length x) (take n (drop i v))) ≡ i + n = rw (length-append, length-drop) (omega arith) in
    ap (λ (k : ℕ). take i v ++ ((x ++ drop (length x) (take n r)) ++ drop k v)) ln
    ∙ ap (λ (b : Bytes). take i v ++ b)
    (append_assoc x (drop (length x) (take n r)) (drop (i + n) v)
    ∙ ap (λ (b : Bytes). x ++ b)
    (ap (λ (b : Bytes). drop (length x) (take n r) ++ b) (sym (drop-drop n i v))
    ∙ sym (drop-append-le (length x) (take n r) (drop n r) (omega arith))
    ∙ ap (drop (length x)) (take-append-drop n r) ∙ drop-drop (length x) i v))

-- ---- z is the word of v whose bytes begin at index i, k the number of the l bytes d
module _ (v : Bytes) (i l z : ℕ) (hl : l ≤ 8) (hv : i + 8 ≤ length v) (ez : le 8 z ≡ take 8 (drop i v)) (k : ℕ) (d : Bytes) (ek : le l k ≡ d) (hk : k < 256 ^ l) where
  ld : length d ≡ l
  ld = ap length (sym ek) ∙ length-le l k

  fit : length d ≤ length (drop i v)
  fit = let e : length d ≡ l = ld in rw length-drop (omega arith)

  lx : length (drop i v ⊕₈ d) ≡ l
  lx = length-xor (drop i v) d fit ∙ ld

  word-xored : le 8 (bit_xor z k) ≡ (drop i v ⊕₈ d) ++ drop l (take 8 (drop i v))
  word-xored = xored 8 l z k (drop i v) hl ez hk ∙ ap (λ (b : Bytes). (drop i v ⊕₈ b) ++ drop l (take 8 (drop i v))) ek

  -- the l bytes of the sum
  bytes-xored : le l (bit_xor z k) ≡ drop i v ⊕₈ d
  bytes-xored =
      sym (take-le l 8 (bit_xor z k) hl) ∙ ap (take l) word-xored ∙ take_at (drop i v ⊕₈ d) (drop l (take 8 (drop i v))) l lx

  -- the word with k xored in
  absorbed : put_bytes v i (le 8 (bit_xor z k)) ≡ put_bytes v i (drop i v ⊕₈ d)
  absorbed =
      let n : length (drop i v ⊕₈ d) ≡ l = lx in
      ap (put_bytes v i) (word-xored ∙ ap (λ (m : ℕ). (drop i v ⊕₈ d) ++ drop m (take 8 (drop i v))) (sym n))
      ∙ put-kept v (drop i v ⊕₈ d) i 8 (omega arith) hv

-- ---- the same, where x is what of the bytes d, whose number is k, is taken at z
pub taken-word : {taken : Bytes → Bytes → Bytes} → Takes taken → (v : Bytes) (i l z k x : ℕ) (d : Bytes) → l ≤ 8 → i + 8 ≤ length v → le 8 z ≡ take 8 (drop i v)
    → (le l k ≡ d) × (k < 256 ^ l) → (le l x ≡ taken (le 8 z) (le l k)) × (x < 256 ^ l)
    → (put_bytes v i (le 8 (bit_xor z x)) ≡ put_bytes v i (drop i v ⊕₈ taken (drop i v) d)) × (le l (bit_xor z k) ≡ drop i v ⊕₈ d)
taken-word {taken} laws v i l z k x d hl hv ez hk hx =
    let hd : length d ≤ 8 = let e : length d ≡ l = ap length (sym hk.0) ∙ length-le l k in omega arith in
    let ex : le l x ≡ taken (drop i v) d = hx.0 ∙ ap₂ taken ez hk.0 ∙ laws.front (drop i v) d 8 hd in
    (absorbed v i l z hl hv ez x (taken (drop i v) d) ex hx.1, bytes-xored v i l z hl hv ez k d hk.0 hk.1)

-- ---- a shift by l bytes
pow-bytes : (l : ℕ) → 2 ^ (8 * l) ≡ 256 ^ l
pow-bytes zero = refl
pow-bytes (suc l) =
    let e : 8 * suc l ≡ 8 * l + 8 = omega arith in
    ap (λ (n : ℕ). 2 ^ n) e ∙ pow-add 2 (8 * l) 8 ∙ ap (λ (n : ℕ). n * 256) (pow-bytes l) ∙ sym (pow-suc 256 l)

pub shift-bytes : (l : ℕ) → l < 8 → 1 * 2 ^ (8 * l) % 2 ^ 64 ≡ 256 ^ l
shift-bytes l h = shl_exact {a = 1} 1 (8 * l) 64 (omega arith) (omega arith) ∙ one-mul (2 ^ (8 * l)) ∙ pow-bytes l

-- ---- l bytes of two parts f and g, from index at on, where the last n of f are the first of them: put one after the other into z
pub across-run : (z f g b₁ b₂ : Bytes) (at l n : ℕ) → n ≡ length f - at → at ≤ length f → n ≤ l → l ≤ length z → at + l ≤ length f + length g
    → b₁ ≡ put_bytes z 0 (take n (drop at f)) → b₂ ≡ put_bytes b₁ n (take (l - n) g) → take l b₂ ≡ take l (drop at (f ++ g))
across-run z f g b₁ b₂ at l n en ha hn hl h e₁ e₂ =
    let lf : length (drop at f) ≡ n = length-drop at f ∙ sym en in
    let lg : length (take (l - n) g) ≡ l - n = length-take-le (l - n) g (omega arith) in
    let t : take n (drop at f) ≡ drop at f = take_all n (drop at f) (omega arith) in
    let e : l ≡ length (drop at f) + (l - n) = omega arith in
    let s : l ≡ 0 + length (drop at f ++ take (l - n) g) = rw length-append (omega arith) in
    ap (take l) (e₂ ∙ ap (λ (b : Bytes). put_bytes b n (take (l - n) g)) (rw t at e₁) ∙ put-put z 0 (drop at f) (take (l - n) g) n (omega arith) (omega arith))
    ∙ take_put z 0 (drop at f ++ take (l - n) g) l s (omega arith)
    ∙ sym (ap₂ take e (drop-append-le at f g ha) ∙ take-append-add (drop at f) g (l - n))
