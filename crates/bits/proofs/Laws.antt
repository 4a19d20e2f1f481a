-- The bits of a number: a word is made of its bits, and the operations work on each bit apart.
-- Assumes nothing.
use mathlib.Core.Path.{◌≡◌, refl, sym, ap, ap₂, ◌∙◌, subst⁻¹}
use mathlib.Core.Bool.{Bool, true, false, not, ◌&&◌, ◌||◌}
use Prim.Native.Nat.{ℕ, zero, suc, ◌+◌, ◌-◌, ◌*◌, ◌/◌, ◌%◌, ◌^◌, ◌<◌}
use native.Mathlib.Nat.{mod-lt, zero-div, one-mul, zero-lt-suc, not-suc-le-zero, le_of_suc-le-suc, pow-suc}
use native.Mathlib.Omega.{arith}
use lib.Dec.{eqb, lit<, eqb-zero-suc, eqb-suc-zero, eqb-suc-suc}
use lib.Pow.{shl_exact, shr-shr, field, mod-mod-pow, high, low}
use lib.Bits.{bit_and, bit_xor, bit_or, or_shr, or_mod, and_shr, and_mod, xor_shr, xor_mod}
use Rattle.bits.specs.Bits.{◌⊕◌, bit, digit, number, word}
use Rattle.bits.proofs.Cases.{two}

odd : (n : ℕ) → n % 2 < 2
odd n = mod-lt n (zero-lt-suc 1)

pub bit-zero : (n : ℕ) → bit n 0 ≡ eqb (n % 2) 1
unfolding bit
bit-zero n = ap (λ (k : ℕ). eqb (k % 2) 1) (let e : n / 1 ≡ n = omega arith in e)

pub bit-suc : (n z : ℕ) → bit n (suc z) ≡ bit (n / 2) z
unfolding bit
bit-suc n z =
    let e : suc z ≡ 1 + z = omega arith in
    ap (λ (k : ℕ). eqb (n / 2 ^ k % 2) 1) e ∙ ap (λ (k : ℕ). eqb (k % 2) 1) (sym (shr-shr n 1 z))

-- a bit as a number
pub digit-bit : (n z : ℕ) → digit (bit n z) ≡ n / 2 ^ z % 2
unfolding bit
digit-bit n z = two (λ k. digit (eqb k 1) ≡ k) refl refl (n / 2 ^ z % 2) (odd (n / 2 ^ z))

pub digit-odd : (n : ℕ) → digit (bit n 0) ≡ n % 2
digit-odd n = digit-bit n 0 ∙ ap (λ (k : ℕ). k % 2) (let e : n / 1 ≡ n = omega arith in e)

half-below : {n : ℕ} (k : ℕ) → n < 2 ^ suc k → n / 2 < 2 ^ k
half-below {n} k h = let e : n < 2 ^ k * 2 = rw pow-suc at h in omega arith

-- a number below 2^k is made of its k low bits
pub made-of-bits : (k n : ℕ) → n < 2 ^ k → number k (bit n) ≡ n
unfolding number
made-of-bits zero n h = let e : n < 1 = h in omega arith
made-of-bits (suc k) n h =
    ap₂ (λ (x : ℕ) (f : ℕ → Bool). x + 2 * number k f) (digit-odd n) (λ i z. bit-suc n z i)
    ∙ ap (λ (x : ℕ). n % 2 + 2 * x) (made-of-bits k (n / 2) (half-below k h))
    ∙ (omega arith)

pub number_same : (k : ℕ) (f g : ℕ → Bool) → ((z : ℕ) → z < k → f z ≡ g z) → number k f ≡ number k g
unfolding number
number_same zero f g h = refl
number_same (suc k) f g h =
    ap₂ (λ (b : Bool) (x : ℕ). digit b + 2 * x) (h 0 (zero-lt-suc k))
    (number_same k (λ z. f (suc z)) (λ z. g (suc z)) (λ z l. h (suc z) (let m : suc z < suc k = omega arith in m)))

-- a word is known by its bits
pub by_bits : (n : ℕ) (f : ℕ → Bool) → n < 2 ^ 64 → ((z : ℕ) → z < 64 → bit n z ≡ f z) → n ≡ word f
by_bits n f h e = sym (made-of-bits 64 n h) ∙ number_same 64 (bit n) f e

digit-below : (b : Bool) → digit b < 2
digit-below false = lit< tt
digit-below true = lit< tt

-- what is made of k bits is below 2^k
pub number-below : (k : ℕ) (f : ℕ → Bool) → number k f < 2 ^ k
unfolding number
number-below zero f = lit< tt
number-below (suc k) f =
    let h = number-below k (λ z. f (suc z)) in
    let d = digit-below (f 0) in
    let e : digit (f 0) + 2 * number k (λ z. f (suc z)) < 2 ^ k * 2 = omega (arith, h, d) in
    subst⁻¹ (λ (m : ℕ). digit (f 0) + 2 * number k (λ z. f (suc z)) < m) (pow-suc 2 k) e

bit-none : (z : ℕ) → bit 0 z ≡ false
unfolding bit
bit-none z = ap (λ (k : ℕ). eqb (k % 2) 1) (zero-div (2 ^ z))

-- 2^k has one bit
pub bit-power : (k z : ℕ) → bit (2 ^ k) z ≡ eqb z k
bit-power zero zero = bit-zero 1
bit-power zero (suc z) = bit-suc 1 z ∙ bit-none z ∙ sym (eqb-suc-zero z)
bit-power (suc k) zero =
    bit-zero (2 ^ suc k)
    ∙ ap (λ (m : ℕ). eqb (m % 2) 1) (pow-suc 2 k)
    ∙ ap (λ (m : ℕ). eqb m 1) (let e : 2 ^ k * 2 % 2 ≡ 0 = omega arith in e)
    ∙ sym (eqb-zero-suc k)
bit-power (suc k) (suc z) =
    bit-suc (2 ^ suc k) z
    ∙ ap (λ (m : ℕ). bit (m / 2) z) (pow-suc 2 k)
    ∙ ap (λ (m : ℕ). bit m z) (let e : 2 ^ k * 2 / 2 ≡ 2 ^ k = omega arith in e)
    ∙ bit-power k z
    ∙ sym (eqb-suc-suc z k)

-- 1, shifted left in a word of w bits
pub one_shifted : (w k : ℕ) → k < w → 1 * 2 ^ k % 2 ^ w ≡ 2 ^ k
one_shifted w k h = shl_exact 1 k w (lit< tt) (omega arith) ∙ one-mul (2 ^ k)

-- ---- the operations, bit by bit
-- an operation that commutes with shifts and masks works on each bit apart, as it does on 0 and 1
module _
    (op : ℕ → ℕ → ℕ) (f : Bool → Bool → Bool)
    (shifted : (a b k : ℕ) → op a b / 2 ^ k ≡ op (a / 2 ^ k) (b / 2 ^ k))
    (low_bits : (a b k : ℕ) → op a b % 2 ^ k ≡ op (a % 2 ^ k) (b % 2 ^ k))
    (e₀₀ : eqb (op 0 0) 1 ≡ f false false) (e₀₁ : eqb (op 0 1) 1 ≡ f false true)
    (e₁₀ : eqb (op 1 0) 1 ≡ f true false) (e₁₁ : eqb (op 1 1) 1 ≡ f true true)
  where
    bitwise : (a b z : ℕ) → bit (op a b) z ≡ f (bit a z) (bit b z)
    unfolding bit
    bitwise a b z =
        ap (λ (k : ℕ). eqb (k % 2) 1) (shifted a b z)
        ∙ ap (λ (k : ℕ). eqb k 1) (low_bits (a / 2 ^ z) (b / 2 ^ z) 1)
        ∙ two (λ x. eqb (op x (b / 2 ^ z % 2)) 1 ≡ f (eqb x 1) (eqb (b / 2 ^ z % 2) 1))
        (two (λ y. eqb (op 0 y) 1 ≡ f false (eqb y 1)) e₀₀ e₀₁ (b / 2 ^ z % 2) (odd (b / 2 ^ z)))
        (two (λ y. eqb (op 1 y) 1 ≡ f true (eqb y 1)) e₁₀ e₁₁ (b / 2 ^ z % 2) (odd (b / 2 ^ z)))
        (a / 2 ^ z % 2) (odd (a / 2 ^ z))

pub bit-xor : (a b z : ℕ) → bit (bit_xor a b) z ≡ bit a z ⊕ bit b z
bit-xor = bitwise bit_xor ◌⊕◌ xor_shr xor_mod refl refl refl refl

pub bit-and : (a b z : ℕ) → bit (bit_and a b) z ≡ bit a z && bit b z
bit-and = bitwise bit_and ◌&&◌ and_shr and_mod refl refl refl refl

pub bit-or : (a b z : ℕ) → bit (bit_or a b) z ≡ bit a z || bit b z
bit-or = bitwise bit_or ◌||◌ or_shr or_mod refl refl refl refl

-- the complement in k bits
pub bit_not : (k a z : ℕ) → a < 2 ^ k → z < k → bit ((2 ^ k - 1) - a) z ≡ not (bit a z)
bit_not zero a z h l = absurd (not-suc-le-zero l)
bit_not (suc k) a zero h l =
    let h' : a < 2 ^ k * 2 = rw pow-suc at h in
    let e : ((2 ^ k * 2 - 1) - a) % 2 ≡ 1 - a % 2 = omega arith in
    bit-zero ((2 ^ suc k - 1) - a)
    ∙ ap (λ (p : ℕ). eqb (((p - 1) - a) % 2) 1) (pow-suc 2 k)
    ∙ ap (λ (p : ℕ). eqb p 1) e
    ∙ two (λ x. eqb (1 - x) 1 ≡ not (eqb x 1)) refl refl (a % 2) (odd a)
    ∙ ap not (sym (bit-zero a))
bit_not (suc k) a (suc z) h l =
    let h' : a < 2 ^ k * 2 = rw pow-suc at h in
    let e : ((2 ^ k * 2 - 1) - a) / 2 ≡ (2 ^ k - 1) - a / 2 = omega arith in
    bit-suc ((2 ^ suc k - 1) - a) z
    ∙ ap (λ (p : ℕ). bit (((p - 1) - a) / 2) z) (pow-suc 2 k)
    ∙ ap (λ (p : ℕ). bit p z) e
    ∙ bit_not k (a / 2) z (half-below k h) (le_of_suc-le-suc l)
    ∙ ap not (sym (bit-suc a z))

-- ---- shifts and masks
pub bit-shr : (a j z : ℕ) → bit (a / 2 ^ j) z ≡ bit a (j + z)
unfolding bit
bit-shr a j z = ap (λ (n : ℕ). eqb (n % 2) 1) (shr-shr a j z)

pub bit-low : (a j z : ℕ) → z < j → bit (a % 2 ^ j) z ≡ bit a z
unfolding bit
bit-low a j z h =
    let d : ℕ = j - suc z in
    let e : j ≡ (d + 1) + z = omega arith in
    ap (λ (n : ℕ). eqb (a % 2 ^ n / 2 ^ z % 2) 1) e
    ∙ ap (λ (n : ℕ). eqb (n % 2) 1) (field a (d + 1) z)
    ∙ ap (λ (n : ℕ). eqb n 1) (mod-mod-pow (a / 2 ^ z) d 1)

-- a number of two parts, a above bit k and r below
module _ (k a r : ℕ) (h : r < 2 ^ k) where
  pub bit_below : (z : ℕ) → z < k → bit (a * 2 ^ k + r) z ≡ bit r z
  bit_below z l = sym (bit-low (a * 2 ^ k + r) k z l) ∙ ap (λ (n : ℕ). bit n z) (low a k h)

  pub bit-above : (z : ℕ) → bit (a * 2 ^ k + r) (k + z) ≡ bit a z
  bit-above z = sym (bit-shr (a * 2 ^ k + r) k z) ∙ ap (λ (n : ℕ). bit n z) (high a k h)

-- ---- the bits of a number that is made of bits
parity : (b : Bool) (n : ℕ) → eqb ((digit b + 2 * n) % 2) 1 ≡ b
parity false n = ap (λ (k : ℕ). eqb k 1) (let e : (0 + 2 * n) % 2 ≡ 0 = omega arith in e)
parity true n = ap (λ (k : ℕ). eqb k 1) (let e : (1 + 2 * n) % 2 ≡ 1 = omega arith in e)

half_of : (b : Bool) (n : ℕ) → (digit b + 2 * n) / 2 ≡ n
half_of false n = omega arith
half_of true n = omega arith

pub bit-number : (k : ℕ) (f : ℕ → Bool) (z : ℕ) → z < k → bit (number k f) z ≡ f z
unfolding number
bit-number zero f z l = absurd (not-suc-le-zero l)
bit-number (suc k) f zero l = bit-zero (digit (f 0) + 2 * number k (λ z. f (suc z))) ∙ parity (f 0) (number k (λ z. f (suc z)))
bit-number (suc k) f (suc z) l =
    bit-suc (digit (f 0) + 2 * number k (λ z. f (suc z))) z
    ∙ ap (λ (n : ℕ). bit n z) (half_of (f 0) (number k (λ z. f (suc z))))
    ∙ bit-number k (λ z. f (suc z)) z (le_of_suc-le-suc l)
