-- ρ on whole words: the part of a word above bit 64 - k and the part below change places.
-- Assumes nothing.
use mathlib.Core.Path.{◌≡◌, sym, ap, ap₂, ◌∙◌, subst}
use mathlib.Core.Logic.{⊎_elim}
use Prim.Native.Nat.{ℕ, ◌+◌, ◌-◌, ◌*◌, ◌/◌, ◌%◌, ◌^◌, ◌≤◌, ◌<◌}
use native.Mathlib.Nat.{lt_of_le_of_lt, mul-mod_left, add-zero, mod-lt, eq-zero-or-pos}
use native.Mathlib.Omega.{arith}
use lib.Bits.{bit_or, or_lt, or_self, or_shifted}
use lib.Pow.{mod-pow-add, shl-shr, shr_lt, shr_le, pow_pos}
use Rattle.std.specs.Int.{rotate_left, w64}
use Rattle.bits.specs.Bits.{bit}
use Rattle.bits.proofs.Laws.{by_bits, number-below, bit-shr, bit-low, bit_below, bit-above, bit-number}
use Rattle.permutation.specs.Permutation.{rotl}

shift-mod : (w j k : ℕ) → w * 2 ^ k % 2 ^ (j + k) ≡ w % 2 ^ j * 2 ^ k
shift-mod w j k =
    mod-pow-add (w * 2 ^ k) j k
    ∙ ap₂ (λ (a b : ℕ). a % 2 ^ j * 2 ^ k + b) (shl-shr w k) (mul-mod_left w (2 ^ k))
    ∙ add-zero _

-- w is above bit j and below it: the parts change places
module _ (w k : ℕ) (hw : w < 2 ^ 64) (hk : k ≤ 64) where
  abbrev j : ℕ
  j = 64 - k

  high_part : w / 2 ^ j < 2 ^ k
  high_part = let e : k + j ≡ 64 = omega arith in shr_lt k j (subst (λ (n : ℕ). w < 2 ^ n) (sym e) hw)

  swapped : bit_or (w * 2 ^ k % 2 ^ 64) (w / 2 ^ j) ≡ w % 2 ^ j * 2 ^ k + w / 2 ^ j
  swapped =
      let e : j + k ≡ 64 = omega arith in
      ap (λ (a : ℕ). bit_or a (w / 2 ^ j)) (subst (λ (n : ℕ). w * 2 ^ k % 2 ^ n ≡ w % 2 ^ j * 2 ^ k) e (shift-mod w j k))
      ∙ or_shifted (w % 2 ^ j) k (w / 2 ^ j) high_part

  bits : (z : ℕ) → z < 64 → bit (w % 2 ^ j * 2 ^ k + w / 2 ^ j) z ≡ bit w ((z + j) % 64)
  bits z l =
      ⊎_elim
      (λ (b : k - z ≡ 0).
      let e : z ≡ k + (z - k) = omega arith in
      let e' : z - k ≡ (z + j) % 64 = omega arith in
      ap (bit (w % 2 ^ j * 2 ^ k + w / 2 ^ j)) e
      ∙ bit-above k (w % 2 ^ j) (w / 2 ^ j) high_part (z - k)
      ∙ bit-low w j (z - k) (omega arith)
      ∙ ap (bit w) e')
      (λ (b : 0 < k - z).
      let e : j + z ≡ (z + j) % 64 = omega arith in
      bit_below k (w % 2 ^ j) (w / 2 ^ j) high_part z (omega arith) ∙ bit-shr w j z ∙ ap (bit w) e)
      (eq-zero-or-pos (k - z))

  rotated : bit_or (w * 2 ^ k % 2 ^ 64) (w / 2 ^ (64 - k)) ≡ rotl w k
  unfolding rotl
  rotated =
      by_bits (bit_or (w * 2 ^ k % 2 ^ 64) (w / 2 ^ j)) (λ z. bit w ((z + j) % 64))
      (or_lt 64 (w * 2 ^ k % 2 ^ 64) (w / 2 ^ j) (mod-lt (w * 2 ^ k) (pow_pos 64)) (lt_of_le_of_lt (shr_le w j) hw))
      (λ z l. ap (λ (n : ℕ). bit n z) swapped ∙ bits z l)

rotated-none : (w k : ℕ) → w < 2 ^ 64 → k ≡ 0 → w ≡ rotl w k
unfolding rotl
rotated-none w k h e =
    by_bits w (λ z. bit w ((z + 64) % 64)) h (λ z l. ap (bit w) (let m : z ≡ (z + 64) % 64 = omega arith in m)) ∙ ap (rotl w) (sym e)

-- what the library's method makes
pub rotated-left : (w k : ℕ) → w < 2 ^ 64 → k < 64 → rotate_left w64 w k ≡ rotl w k
rotated-left w k hw hk =
    let ek : k % 64 ≡ k = omega arith in
    ⊎_elim
    (λ (e : k ≡ 0).
    let high : w * 2 ^ 0 % 2 ^ 64 ≡ w = omega arith in
    let low : w / 2 ^ 0 ≡ w = omega arith in
    ap (rotate_left w64 w) e ∙ ap₂ bit_or high low ∙ or_self w ∙ rotated-none w k hw e)
    (λ (h : 0 < k).
    let ej : (64 - k % 64) % 64 ≡ 64 - k = omega arith in
    ap₂ (λ (i j : ℕ). bit_or (w * 2 ^ i % 2 ^ 64) (w / 2 ^ j)) ek ej ∙ rotated w k hw (omega arith))
    (eq-zero-or-pos k)

pub rotl-below : (w k : ℕ) → rotl w k < 2 ^ 64
unfolding rotl
rotl-below w k = number-below 64 (λ z. bit w ((z + (64 - k)) % 64))

pub bit-rotl : (w k z : ℕ) → z < 64 → bit (rotl w k) z ≡ bit w ((z + (64 - k)) % 64)
unfolding rotl
bit-rotl w k z h = bit-number 64 (λ y. bit w ((y + (64 - k)) % 64)) z h

-- as the paper says it: bit z moves to (z + k) mod 64
pub bit-moves : (w k z : ℕ) → k ≤ 64 → z < 64 → bit (rotl w k) ((z + k) % 64) ≡ bit w z
bit-moves w k z hk hz =
    bit-rotl w k ((z + k) % 64) (omega arith)
    ∙ ap (bit w) (let e : ((z + k) % 64 + (64 - k)) % 64 ≡ z = omega arith in e)
