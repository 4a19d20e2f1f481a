-- A step of the round constants on the whole word.
-- Assumes nothing.
use mathlib.Core.Path.{◌≡◌, sym, ap, ap₂, ◌∙◌}
use mathlib.Core.Bool.{Bool, ◌&&◌, ◌||◌, and-true, and-false, or-false}
use Prim.Native.Nat.{ℕ, ◌+◌, ◌/◌, ◌%◌, ◌^◌, ◌<◌}
use native.Mathlib.Nat.{lt_of_le_of_lt}
use native.Mathlib.Numerals.{add-one}
use lib.Bits.{bit_or}
use lib.Dec.{eqb, lit<}
use lib.Pow.{shr_le}
use Rattle.bits.specs.Bits.{bit}
use Rattle.bits.proofs.Laws.{by_bits, digit-bit, digit-odd, bit-suc, bit-or, bit-power}
use Rattle.permutation.proofs.Columns.{or64}
use Rattle.constants.specs.Tables.{ones_of_four, stepped}

-- the four bits, counted by division
abbrev counted : ℕ → ℕ
counted r = r % 2 + r / 2 % 2 + r / 8 % 2 + r / 16 % 2

ones-counted : (r : ℕ) → ones_of_four r ≡ counted r
ones-counted r =
    λ i. digit-odd r i + digit-bit r 1 i + digit-bit r 3 i + digit-bit r 4 i

module _ (r : ℕ) (h : r < 2 ^ 64) where
  half-fits : r / 2 < 2 ^ 64
  half-fits = lt_of_le_of_lt (shr_le r 1) h

  bit-half : (z : ℕ) → bit (r / 2) z ≡ bit r (z + 1)
  bit-half z = sym (ap (bit r) (add-one z) ∙ bit-suc r z)

  pub step-sets : counted r % 2 ≡ 1 → bit_or (r / 2) (2 ^ 31) ≡ stepped r
  unfolding stepped
  step-sets e =
      by_bits (bit_or (r / 2) (2 ^ 31)) (λ z. bit r (z + 1) || (eqb z 31 && eqb (ones_of_four r % 2) 1)) (or64 half-fits (lit< tt))
      (λ z l.
      bit-or (r / 2) (2 ^ 31) z
      ∙ ap₂ ◌||◌ (bit-half z) (bit-power 31 z ∙ sym (and-true (eqb z 31))
      ∙ ap (λ (k : ℕ). eqb z 31 && eqb k 1) (sym (ap (λ (k : ℕ). k % 2) (ones-counted r) ∙ e))))

  pub step-leaves : counted r % 2 ≡ 0 → r / 2 ≡ stepped r
  unfolding stepped
  step-leaves e =
      by_bits (r / 2) (λ z. bit r (z + 1) || (eqb z 31 && eqb (ones_of_four r % 2) 1)) half-fits
      (λ z l.
      bit-half z
      ∙ sym (or-false (bit r (z + 1)))
      ∙ ap (λ (b : Bool). bit r (z + 1) || b)
      (sym (and-false (eqb z 31)) ∙ ap (λ (k : ℕ). eqb z 31 && eqb k 1) (sym (ap (λ (k : ℕ). k % 2) (ones-counted r) ∙ e))))
