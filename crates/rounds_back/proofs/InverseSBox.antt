-- The inverse S-box on whole words is the formula at each bit position.
-- Assumes nothing.
use mathlib.Core.Bool.{Bool, not, ◌&&◌}
use mathlib.Core.Path.{◌≡◌, ap, ap₂, ◌∙◌}
use Prim.Native.Nat.{ℕ, ◌+◌, ◌%◌, ◌^◌, ◌<◌}
use lib.Bits.{bit_and, bit_xor}
use lib.ListN.{get_or}
use Rattle.bits.specs.Bits.{◌⊕◌, bit, word}
use Rattle.bits.proofs.Laws.{by_bits, bit-and, bit_not, bit-or, bit-xor}
use Rattle.permutation.specs.State.{tabulate}
use Rattle.permutation.specs.Words.{Column}
use Rattle.permutation.proofs.Columns.{~, and64, not64, xor64}
use Rattle.permutation.proofs.SBox.{bit-same, differing, none_differ}
use Rattle.rounds_back.specs.Inverse.{agree, sbox⁻¹}
use Rattle.rounds_back.specs.Words.{sbox⁻¹Words}

bit-and-not : (a b z : ℕ) → a < 2 ^ 64 → z < 64 → bit (bit_and (~ a) b) z ≡ not (bit a z) && bit b z
bit-and-not a b z h l = bit-and (~ a) b z ∙ ap (λ (c : Bool). c && bit b z) (bit_not 64 a z h l)

module _ (m : Column) (h : (k : ℕ) → get_or m k 0 < 2 ^ 64) where
  -- the words with each bit negated where all five agree, as the code works them out
  abbrev Y : ℕ → ℕ
  Y j = bit_xor (get_or m (j % 5) 0) (~ (differing m h))

  Y-below : (j : ℕ) → Y j < 2 ^ 64
  Y-below j = xor64 (h (j % 5)) (not64 (differing m h))

  -- the same at a bit position
  abbrev y : ℕ → ℕ → Bool
  y z j = bit (get_or m (j % 5) 0) z ⊕ agree (λ k. bit (get_or m k 0) z)

  bit-Y : (j z : ℕ) → z < 64 → bit (Y j) z ≡ y z j
  bit-Y j z l =
      bit-xor (get_or m (j % 5) 0) (~ (differing m h)) z
      ∙ ap (λ (b : Bool). bit (get_or m (j % 5) 0) z ⊕ b)
      (bit-same m h z l
      ∙ simp (bit-or, bit-xor)
      (none_differ (bit (get_or m 0 0) z) (bit (get_or m 1 0) z) (bit (get_or m 2 0) z) (bit (get_or m 3 0) z) (bit (get_or m 4 0) z)))

  -- word k as the code works it out
  abbrev inner : ℕ → ℕ
  inner k = bit_xor (Y (k + 2)) (bit_and (~ (Y (k + 3))) (Y (k + 4)))

  abbrev by-agreeing : ℕ → ℕ
  by-agreeing k = bit_xor (Y k) (bit_and (~ (Y (k + 1))) (inner k))

  box : (k : ℕ) → by-agreeing k ≡ word (λ z. sbox⁻¹ (λ j. bit (get_or m j 0) z) k)
  box k =
      by_bits (by-agreeing k) (λ z. sbox⁻¹ (λ j. bit (get_or m j 0) z) k)
      (xor64 (Y-below k) (and64 (~ (Y (k + 1))) (inner k) (not64 (Y (k + 1)))))
      (λ z l.
      bit-xor (Y k) (bit_and (~ (Y (k + 1))) (inner k)) z
      ∙ ap₂ (λ (a b : Bool). a ⊕ b) (bit-Y k z l)
      (bit-and-not (Y (k + 1)) (inner k) z (Y-below (k + 1)) l
      ∙ ap₂ (λ (a b : Bool). not a && b) (bit-Y (k + 1) z l)
      (bit-xor (Y (k + 2)) (bit_and (~ (Y (k + 3))) (Y (k + 4))) z
      ∙ ap₂ (λ (a b : Bool). a ⊕ b) (bit-Y (k + 2) z l)
      (bit-and-not (Y (k + 3)) (Y (k + 4)) z (Y-below (k + 3)) l ∙ ap₂ (λ (a b : Bool). not a && b) (bit-Y (k + 3) z l) (bit-Y (k + 4) z l)))))

  pub sbox-back-agrees : tabulate 5 by-agreeing ≡ sbox⁻¹Words m
  sbox-back-agrees i = tabulate 5 (λ k. box k i)
