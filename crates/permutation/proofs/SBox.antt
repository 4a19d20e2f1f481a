-- The S-box on whole words, by the differences of neighbours, is the paper's formula at each bit position.
-- Assumes nothing.
use mathlib.Core.Path.{◌≡◌, refl, sym, ap₂, ◌∙◌}
use mathlib.Core.Bool.{Bool, true, false, not, ◌&&◌, ◌||◌}
use Prim.Native.Nat.{ℕ, ◌+◌, ◌%◌, ◌^◌, ◌<◌}
use lib.Bits.{bit_xor, bit_and, bit_or}
use lib.ListN.{get_or}
use Rattle.bits.specs.Bits.{◌⊕◌, bit, word}
use Rattle.bits.proofs.Laws.{by_bits, bit-xor, bit-and, bit-or, bit_not}
use Rattle.bits.proofs.Xor.{xor_assoc}
use Rattle.permutation.specs.State.{tabulate}
use Rattle.permutation.specs.Permutation.{sbox}
use Rattle.permutation.specs.Words.{Column, sbox_words}
use Rattle.permutation.proofs.Columns.{~, xor64, and64, not64, or64}

and-difference : (a b : Bool) → b && (a ⊕ b) ≡ not a && b
and-difference false false = refl
and-difference false true = refl
and-difference true false = refl
and-difference true true = refl

-- no neighbours differ: all five are 1, or all five are 0
pub none_differ : (a b c d e : Bool) → not ((a ⊕ b) || (b ⊕ c) || (c ⊕ d) || (d ⊕ e))
    ≡ (a && b && c && d && e) ⊕ (not a && not b && not c && not d && not e)
none_differ false false false false false = refl
none_differ false false false false true = refl
none_differ false false false true e = refl
none_differ false false true d e = refl
none_differ false true c d e = refl
none_differ true false c d e = refl
none_differ true true false d e = refl
none_differ true true true false e = refl
none_differ true true true true false = refl
none_differ true true true true true = refl

by-differences : (x y w a b c d e : Bool)
    → x ⊕ (w && (y ⊕ w)) ⊕ not ((a ⊕ b) || (b ⊕ c) || (c ⊕ d) || (d ⊕ e))
    ≡ x ⊕ (not y && w) ⊕ (a && b && c && d && e) ⊕ (not a && not b && not c && not d && not e)
by-differences x y w a b c d e =
    ap₂ (λ (u v : Bool). x ⊕ u ⊕ v) (and-difference y w) (none_differ a b c d e)
    ∙ sym (xor_assoc (x ⊕ (not y && w)) (a && b && c && d && e) (not a && not b && not c && not d && not e))

module _ (m : Column) (h : (k : ℕ) → get_or m k 0 < 2 ^ 64) where
  abbrev M : ℕ → ℕ
  M k = get_or m k 0

  -- 1 where two neighbours differ
  abbrev pub differing : ℕ
  differing = bit_or (bit_or (bit_or (bit_xor (M 0) (M 1)) (bit_xor (M 1) (M 2))) (bit_xor (M 2) (M 3))) (bit_xor (M 3) (M 4))

  -- word k as the code works it out
  abbrev by-differing : ℕ → ℕ
  by-differing k = bit_xor (bit_xor (M k) (bit_and (M ((k + 2) % 5)) (bit_xor (M ((k + 1) % 5)) (M ((k + 2) % 5))))) (~ differing)

  pub bit-same : (z : ℕ) → z < 64 → bit (~ differing) z ≡ not (bit differing z)
  bit-same z l = bit_not 64 differing z (search (or64, xor64, h) depth 12) l

  box : (k : ℕ) → by-differing k ≡ word (λ z. sbox (λ j. bit (M j) z) k)
  box k =
      by_bits (by-differing k) (λ z. sbox (λ j. bit (M j) z) k) (search (xor64, and64, not64, h) depth 12)
      (λ z l.
      simp (bit-xor, bit-and, bit-same, bit-or)
      (by-differences (bit (M k) z) (bit (M ((k + 1) % 5)) z) (bit (M ((k + 2) % 5)) z)
      (bit (M 0) z) (bit (M 1) z) (bit (M 2) z) (bit (M 3) z) (bit (M 4) z)))

  pub sbox-agrees : tabulate 5 by-differing ≡ sbox_words m
  sbox-agrees i = tabulate 5 (λ k. box k i)
