-- A bit of a word is set or cleared.
-- Assumes nothing.
use mathlib.Core.Path.{◌≡◌, refl, ap, ◌∙◌, subst⁻¹}
use mathlib.Core.Bool.{Bool, true, false, not, cond, ◌&&◌, ◌||◌}
use Prim.Native.Nat.{ℕ, ◌*◌, ◌%◌, ◌^◌, ◌<◌}
use lib.Bits.{bit_and, bit_or}
use lib.Dec.{eqb}
use lib.Pow.{pow-lt}
use Rattle.bits.specs.Bits.{bit}
use Rattle.bits.proofs.Laws.{by_bits, one_shifted, bit-or, bit-and, bit_not, bit-power}
use Rattle.permutation.proofs.Columns.{~, or64, and64}
use Rattle.constants.specs.Words.{with_bit}

sets : (b e : Bool) → b || e ≡ cond e true b
sets true true = refl
sets true false = refl
sets false true = refl
sets false false = refl

clears : (b e : Bool) → b && not e ≡ cond e false b
clears true true = refl
clears true false = refl
clears false true = refl
clears false false = refl

module _ (w k : ℕ) (h : w < 2 ^ 64) (l : k < 64) where
  abbrev one : ℕ
  one = 1 * 2 ^ k % 2 ^ 64

  one-is : one ≡ 2 ^ k
  one-is = one_shifted 64 k l

  one-fits : one < 2 ^ 64
  one-fits = subst⁻¹ (λ (n : ℕ). n < 2 ^ 64) one-is (pow-lt l)

  bit-one : (z : ℕ) → bit one z ≡ eqb z k
  bit-one z = ap (λ (n : ℕ). bit n z) one-is ∙ bit-power k z

  pub bit-set : bit_or w one ≡ with_bit w k true
  bit-set =
      by_bits (bit_or w one) (λ z. cond (eqb z k) true (bit w z)) (or64 h one-fits)
      (λ z _. bit-or w one z ∙ ap (λ (b : Bool). bit w z || b) (bit-one z) ∙ sets (bit w z) (eqb z k))

  pub bit-cleared : bit_and w (~ one) ≡ with_bit w k false
  bit-cleared =
      by_bits (bit_and w (~ one)) (λ z. cond (eqb z k) false (bit w z)) (and64 w (~ one) h)
      (λ z b.
      bit-and w (~ one) z
      ∙ ap (λ (b : Bool). bit w z && b) (bit_not 64 one z one-fits b ∙ ap not (bit-one z))
      ∙ clears (bit w z) (eqb z k))
