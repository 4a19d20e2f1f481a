-- μ undone. The product with a matrix is linear, so it is enough to look at a vector with one element that is not 0, and there at the 32 elements.
-- Assumes nothing.
use mathlib.Core.Bool.{Bool, false, cond, ◌&&◌, true}
use mathlib.Core.List.{List, [], ◌∷◌}
use mathlib.Core.Path.{◌≡◌, refl, ap, ap₂, ◌∙◌}
use Prim.Native.Nat.{ℕ, zero, suc}
use lib.Dec.{eqb}
use lib.ListN.{get_or}
use Rattle.bits.specs.Bits.{◌⊕◌}
use Rattle.bits.proofs.Xor.{xors, xor-false}
use Rattle.permutation.specs.Field.{Element, element, plus, sum, times_a, times_n, ◌·◌}
use Rattle.permutation.specs.State.{Grid, tabulate, at}
use Rattle.permutation.specs.Permutation.{times, matrix, mix, μ}
use Rattle.rounds_back.specs.Inverse.{matrix⁻¹, mix⁻¹, μ⁻¹}
use Rattle.rounds_back.specs.Inverses.{Inverses}
use Rattle.rounds_back.proofs.FiveBits.{everywhere}
use Rattle.rounds_back.proofs.Slices.{Slice, bits, slice_of, slices-inverse}

-- ---- the product is linear in its second factor
cross : (a b c d : Bool) → (a ⊕ b) ⊕ (c ⊕ d) ≡ (a ⊕ c) ⊕ (b ⊕ d)
cross a b c d = simp xors

and_xor : (a b c : Bool) → a && (b ⊕ c) ≡ (a && b) ⊕ (a && c)
and_xor true b c = refl
and_xor false b c = refl

and-false : (a : Bool) → a && false ≡ false
and-false true = refl
and-false false = refl

times_a-plus : (q r : Element) (k : ℕ) → times_a (plus q r) k ≡ times_a q k ⊕ times_a r k
times_a-plus q r zero = refl
times_a-plus q r (suc zero) = refl
times_a-plus q r (suc (suc zero)) = cross (q 1) (r 1) (q 4) (r 4)
times_a-plus q r (suc (suc (suc k))) = refl

times-plus : (n : ℕ) (p q r : Element) (k : ℕ) → times_n n p (plus q r) k ≡ times_n n p q k ⊕ times_n n p r k
times-plus zero p q r k = refl
times-plus (suc n) p q r k =
    let p' : Element = λ j. p (suc j) in
    ap₂ (λ (a b : Bool). a ⊕ b) (and_xor (p 0) (q k) (r k))
    (ap (λ (t : Element). times_a t k) (λ i j. times-plus n p' q r j i) ∙ times_a-plus (times_n n p' q) (times_n n p' r) k)
    ∙ cross (p 0 && q k) (p 0 && r k) (times_a (times_n n p' q) k) (times_a (times_n n p' r) k)

times_a-none : (k : ℕ) → times_a (λ j. false) k ≡ false
times_a-none zero = refl
times_a-none (suc zero) = refl
times_a-none (suc (suc zero)) = refl
times_a-none (suc (suc (suc k))) = refl

times_none : (n : ℕ) (p : Element) (k : ℕ) → times_n n p (λ j. false) k ≡ false
times_none zero p k = refl
times_none (suc n) p k =
    ap₂ (λ (a b : Bool). a ⊕ b) (and-false (p 0)) (ap (λ (t : Element). times_a t k) (λ i j. times_none n (λ j. p (suc j)) j i) ∙ times_a-none k)

-- ---- the sum over 0 to 3
abbrev sum₄ : (ℕ → Bool) → Bool
sum₄ f = f 0 ⊕ (f 1 ⊕ (f 2 ⊕ (f 3 ⊕ false)))

times-sum : (p : Element) (Z : ℕ → Element) (k : ℕ) → (p · sum (tabulate 4 Z)) k ≡ sum₄ (λ i. (p · Z i) k)
times-sum p Z k =
    times-plus 5 p (Z 0) (sum (Z 1 ∷ Z 2 ∷ Z 3 ∷ [])) k
    ∙ ap (λ (b : Bool). (p · Z 0) k ⊕ b) (times-plus 5 p (Z 1) (sum (Z 2 ∷ Z 3 ∷ [])) k
    ∙ ap (λ (b : Bool). (p · Z 1) k ⊕ b) (times-plus 5 p (Z 2) (sum (Z 3 ∷ [])) k
    ∙ ap (λ (b : Bool). (p · Z 2) k ⊕ b) (times-plus 5 p (Z 3) (sum []) k
    ∙ ap (λ (b : Bool). (p · Z 3) k ⊕ b) (times_none 5 p k))))

exchanged : (X : ℕ → ℕ → Bool) → sum₄ (λ j. sum₄ (X j)) ≡ sum₄ (λ i. sum₄ (λ j. X j i))
exchanged X = simp xors

-- the element z at row i, and 0 elsewhere
abbrev alone : ℕ → Element → Slice
alone i z x k = cond (eqb x i) (z k) false

abbrev apart : Element → List (List (List Bool))
apart z = tabulate 4 (λ i. bits (alone i z))

-- ---- a times (b times Z)
module _ (a b : Grid) where
  -- what comes of the element z at row i
  abbrev cell : ℕ → Element → Slice
  cell i z = times a (λ j. element (at b j i) · z)

  by-cells : (Z : ℕ → Element) (x k : ℕ) → times a (times b Z) x k ≡ sum₄ (λ i. cell i (Z i) x k)
  by-cells Z x k =
      (λ t. sum₄ (λ j. times-sum (element (at a x j)) (λ i. element (at b j i) · Z i) k t))
      ∙ exchanged (λ j i. (element (at a x j) · (element (at b j i) · Z i)) k)

  abbrev cells : Element → List (List (List Bool))
  cells z = tabulate 4 (λ i. bits (cell i z))

  undone : ((z : Element) → cells z ≡ apart z) → (Z : ℕ → Element) → bits (times a (times b Z)) ≡ bits Z
  undone h Z =
      (λ t. bits (λ x k. by-cells Z x k t))
      ∙ (λ t. bits (λ x k. sum₄ (λ i. slice_of (get_or (h (Z i) t) i []) x k)))
      ∙ (λ t. bits (λ x k. xor-false (Z x k) t))

mix-back : (Z : ℕ → Element) → bits (mix⁻¹ (mix Z)) ≡ bits Z
mix-back = undone matrix⁻¹ matrix (everywhere (cells matrix⁻¹ matrix) apart refl)

mix-forth : (Z : ℕ → Element) → bits (mix (mix⁻¹ Z)) ≡ bits Z
mix-forth = undone matrix matrix⁻¹ (everywhere (cells matrix matrix⁻¹) apart refl)

pub mu-inverse : Inverses μ μ⁻¹
unfolding μ μ⁻¹
mu-inverse = slices-inverse mix mix⁻¹ (λ B. refl) (λ B. refl) mix-back mix-forth
