-- A row of the matrix times the column vector, by Horner's rule, on whole words.
-- Assumes nothing.
use mathlib.Core.Bool.{Bool, true, false, cond, ◌&&◌}
use mathlib.Core.List.{List, [], ◌∷◌}
use mathlib.Core.Path.{◌≡◌, refl, sym, ap, ap₂, ◌∙◌, subst}
use Prim.Native.Nat.{ℕ, suc, ◌+◌, ◌-◌, ◌^◌, ◌≤◌, ◌<◌}
use native.Mathlib.Omega.{arith}
use lib.ListN.{get_or}
use Rattle.bits.specs.Bits.{◌⊕◌, bit, word}
use Rattle.bits.proofs.Laws.{bit-number, bit-xor}
use Rattle.bits.proofs.Xor.{xor_self, xors}
use Rattle.permutation.specs.Field.{Element, element, plus, sum, times_a, times_n}
use Rattle.permutation.specs.State.{State, tabulate, slice}
use Rattle.permutation.specs.Words.{Column, sum_words}
use Rattle.permutation.proofs.Columns.{by-positions}
use Rattle.rounds_back.specs.Words.{times_a_plus_words, digit_times_words}

-- the element that a column holds at bit position z
abbrev held : Column → ℕ → Element
held p z y = bit (get_or p y 0) z

-- ---- the product with n, by the n's coefficients from a^k on: m of them, lowered to 1
abbrev part : ℕ → ℕ → ℕ → Element → Element
part m k n q = times_n m (λ i. element n (k + i)) q

part-more : (m k n : ℕ) (q : Element) (y : ℕ) → part (suc m) k n q y ≡ (element n k && q y) ⊕ times_a (part m (suc k) n q) y
part-more m k n q y =
    let zeroth : k + 0 ≡ k = omega arith in
    let next : (i : ℕ) → k + suc i ≡ suc k + i = λ i. omega arith in
    λ j. (element n (zeroth j) && q y) ⊕ times_a (times_n m (λ i. element n (next i j)) q) y

-- ---- of four elements, summed
abbrev four : (ℕ → Element) → Element
four T = sum (tabulate 4 T)

linear : (d T : ℕ → Element) → tabulate 5 (four (λ j y. d j y ⊕ times_a (T j) y)) ≡ tabulate 5 (plus (times_a (four T)) (four d))
linear d T = simp xors

-- ---- on words
no-bit : (z : ℕ) → bit 0 z ≡ false
no-bit z = bit-xor 0 0 z ∙ xor_self (bit 0 z)

digit-held : (n k : ℕ) (p : Column) (z : ℕ) → tabulate 5 (held (digit_times_words n k p) z) ≡ tabulate 5 (λ y. element n k && held p z y)
digit-held n k p z = by (element n k)
  where
    by : (b : Bool) → tabulate 5 (held (cond b p (0 ∷ 0 ∷ 0 ∷ 0 ∷ 0 ∷ [])) z) ≡ tabulate 5 (λ y. b && held p z y)
    by true = refl
    by false = λ i. tabulate 5 (λ y. no-bit z i)

step-held : (p q : Column) (z : ℕ) → tabulate 5 (held (times_a_plus_words p q) z) ≡ tabulate 5 (plus (times_a (held p z)) (held q z))
step-held p q z = simp bit-xor refl

sum-held : (p q t u : Column) (z : ℕ) → tabulate 5 (held (sum_words p q t u) z) ≡ tabulate 5 (sum (held p z ∷ held q z ∷ held t z ∷ held u z ∷ []))
sum-held p q t u z = simp bit-xor (simp xors)

module _ (r : List ℕ) where
  -- ---- a row r of a matrix, from the coefficients at a^k on: m of them, lowered to 1
  abbrev upper : ℕ → ℕ → (ℕ → Element) → Element
  upper m k Z = four (λ j. part m k (get_or r j 0) (Z j))

  abbrev digits : ℕ → (ℕ → Element) → Element
  digits k Z = four (λ j y. element (get_or r j 0) k && Z j y)

  upper-more : (m k : ℕ) (Z : ℕ → Element) → tabulate 5 (plus (times_a (upper m (suc k) Z)) (digits k Z)) ≡ tabulate 5 (upper (suc m) k Z)
  upper-more m k Z =
      sym (linear (λ j y. element (get_or r j 0) k && Z j y) (λ j. part m (suc k) (get_or r j 0) (Z j)))
      ∙ (λ i. tabulate 5 (four (λ j y. sym (part-more m k (get_or r j 0) (Z j) y) i)))

  module _ (s : State) where
    abbrev pub upper_words : ℕ → ℕ → Column
    upper_words m k = tabulate 5 (λ y. word (λ z. upper m k (slice s z) y))

    abbrev pub digit_words : ℕ → ℕ → Column
    digit_words k j = digit_times_words (get_or r j 0) k (get_or s j [])

    abbrev pub digits_words : ℕ → Column
    digits_words k = sum_words (digit_words k 0) (digit_words k 1) (digit_words k 2) (digit_words k 3)

    upper-held : (m k z : ℕ) → z < 64 → tabulate 5 (held (upper_words m k) z) ≡ tabulate 5 (upper m k (slice s z))
    upper-held m k z l i = tabulate 5 (λ y. bit-number 64 (λ z. upper m k (slice s z) y) z l i)

    digits-held : (k z : ℕ) → tabulate 5 (held (digits_words k) z) ≡ tabulate 5 (digits k (slice s z))
    digits-held k z =
        sum-held (digit_words k 0) (digit_words k 1) (digit_words k 2) (digit_words k 3) z
        ∙ (λ i. tabulate 5 (four (λ j y. get_or (digit-held (get_or r j 0) k (get_or s j []) z i) y false)))

    -- ---- one coefficient more
    with-next : (m k : ℕ) → let u = times_a_plus_words (upper_words m (suc k)) (digits_words k) in ((y : ℕ) → get_or u y 0 < 2 ^ 64) → u ≡ upper_words (suc m) k
    with-next m k h =
        let t = upper_words m (suc k) in
        by-positions (times_a_plus_words t (digits_words k)) (λ z. upper (suc m) k (slice s z)) (h 0, (h 1, (h 2, (h 3, (h 4, tt)))))
        (λ z l.
        step-held t (digits_words k) z
        ∙ (λ i. tabulate 5 (plus (times_a (λ y. get_or (upper-held m (suc k) z l i) y false)) (λ y. get_or (digits-held k z i) y false)))
        ∙ upper-more m k (slice s z))

    -- by the code's own columns: t and u, before and after it takes the digits at a^(k - 1), which are d₀ to d₃, with their sum q
    pub turn : (k : ℕ) → 0 < k → k ≤ 5 → {t d₀ d₁ d₂ d₃ q u : Column} → t ≡ upper_words (5 - k) k
        → d₀ ≡ digit_words (k - 1) 0 → d₁ ≡ digit_words (k - 1) 1 → d₂ ≡ digit_words (k - 1) 2 → d₃ ≡ digit_words (k - 1) 3 → q ≡ sum_words d₀ d₁ d₂ d₃
        → u ≡ times_a_plus_words t q → ((y : ℕ) → get_or u y 0 < 2 ^ 64) → u ≡ upper_words (5 - (k - 1)) (k - 1)
    turn k h l {t} {d₀} {d₁} {d₂} {d₃} {q} {u} et e₀ e₁ e₂ e₃ eq eu below =
        let this : k ≡ suc (k - 1) = omega arith in
        let done : suc (5 - k) ≡ 5 - (k - 1) = omega arith in
        let e : u ≡ times_a_plus_words (upper_words (5 - k) (suc (k - 1))) (digits_words (k - 1)) =
        eu ∙ ap₂ times_a_plus_words (et ∙ ap (upper_words (5 - k)) this) (eq ∙ (λ i. sum_words (e₀ i) (e₁ i) (e₂ i) (e₃ i))) in
        e ∙ with-next (5 - k) (k - 1) (subst (λ (c : Column). (y : ℕ) → get_or c y 0 < 2 ^ 64) e below) ∙ ap (λ (m : ℕ). upper_words m (k - 1)) done
