-- Lists that a loop fills from the front, and what holds of every element of a list.
-- Assumes nothing.
use mathlib.Core.Path.{◌≡◌, refl, sym, ap, ◌∙◌, subst⁻¹}
use mathlib.Core.List.{List, [], ◌∷◌, ◌++◌, append-nil}
use Prim.Native.Nat.{ℕ, zero, suc, ◌+◌, ◌≤◌, ◌<◌}
use native.Mathlib.Numerals.{add-one}
use native.Mathlib.Omega.{arith}
use lib.ListN.{length, get_or, drop, set, drop_of_length-le}
use lib.Seq.{drop-cons, set_at}
use Rattle.permutation.specs.State.{tabulate}

module _ {A : Type 0} where
  length-tabulate : (n : ℕ) (f : ℕ → A) → length (tabulate n f) ≡ n
  length-tabulate zero f = refl
  length-tabulate (suc n) f = ap suc (length-tabulate n (λ k. f (suc k)))

  tabulate-next : (n : ℕ) (f : ℕ → A) (r : List A) → tabulate n f ++ (f n ∷ r) ≡ tabulate (suc n) f ++ r
  tabulate-next zero f r = refl
  tabulate-next (suc n) f r = ap (λ (l : List A). f 0 ∷ l) (tabulate-next n (λ k. f (suc k)) r)

  -- l is what a loop makes of the m elements of l₀ when it has put f 0, f 1, .., f (n - 1) at their front
  abbrev pub Filled : ℕ → (ℕ → A) → List A → ℕ → List A → Type 0
  Filled m f l₀ n l = (n ≤ m) × (length l₀ ≡ m) × (l ≡ tabulate n f ++ drop n l₀)

  pub filled_next : (m : ℕ) (f : ℕ → A) (l₀ : List A) (n : ℕ) (l : List A) (v : A) → n < m → v ≡ f n → Filled m f l₀ n l
      → Filled m f l₀ (n + 1) (set l n v)
  filled_next m f l₀ n l v h e filled = (
    omega arith,
    filled.1,
    ap (λ (k : List A). set k n v) (filled.2 ∙ ap (λ (r : List A). tabulate n f ++ r) (drop-cons l₀ n v (subst⁻¹ (λ (k : ℕ). n < k) filled.1 h)))
        ∙ set_at (tabulate n f) (get_or l₀ n v) (drop (suc n) l₀) v n (length-tabulate n f)
        ∙ ap (λ (w : A). tabulate n f ++ (w ∷ drop (suc n) l₀)) e
        ∙ tabulate-next n f (drop (suc n) l₀)
        ∙ ap (λ (k : ℕ). tabulate k f ++ drop k l₀) (sym (add-one n)),
  )

  pub filled-all : (m : ℕ) (f : ℕ → A) (l₀ : List A) (n : ℕ) (l : List A) → m ≤ n → Filled m f l₀ n l → l ≡ tabulate m f
  filled-all m f l₀ n l h filled =
      let e : n ≡ m = omega arith in
      filled.2
      ∙ ap (λ (r : List A). tabulate n f ++ r) (drop_of_length-le l₀ (subst⁻¹ (λ (k : ℕ). k ≤ n) filled.1 h))
      ∙ append-nil (tabulate n f)
      ∙ ap (λ (k : ℕ). tabulate k f) e

  -- what holds of all elements, and of the default, holds of those of a list that is tabulated, or has an element set
  module _ (Q : A → Type 0) (d : A) where
    pub tabulate-each : (n : ℕ) (f : ℕ → A) → Q d → ((i : ℕ) → Q (f i)) → (i : ℕ) → Q (get_or (tabulate n f) i d)
    tabulate-each zero f q h i = q
    tabulate-each (suc n) f q h zero = h 0
    tabulate-each (suc n) f q h (suc i) = tabulate-each n (λ k. f (suc k)) q (λ k. h (suc k)) i

    pub set-each : (l : List A) (j : ℕ) (v : A) → Q v → ((i : ℕ) → Q (get_or l i d)) → (i : ℕ) → Q (get_or (set l j v) i d)
    set-each [] j v q h i = h i
    set-each (x ∷ xs) zero v q h zero = q
    set-each (x ∷ xs) zero v q h (suc i) = h (suc i)
    set-each (x ∷ xs) (suc j) v q h zero = h zero
    set-each (x ∷ xs) (suc j) v q h (suc i) = set-each xs j v q (λ k. h (suc k)) i
