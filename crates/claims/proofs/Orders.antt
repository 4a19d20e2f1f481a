-- The number that a list of tests gives is that of the first condition to hold, where each test says whether its condition holds.
-- Assumes nothing.
use mathlib.Core.Bool.{Bool, true, false, cond, not, ◌||◌}
use mathlib.Core.List.{List, [], ◌∷◌, ◌++◌}
use mathlib.Core.Logic.{◌⊎◌, inl, inr, ◌≢◌}
use mathlib.Core.Path.{◌≡◌, refl, sym, ap, subst, ◌∙◌}
use Prim.Native.Nat.{ℕ, ◌≤◌, ◌<◌}
use native.Mathlib.Omega.{arith}
use borrow.Author.Tests.{eqb-true, eqb-false, eq-eqb, ne_eqb, ltb-true, ltb-false, leb-true, leb-false, not-true, not-false}
use lib.Dec.{eqb, leb, ltb}
use Rattle.burst.proofs.Rules.{clash}
use Rattle.claims.specs.Demand1.{Refusal, ◌on◌, FirstOf}

-- ---- a test says whether a condition holds
pub record Tells (b : Bool) (c : Type 0) : Type 0 where
  pub yes : b ≡ true → c
  pub no' : b ≡ false → c → ⊥

pub differs : (a b : ℕ) → Tells (not (eqb a b)) (a ≢ b)
differs a b = record { yes = λ h. eqb-false a b (not-true _ h); no' = λ h d. d (eqb-true a b (not-false _ h)) }

pub equals : (a b : ℕ) → Tells (eqb a b) (a ≡ b)
equals a b = record { yes = eqb-true a b; no' = eqb-false a b }

pub less : (a b : ℕ) → Tells (ltb a b) (a < b)
less a b = record { yes = ltb-true a b; no' = λ h l. let g = ltb-false a b h in omega arith }

pub at_most : (a b : ℕ) → Tells (leb a b) (a ≤ b)
at_most a b = record { yes = leb-true a b; no' = λ h l. let g = leb-false a b h in omega arith }

pub fails : (b : Bool) → Tells (not b) (b ≡ false)
fails b = record { yes = not-true b; no' = λ h f. clash b (not-false b h) f }

pub holds : (b : Bool) → Tells b (b ≡ true)
holds b = record { yes = λ h. h; no' = λ h t. clash b t h }

either-of : (a b : Bool) (c d : Type 0) → Tells a c → Tells b d → Tells (a || b) (c ⊎ d)
either-of true b c d s t = record { yes = λ _. inl (s.yes refl); no' = λ h _. clash true refl h }
either-of false b c d s t = record { yes = λ h. inr (t.yes h); no' = λ h. elim [ inl x ↦ s.no' refl x | inr y ↦ t.no' h y ] }

pub either : {a : Bool} → {b : Bool} → {c : Type 0} → {d : Type 0} → Tells a c → Tells b d → Tells (a || b) (c ⊎ d)
either {a} {b} {c} {d} s t = either-of a b c d s t

-- ---- the first of an order
-- a number, its test, and what the test tells
pub record Row : Type 1 where
  pub number : ℕ
  pub test : Bool
  pub condition : Type 0
  pub tells : Tells test condition

abbrev pub row : ℕ → {b : Bool} → {c : Type 0} → Tells b c → Row
row n {b} {c} t = record { number = n; test = b; condition = c; tells = t }

abbrev pub number_by : List Row → ℕ
number_by [] = 0
number_by (r ∷ rs) = cond r.test r.number (number_by rs)

abbrev pub order_by : List Row → List Refusal
order_by [] = []
order_by (r ∷ rs) = (r.number on r.condition) ∷ order_by rs

pub first : (b : Bool) (k n : ℕ) (c : Type 0) (rs : List Refusal) → Tells b c → FirstOf n rs → FirstOf (cond b k n) ((k on c) ∷ rs)
first true k n c rs t f = inl (t.yes refl, refl)
first false k n c rs t f = inr (t.no' refl, f)

pub by_tests : (rs : List Row) → FirstOf (number_by rs) (order_by rs)
by_tests [] = refl
by_tests (r ∷ rs) = first r.test r.number (number_by rs) r.condition (order_by rs) r.tells (by_tests rs)

-- k is no number of an order
abbrev pub Without : ℕ → List Refusal → Type 0
Without k [] = Unit {0}
Without k (r ∷ rs) = (r.number ≢ k) × Without k rs

pub not-given : (k n : ℕ) (rs : List Refusal) → 0 ≢ k → Without k rs → FirstOf n rs → n ≢ k
not-given k n [] z w f e = z (sym f ∙ e)
not-given k n (r ∷ rs) z w (inl f) e = w.0 (sym f.1 ∙ e)
not-given k n (r ∷ rs) z w (inr f) e = not-given k n rs z w.1 f.1 e

abbrev pub NoZero : List Refusal → Type 0
NoZero = Without 0

-- the number of one order, and where that is 0 of another behind it
pub behind : (rs ss : List Refusal) (m n : ℕ) → NoZero rs → FirstOf m rs → (m ≡ 0 → FirstOf n ss) → FirstOf (cond (not (eqb m 0)) m n) (rs ++ ss)
behind [] ss m n z f g = subst (λ (b : Bool). FirstOf (cond (not b) m n) ss) (sym (eq-eqb m 0 f)) (g f)
behind (r ∷ rs) ss m n z (inl f) g = inl (f.0, ap (λ (b : Bool). cond (not b) m n) (ne_eqb m 0 (λ e. z.0 (sym f.1 ∙ e))) ∙ f.1)
behind (r ∷ rs) ss m n z (inr f) g = inr (f.0, behind rs ss m n z.1 f.1 g)

pub then-tests : (rs : List Refusal) (m : ℕ) → NoZero rs → FirstOf m rs → (ss : List Row) → FirstOf (cond (not (eqb m 0)) m (number_by ss)) (rs ++ order_by ss)
then-tests rs m z f ss = behind rs (order_by ss) m (number_by ss) z f (λ _. by_tests ss)
