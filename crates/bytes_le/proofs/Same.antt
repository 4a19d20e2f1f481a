-- `same` tells whether two runs of bytes are equal.
-- Assumes nothing.
use mathlib.Core.Path.{◌≡◌, refl, ap₂}
use mathlib.Core.Bool.{Bool, true, false, cond}
use mathlib.Core.List.{[], ◌∷◌}
use Prim.Native.Nat.{ℕ}
use native.Mathlib.Omega.{arith}
use lib.Dec.{eqb}
use borrow.Author.Tests.{eq-eqb, eqb-true}
use Rattle.bytes_le.specs.Bytes.{Bytes, same}

pub same_self : (l : Bytes) → same l l ≡ true
same_self [] = refl
same_self (x ∷ xs) = simp (eq-eqb x x refl) (same_self xs)

-- two tests in a row that both pass
pub cond-test : (b c : Bool) → cond b c false ≡ true → (b ≡ true) × (c ≡ true)
cond-test true c e = (refl, e)
cond-test false c e = let z : ◌≡◌ {A = ℕ} 0 1 = cc in absurd (omega arith)

pub same_true : (xs ys : Bytes) → same xs ys ≡ true → xs ≡ ys
same_true [] [] e = refl
same_true [] (y ∷ ys) e = let z : ◌≡◌ {A = ℕ} 0 1 = cc in absurd (omega arith)
same_true (x ∷ xs) [] e = let z : ◌≡◌ {A = ℕ} 0 1 = cc in absurd (omega arith)
same_true (x ∷ xs) (y ∷ ys) e =
    let p = cond-test (eqb x y) (same xs ys) e in
    ap₂ (λ (a : ℕ) (l : Bytes). a ∷ l) (eqb-true x y p.0) (same_true xs ys p.1)
