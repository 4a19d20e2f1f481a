-- The equations of μ, in the order printed (003, Appendix B). `proofs/AppendixB.antt` shows that they agree with the matrix.
-- Assumes nothing.
use Rattle.std.specs.Prelude.{Bool, false, cond, ◌&&◌, List, [], ◌∷◌, ℕ, eqb}
use Rattle.bits.specs.Bits.{◌⊕◌, word}
use Rattle.permutation.specs.State.{State, state, slice}

-- the bit of S' that an equation gives
pub record Target : Type 0 where
  pub x : ℕ
  pub y : ℕ

abbrev S' : ℕ → ℕ → Target
S' x y = record { x = x; y = y }

pub record Equation : Type 0 where
  pub target : Target
  pub value : Bool

infix 20 ◌≔◌
abbrev ◌≔◌ : Target → Bool → Equation
t ≔ b = record { target = t; value = b }

-- the equations at some z: S x y is S[x][y][z], and S' x y is S'[x][y][z]
abbrev pub equations : (ℕ → ℕ → Bool) → List Equation
equations S =
    (S' 0 4 ≔ S 0 3 ⊕ S 1 4 ⊕ S 2 4 ⊕ S 3 4)
    ∷ (S' 0 3 ≔ S 0 2 ⊕ S 1 3 ⊕ S 2 3 ⊕ S 3 3)
    ∷ (S' 0 2 ≔ S 0 4 ⊕ S 0 1 ⊕ S 1 2 ⊕ S 2 2 ⊕ S 3 2)
    ∷ (S' 0 1 ≔ S 0 0 ⊕ S 1 1 ⊕ S 2 1 ⊕ S 3 1)
    ∷ (S' 0 0 ≔ S 0 4 ⊕ S 1 0 ⊕ S 2 0 ⊕ S 3 0)
    ∷ (S' 1 4 ≔ S 0 4 ⊕ S 1 4 ⊕ S 2 0 ⊕ S 3 3)
    ∷ (S' 1 3 ≔ S 0 3 ⊕ S 1 3 ⊕ S 2 4 ⊕ S 3 2)
    ∷ (S' 1 2 ≔ S 0 2 ⊕ S 1 2 ⊕ S 2 3 ⊕ S 3 4 ⊕ S 3 1)
    ∷ (S' 1 1 ≔ S 0 1 ⊕ S 1 1 ⊕ S 2 2 ⊕ S 2 0 ⊕ S 3 0)
    ∷ (S' 1 0 ≔ S 0 0 ⊕ S 1 0 ⊕ S 2 1 ⊕ S 3 4)
    ∷ (S' 2 4 ≔ S 0 4 ⊕ S 1 3 ⊕ S 2 4 ⊕ S 3 0)
    ∷ (S' 2 3 ≔ S 0 3 ⊕ S 1 2 ⊕ S 2 3 ⊕ S 3 4)
    ∷ (S' 2 2 ≔ S 0 2 ⊕ S 1 4 ⊕ S 1 1 ⊕ S 2 2 ⊕ S 3 3)
    ∷ (S' 2 1 ≔ S 0 1 ⊕ S 1 0 ⊕ S 2 1 ⊕ S 3 2 ⊕ S 3 0)
    ∷ (S' 2 0 ≔ S 0 0 ⊕ S 1 4 ⊕ S 2 0 ⊕ S 3 1)
    ∷ (S' 3 4 ≔ S 0 4 ⊕ S 1 0 ⊕ S 2 3 ⊕ S 3 4)
    ∷ (S' 3 3 ≔ S 0 3 ⊕ S 1 4 ⊕ S 2 2 ⊕ S 3 3)
    ∷ (S' 3 2 ≔ S 0 2 ⊕ S 1 3 ⊕ S 2 4 ⊕ S 2 1 ⊕ S 3 2)
    ∷ (S' 3 1 ≔ S 0 1 ⊕ S 1 2 ⊕ S 1 0 ⊕ S 2 0 ⊕ S 3 1)
    ∷ (S' 3 0 ≔ S 0 0 ⊕ S 1 1 ⊕ S 2 4 ⊕ S 3 0)
    ∷ []

-- S'[x][y][z] by the equation that has it on its left; each bit has one
abbrev pub solved : List Equation → ℕ → ℕ → Bool
solved [] x y = false
solved (e ∷ es) x y = cond (eqb e.target.x x && eqb e.target.y y) e.value (solved es x y)

-- for all z: S := S'
unfoldable pub appendix_b : State → State
appendix_b s = state (λ x y. word (λ z. solved (equations (slice s z)) x y))
