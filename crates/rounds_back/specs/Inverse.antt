-- The rounds of ICEPOLE undone (02, N10: "by undoing each of the five steps"): the inverse of each step of 003, 2.5, in the paper's order, then of the round and of
-- the first n rounds. That these are the inverses is claimed in `claims/specs/RoundsBack.antt`.
-- Assumes nothing.
use Rattle.std.specs.Prelude.{Bool, not, ◌&&◌, [], ◌∷◌, ℕ, zero, suc, ◌+◌, ◌-◌, ◌%◌}
use Rattle.bits.specs.Bits.{◌⊕◌, word_length, word}
use Rattle.permutation.specs.Field.{Element}
use Rattle.permutation.specs.State.{Grid, State, at, state, slice}
use Rattle.permutation.specs.Permutation.{times, offsets, rotl, x', y', κ}

-- ---- μ undone: every slice is multiplied by the inverse of the matrix over GF(2^5)
abbrev pub matrix⁻¹ : Grid
matrix⁻¹ =
    (21 ∷ 14 ∷ 14 ∷ 14 ∷ [])
    ∷ (14 ∷ 4 ∷ 20 ∷ 12 ∷ [])
    ∷ (14 ∷ 12 ∷ 4 ∷ 20 ∷ [])
    ∷ (14 ∷ 20 ∷ 12 ∷ 4 ∷ [])
    ∷ []

abbrev pub mix⁻¹ : (ℕ → Element) → ℕ → Element
mix⁻¹ = times matrix⁻¹

unfoldable pub μ⁻¹ : State → State
μ⁻¹ s = state (λ x y. word (λ z. mix⁻¹ (slice s z) x y))

-- ---- ρ undone: each word is rotated left by 64 less its offset
abbrev pub ρ⁻¹ : State → State
ρ⁻¹ s = state (λ x y. rotl (at s x y) (word_length - at offsets x y))

-- ---- π undone: S[x'][y'] moves back to S[x][y]
abbrev pub π⁻¹ : State → State
π⁻¹ s = state (λ x y. at s (x' x y) (y' x y))

-- ---- ψ undone: the inverse S-box on the five bits Z_0 .. Z_4 of each x and z
-- The S-box is M_k ⊕ (¬M_(k+1) M_(k+2)), indices modulo 5, then each bit negated where all five of M agree. They agree after it exactly where they did before (five
-- 0 become five 1, and the reverse), so that the negation is undone first, by Z, and then the rest.
-- 1 where all five bits are 1 or all five are 0
abbrev pub agree : (ℕ → Bool) → Bool
agree Z = (Z 0 && Z 1 && Z 2 && Z 3 && Z 4) ⊕ (not (Z 0) && not (Z 1) && not (Z 2) && not (Z 3) && not (Z 4))

abbrev pub sbox⁻¹ : (ℕ → Bool) → ℕ → Bool
sbox⁻¹ Z k =
    let Y : ℕ → Bool = λ j. Z (j % 5) ⊕ agree Z in
    Y k ⊕ (not (Y (k + 1)) && (Y (k + 2) ⊕ (not (Y (k + 3)) && Y (k + 4))))

unfoldable pub ψ⁻¹ : State → State
ψ⁻¹ s = state (λ x y. word (λ z. sbox⁻¹ (slice s z x) y))

-- ---- κ undoes itself. Round number n undone, and the first n rounds: the last round is undone first
unfoldable pub R⁻¹ : State → ℕ → State
R⁻¹ s n = μ⁻¹ (ρ⁻¹ (π⁻¹ (ψ⁻¹ (κ s n))))

unfoldable pub P⁻¹ : ℕ → State → State
P⁻¹ zero s = s
P⁻¹ (suc n) s = P⁻¹ n (R⁻¹ s n)
