-- μ on whole words is the matrix on each slice.
-- Assumes nothing.
use mathlib.Core.Path.{◌≡◌}
use mathlib.Core.List.{[], ◌∷◌}
use Prim.Native.Nat.{ℕ, ◌^◌, ◌<◌}
use lib.ListN.{get_or}
use Rattle.bits.proofs.Laws.{bit-xor}
use Rattle.bits.proofs.Xor.{xors}
use Rattle.permutation.specs.State.{State, at, slice}
use Rattle.permutation.specs.Permutation.{mix, μ}
use Rattle.permutation.specs.Words.{◌⊻◌}
use Rattle.permutation.proofs.Columns.{xor64, by-positions}

-- the words as the code works them out
abbrev pub mixed : State → State
mixed s =
    let S : ℕ → ℕ → ℕ = at s in
    ((S 0 4 ⊻ S 1 0 ⊻ S 2 0 ⊻ S 3 0)
    ∷ (S 0 0 ⊻ S 1 1 ⊻ S 2 1 ⊻ S 3 1)
    ∷ (S 0 1 ⊻ S 0 4 ⊻ S 1 2 ⊻ S 2 2 ⊻ S 3 2)
    ∷ (S 0 2 ⊻ S 1 3 ⊻ S 2 3 ⊻ S 3 3)
    ∷ (S 0 3 ⊻ S 1 4 ⊻ S 2 4 ⊻ S 3 4)
    ∷ [])
    ∷ ((S 0 0 ⊻ S 1 0 ⊻ S 2 1 ⊻ S 3 4)
    ∷ (S 0 1 ⊻ S 1 1 ⊻ (S 2 2 ⊻ S 2 0) ⊻ S 3 0)
    ∷ (S 0 2 ⊻ S 1 2 ⊻ S 2 3 ⊻ (S 3 1 ⊻ S 3 4))
    ∷ (S 0 3 ⊻ S 1 3 ⊻ S 2 4 ⊻ S 3 2)
    ∷ (S 0 4 ⊻ S 1 4 ⊻ S 2 0 ⊻ S 3 3)
    ∷ [])
    ∷ ((S 0 0 ⊻ S 1 4 ⊻ S 2 0 ⊻ S 3 1)
    ∷ (S 0 1 ⊻ S 1 0 ⊻ S 2 1 ⊻ (S 3 2 ⊻ S 3 0))
    ∷ (S 0 2 ⊻ (S 1 1 ⊻ S 1 4) ⊻ S 2 2 ⊻ S 3 3)
    ∷ (S 0 3 ⊻ S 1 2 ⊻ S 2 3 ⊻ S 3 4)
    ∷ (S 0 4 ⊻ S 1 3 ⊻ S 2 4 ⊻ S 3 0)
    ∷ [])
    ∷ ((S 0 0 ⊻ S 1 1 ⊻ S 2 4 ⊻ S 3 0)
    ∷ (S 0 1 ⊻ (S 1 2 ⊻ S 1 0) ⊻ S 2 0 ⊻ S 3 1)
    ∷ (S 0 2 ⊻ S 1 3 ⊻ (S 2 1 ⊻ S 2 4) ⊻ S 3 2)
    ∷ (S 0 3 ⊻ S 1 4 ⊻ S 2 2 ⊻ S 3 3)
    ∷ (S 0 4 ⊻ S 1 0 ⊻ S 2 3 ⊻ S 3 4)
    ∷ [])
    ∷ []

module _ (s : State) (h : (x y : ℕ) → at s x y < 2 ^ 64) where
  pub mu-agrees : mixed s ≡ μ s
  unfolding μ
  mu-agrees i =
      by-positions (get_or (mixed s) 0 []) (λ z. mix (slice s z) 0) (search (xor64, h) depth 12) (λ z _. simp bit-xor (simp xors)) i
      ∷ by-positions (get_or (mixed s) 1 []) (λ z. mix (slice s z) 1) (search (xor64, h) depth 12) (λ z _. simp bit-xor (simp xors)) i
      ∷ by-positions (get_or (mixed s) 2 []) (λ z. mix (slice s z) 2) (search (xor64, h) depth 12) (λ z _. simp bit-xor (simp xors)) i
      ∷ by-positions (get_or (mixed s) 3 []) (λ z. mix (slice s z) 3) (search (xor64, h) depth 12) (λ z _. simp bit-xor (simp xors)) i
      ∷ []
