-- Five states, each made from the one before by its step, are those that a round goes through.
-- Assumes nothing.
use mathlib.Core.Path.{◌≡◌, ap, ◌∙◌}
use mathlib.Core.List.{[], ◌∷◌}
use Prim.Native.Nat.{ℕ}
use Rattle.permutation.specs.State.{State}
use Rattle.permutation.specs.Permutation.{μ, ρ, π, ψ, κ, R}
use Rattle.permutation.specs.Steps.{steps_of}

pub steps-agree : (s a b c d e : State) (n : ℕ) → a ≡ μ s → b ≡ ρ a → c ≡ π b → d ≡ ψ c → e ≡ κ d n → (a ∷ b ∷ c ∷ d ∷ e ∷ []) ≡ steps_of s n
unfolding R
steps-agree s a b c d e n mu rho pi psi kappa =
    let rho' = rho ∙ ap ρ mu in
    let pi' = pi ∙ ap π rho' in
    let psi' = psi ∙ ap ψ pi' in
    let kappa' = kappa ∙ ap (λ (t : State). κ t n) psi' in
    λ i. mu i ∷ rho' i ∷ pi' i ∷ psi' i ∷ kappa' i ∷ []
