-- Change request N3: "The state after each of the five steps is shown equal to that step in the definitions." This is the contract of `permutation::round`: given any
-- state s, any round number n below 12 and the table of constants, it returns five states, after_mu, after_rho, after_pi, after_psi and after_kappa of its five
-- statements, and they are steps_of s n.
-- Assumes nothing.
use Rattle.std.specs.Prelude.{List, [], ◌∷◌, ℕ}
use Rattle.permutation.specs.State.{State}
use Rattle.permutation.specs.Permutation.{μ, ρ, π, ψ, R}

-- the states after mu, rho, pi, psi and kappa of round number n, from s on, in the order of 003, 2.5 (R s n is κ of the fourth, with constant n)
abbrev pub steps_of : State → ℕ → List State
steps_of s n =
    μ s
    ∷ ρ (μ s)
    ∷ π (ρ (μ s))
    ∷ ψ (π (ρ (μ s)))
    ∷ R s n
    ∷ []
