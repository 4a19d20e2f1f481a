-- `rounds_back::round_back` meets its contract: each statement undoes one step.
-- Assumes nothing.
use mathlib.Core.Path.{ap, ◌∙◌}
use Rattle.rounds_back.specs.Inverse.{μ⁻¹, ρ⁻¹, π⁻¹, ψ⁻¹, R⁻¹}
use Rattle.rounds_back.proofs.round_back.Goals as goal

pub returns : goal.returns
unfolding R⁻¹
returns c =
    c.mu_back.ensures
    ∙ ap μ⁻¹ (c.rho_back-before_rho.ensures ∙ ap ρ⁻¹ (c.pi_back-before_pi.ensures ∙ ap π⁻¹ (c.psi_back-before_psi.ensures ∙ ap ψ⁻¹ c.kappa-before_kappa.ensures)))
