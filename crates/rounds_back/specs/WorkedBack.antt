-- Rounds undone, worked out, to hold the definitions to another implementation: round 0 of the starting words (`permutation`, `WorkedRound`), step by step back; and
-- the state from which two rounds reach zeros. The numbers are those of the Rust reference, which undoes rounds by means of its own (`tests/reference`); its tests
-- find them in `WorkedRound` and here.
-- Assumes nothing.
use Rattle.std.specs.Prelude.{[], ◌∷◌, ◌≡◌}
use Rattle.permutation.specs.State.{State, state}
use Rattle.permutation.specs.Permutation.{start, κ}
use Rattle.permutation.specs.WorkedRound.{after_mu, after_rho, after_pi, after_psi, after_kappa}
use Rattle.rounds_back.specs.Inverse.{μ⁻¹, ρ⁻¹, π⁻¹, ψ⁻¹, P⁻¹}

abbrev two_rounds_before_zeros : State
two_rounds_before_zeros =
    (0x36022C31527E85EE ∷ 0x78DA1C0489FD6702 ∷ 0x17FDB94CD137B821 ∷ 0xA4FB9CA628A1B3B8 ∷ 0xE2119C907F166578 ∷ [])
    ∷ (0xDE5B3EA610B31A11 ∷ 0xA619C84766B96C54 ∷ 0x0EEF5325A08656B5 ∷ 0x99F2C63239E0AB8F ∷ 0xF34EA5A8B45BEB9B ∷ [])
    ∷ (0xE20A9DD7B93E6089 ∷ 0xDCA1502715353454 ∷ 0xC6516966607F2E88 ∷ 0x6034F3C183A592FA ∷ 0xE27A5D6C8A5B3565 ∷ [])
    ∷ (0x301E628DED921659 ∷ 0xB70724EEDF1F2819 ∷ 0x5051AEC73E96A4C7 ∷ 0x51E6603A9485EEFB ∷ 0xCE213D462D0B5477 ∷ [])
    ∷ []

pub record WorkedBack : Type 0 where
  pub kappa : κ after_kappa 0 ≡ after_psi
  pub psi : ψ⁻¹ after_psi ≡ after_pi
  pub pi : π⁻¹ after_pi ≡ after_rho
  pub rho : ρ⁻¹ after_rho ≡ after_mu
  pub mu : μ⁻¹ after_mu ≡ start
  pub one_round : P⁻¹ 1 after_kappa ≡ start
  pub two_rounds : P⁻¹ 2 (state (λ x y. 0)) ≡ two_rounds_before_zeros
