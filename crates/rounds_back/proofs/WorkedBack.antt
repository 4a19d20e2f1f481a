-- The rounds undone come out of the definitions, by computing.
-- Assumes nothing.
use mathlib.Core.Path.{refl}
use Rattle.bits.specs.Bits.{bit, number}
use Rattle.permutation.specs.Permutation.{rotl}
use Rattle.rounds_back.specs.Inverse.{μ⁻¹, ψ⁻¹, R⁻¹, P⁻¹}
use Rattle.rounds_back.specs.WorkedBack.{WorkedBack}

pub worked-back : WorkedBack
unfolding μ⁻¹ ψ⁻¹ R⁻¹ P⁻¹ rotl bit number
worked-back = record { kappa = refl; psi = refl; pi = refl; rho = refl; mu = refl; one_round = refl; two_rounds = refl }
