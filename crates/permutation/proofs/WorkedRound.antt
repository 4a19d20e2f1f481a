-- The round worked out comes out of the definitions, by computing.
-- Assumes nothing.
use mathlib.Core.Path.{refl}
use Rattle.bits.specs.Bits.{bit, number}
use Rattle.permutation.specs.Permutation.{μ, rotl, ψ, R}
use Rattle.permutation.specs.WorkedRound.{WorkedRound}

pub worked-round : WorkedRound
unfolding μ rotl ψ R bit number
worked-round = refl
