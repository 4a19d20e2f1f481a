-- The tables come out of the definitions, by computing.
-- Assumes nothing.
use mathlib.Core.Path.{◌≡◌, refl, sym, ap, ◌∙◌}
use mathlib.Core.Bool.{false}
use mathlib.Core.List.{[], ◌∷◌}
use lib.ListN.{get_or, drop}
use Rattle.bits.specs.Bits.{bit, number}
use Rattle.permutation.specs.State.{Grid, tabulate}
use Rattle.permutation.specs.Permutation.{start, constants, rotl}
use Rattle.constants.specs.Keccak.{StateArray, keccak_f, ρ, ι}
use Rattle.constants.specs.Tables.{zero_state, lane, words_from_lanes, starting_words, stepped, after_steps, round_constants}
use Rattle.constants.specs.KnownLanes.{first_lanes}
use Rattle.constants.proofs.Lanes.{array-fits}
use Rattle.constants.proofs.Rounds.{theta, pi, chi, lane-rounds, rounds-agree}

-- lanes 0 to 4, and the starting words: all 25 lanes, so that the prover runs the rounds once
unfoldable all_lanes : StateArray → Grid
all_lanes a = tabulate 5 (lane a) ∷ words_from_lanes a

computed : all_lanes (lane-rounds 24 zero_state) ≡ first_lanes ∷ start
unfolding all_lanes theta ρ pi chi ι lane-rounds rotl bit number
computed = refl

generated : all_lanes (keccak_f zero_state) ≡ first_lanes ∷ start
generated = ap all_lanes (sym (rounds-agree 24 zero_state (array-fits (λ x y z. false)))) ∙ computed

pub starting-words : starting_words ≡ start
unfolding starting_words all_lanes
starting-words = ap (drop 1) generated

pub first-lanes : tabulate 5 (lane (keccak_f zero_state)) ≡ first_lanes
unfolding all_lanes
first-lanes = ap (λ (g : Grid). get_or g 0 []) generated

pub round-constants : round_constants ≡ constants
unfolding round_constants stepped after_steps bit number
round-constants = refl
