-- Change request N8 (02): "Both outputs are shown equal to the tables". The outputs are those of `constants::starting_words` and `constants::round_constants`, whose
-- contracts are `r ≡ starting_words` and `r ≡ round_constants`. The tables are `start` and `constants` of `permutation`, to which the proofs of its `start_state` and
-- `rounds` hold the tables in its code.
-- Assumes nothing.
use Rattle.std.specs.Prelude.{◌≡◌}
use Rattle.permutation.specs.State.{tabulate}
use Rattle.permutation.specs.Permutation.{start, constants}
use Rattle.constants.specs.Keccak.{keccak_f}
use Rattle.constants.specs.Tables.{zero_state, lane, starting_words, round_constants}
use Rattle.constants.specs.KnownLanes.{first_lanes}

-- the twenty starting words are lanes 5 to 24 of Keccak-f[1600] of the zero state
abbrev pub StartingWordsGenerated : Type 0
StartingWordsGenerated = starting_words ≡ start

-- the twelve round constants are the numbers after 1 to 12 steps
abbrev pub RoundConstantsGenerated : Type 0
RoundConstantsGenerated = round_constants ≡ constants

-- beside the request: lanes 0 to 4 are those of another implementation
abbrev pub FirstLanes : Type 0
FirstLanes = tabulate 5 (lane (keccak_f zero_state)) ≡ first_lanes
