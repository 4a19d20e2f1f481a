-- The claims about the tables, by the laws of the crate that makes them.
-- Assumes nothing.
use Rattle.constants.proofs.Generated.{starting-words, round-constants}
use Rattle.constants.proofs.Generated.{first-lanes as lanes}
use Rattle.claims.specs.Generated.{StartingWordsGenerated, RoundConstantsGenerated, FirstLanes}

pub starting-words-generated : StartingWordsGenerated
starting-words-generated = starting-words

pub round-constants-generated : RoundConstantsGenerated
round-constants-generated = round-constants

pub first-lanes : FirstLanes
first-lanes = lanes
