-- Logs worked out: the first round of the starting words, with the state after it as another implementation has it (`permutation`, `WorkedRound`).
-- Assumes nothing.
use Rattle.std.specs.Prelude.{◌≡◌, [], ◌++◌, set}
use Rattle.bytes_le.specs.Bytes.{Bytes}
use Rattle.permutation.specs.Permutation.{start}
use Rattle.permutation.specs.WorkedRound.{after_kappa}
use Rattle.state_bytes.specs.StateBytes.{bytes_of}
use Rattle.round_log.specs.RoundLog.{verdict, Agrees, Differs, Refused}

abbrev worked : Bytes
worked = bytes_of start ++ bytes_of after_kappa

pub record WorkedLogs : Type 0 where
  pub right : verdict worked ≡ Agrees 1
  -- the log goes on with the same state: round 0 is right, round 1 is not
  pub second_differs : verdict (worked ++ bytes_of after_kappa) ≡ Differs 1
  -- the last byte is another
  pub first_differs : verdict (set worked 319 0) ≡ Differs 0
  pub one_state : verdict (bytes_of start) ≡ Refused 19
  pub no_bytes : verdict [] ≡ Refused 19
