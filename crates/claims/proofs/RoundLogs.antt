-- N9: what the verdict on a log says, from the laws of `round_log`.
-- Assumes nothing.
use Rattle.round_log.specs.RoundLog.{Agrees, Differs, Refused}
use Rattle.round_log.proofs.Verdicts.{verdict-says}
use Rattle.round_log.proofs.Runs.{from_start, of-runs, word-order}
use Rattle.claims.specs.RoundLogs.{RoundLogs}

pub round-logs : RoundLogs
round-logs =
    record {
      accepts = λ log r. verdict-says log (Agrees r);
      names = λ log n. verdict-says log (Differs n);
      refuses = λ log k. verdict-says log (Refused k);
      word_order = word-order;
      from_start = from_start;
      of_runs = of-runs;
    }
