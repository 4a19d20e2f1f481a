-- The worked logs, by computing.
-- Assumes nothing.
use mathlib.Core.Path.{refl}
use Rattle.bits.specs.Bits.{bit, number}
use Rattle.bytes_le.specs.Bytes.{le_at}
use Rattle.permutation.specs.Permutation.{μ, ψ, R, rotl}
use Rattle.state_bytes.specs.StateBytes.{bytes_of, column, state_of}
use Rattle.round_log.specs.RoundLog.{judged, round_agrees, state_at, verdict}
use Rattle.round_log.specs.WorkedLogs.{WorkedLogs}

pub worked-logs : WorkedLogs
unfolding verdict judged round_agrees state_at state_of column le_at bytes_of R μ rotl ψ bit number
worked-logs = record { right = refl; second_differs = refl; first_differs = refl; one_state = refl; no_bytes = refl }
