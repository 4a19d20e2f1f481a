-- Change request N9 (02): "The new core logs its state before each run and after every round. The log is 160 bytes a state, in word order. A checker takes a log of
-- 1 + r states, r from 1 to 12, and accepts exactly when each state is one round from the one before, constants from 0. Otherwise it names the first round that
-- differs, counted from 0. Logs by any program are judged alike. It refuses any other log length with 19, before looking at a state."
-- The checker is `round_log::check_log`, whose contract is that it answers `verdict log`, as `answered` reads its Result (`crates/round_log/specs/Findings.antt`), for
-- every log; the C call answers by the same verdict (`crates/core_c/specs/Calls.antt`).
-- Assumes nothing.
use Rattle.std.specs.Prelude.{◌↔◌, ◌≡◌, ℕ, suc, ◌+◌, ◌*◌, ◌≤◌, ◌<◌, length}
use Rattle.bytes_le.specs.Bytes.{Bytes, AllBytes, le_at}
use Rattle.permutation.specs.State.{State, IsState}
use Rattle.permutation.specs.Permutation.{R, P}
use Rattle.state_bytes.specs.StateBytes.{word_of}
use Rattle.round_log.specs.RoundLog.{Agrees, Differs, Refused, state_at, log_of_run, verdict}

-- a log of 1 + r states, 160 bytes each, r from 1 to 12
abbrev pub LogOf : ℕ → Bytes → Type 0
LogOf r log = (1 ≤ r) × (r ≤ 12) × (length log ≡ 160 * (1 + r))

-- round i of the log is right: state i + 1 is round number i of state i
abbrev pub Right : Bytes → ℕ → Type 0
Right log i = state_at log (suc i) ≡ R (state_at log i) i

abbrev pub RightBelow : Bytes → ℕ → Type 0
RightBelow log n = (i : ℕ) → i < n → Right log i

pub record RoundLogs : Type 0 where
  -- it accepts exactly when each state is one round from the one before
  pub accepts : (log : Bytes) (r : ℕ) → (verdict log ≡ Agrees r) ↔ (LogOf r log × RightBelow log r)
  -- it names a round exactly when that one differs and none before it does
  pub names : (log : Bytes) (n : ℕ) → (verdict log ≡ Differs n) ↔ (RightBelow log n × (Right log n → ⊥) × ((r : ℕ) × (n < r) × LogOf r log))
  -- it refuses exactly what has another length, with 19
  pub refuses : (log : Bytes) (k : ℕ) → (verdict log ≡ Refused k) ↔ ((k ≡ 19) × ((r : ℕ) → LogOf r log → ⊥))
  -- in word order: word number w of state i has the eight bytes from 160 i + 8 w on, low byte first
  pub word_order : (log : Bytes) (i w : ℕ) → w < 20 → word_of (state_at log i) w ≡ le_at 8 log (160 * i + 8 * w)
  -- beside the request: whoever judges a round by what the log should have been from its start on comes to the same verdict, since up to the first round that
  -- differs the states of the log are those of the run. (At n = r this is acceptance; at n and at n + 1, that round n is the first that differs.)
  pub from_start : (log : Bytes) (n : ℕ) → RightBelow log n ↔ ((i : ℕ) → i ≤ n → state_at log i ≡ P i (state_at log 0))
  -- beside the request: what is accepted are exactly the logs of runs, from states of the core, where the log's numbers are bytes
  pub of_runs : (log : Bytes) → AllBytes log → (r : ℕ)
      → (verdict log ≡ Agrees r) ↔ ((1 ≤ r) × (r ≤ 12) × ((s : State) × IsState s × (log ≡ log_of_run s r)))
