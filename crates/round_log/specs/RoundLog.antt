-- Round logs (02, N9): "The new core logs its state before each run and after every round. The log is 160 bytes a state, in word order." A log is any run of bytes:
-- "Logs by any program are judged alike."
-- Assumes nothing.
use Rattle.std.specs.Prelude.{Bool, true, false, cond, ◌&&◌, [], ◌∷◌, ◌++◌, ℕ, zero, suc, ◌+◌, ◌-◌, ◌*◌, ◌/◌, eqb, leb, length, take, drop}
use Rattle.bytes_le.specs.Bytes.{Bytes, same}
use Rattle.permutation.specs.State.{State}
use Rattle.permutation.specs.Permutation.{max_rounds, R, P}
use Rattle.state_bytes.specs.StateBytes.{state_length, bytes_of, state_of}

-- "its state before each run and after every round": what is logged of a run from the state s through r rounds
abbrev pub log_of_run : State → ℕ → Bytes
log_of_run s zero = bytes_of s
log_of_run s (suc r) = log_of_run s r ++ bytes_of (P (suc r) s)

-- ---- the length: "A checker takes a log of 1 + r states, r from 1 to 12"
-- the bytes of 1 + r states
abbrev pub log_length : ℕ → ℕ
log_length r = state_length * (1 + r)

-- the r of a log of n bytes
abbrev pub rounds_in : ℕ → ℕ
rounds_in n = n / state_length - 1

abbrev pub is_log_length : ℕ → Bool
is_log_length n = eqb n (log_length (rounds_in n)) && leb 1 (rounds_in n) && leb (rounds_in n) max_rounds

-- ---- the states
-- state number i of a log, which is the one before round i
unfoldable pub state_at : Bytes → ℕ → State
state_at log i = state_of (take state_length (drop (state_length * i) log))

-- whether two states are the same, word by word
abbrev pub same_state : State → State → Bool
same_state [] [] = true
same_state [] (b ∷ t) = false
same_state (a ∷ s) [] = false
same_state (a ∷ s) (b ∷ t) = cond (same a b) (same_state s t) false

-- ---- the verdict
-- every round agrees, and how many there are; or the first that differs, counted from 0; or the refusal number
pub data Verdict : Type 0 where
  Agrees : ℕ → Verdict
  Differs : ℕ → Verdict
  Refused : ℕ → Verdict

module _ (log : Bytes) where
  -- "each state is one round from the one before, constants from 0": state i + 1 is round i, with constant i, of state i in the log, whatever led to that
  unfoldable pub round_agrees : ℕ → Bool
  round_agrees i = same_state (R (state_at log i) i) (state_at log (suc i))

  -- the verdict on the n rounds from i on, where those before i agree: the first that differs, or that all i + n agree
  unfoldable pub judged : ℕ → ℕ → Verdict
  judged i zero = Agrees i
  judged i (suc n) = cond (round_agrees i) (judged (suc i) n) (Differs i)

  -- "It refuses any other log length with 19, before looking at a state."
  unfoldable pub verdict : Verdict
  verdict = cond (is_log_length (length log)) (judged 0 (rounds_in (length log))) (Refused 19)
