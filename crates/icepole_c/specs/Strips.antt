-- The C calls of strips; `StartContract`, `StripContract` and `EndContract` are their contracts. The state is lent as bytes: the state's own, the count (8),
-- and 1 where it is finished, else 0.
-- Assumes nothing.
use Rattle.std.specs.Prelude.{Bool, true, false, cond, not, [], ◌∷◌, ◌++◌, ◌≡◌, ℕ, ◌+◌, eqb, ltb, length, take, get_or}
use Rattle.bytes_le.specs.Bytes.{Bytes, put_bytes, le, le_at}
use Rattle.state_bytes.specs.StateBytes.{state_length}
use Rattle.icepole.specs.Answers.{◌when◌, refusal, unless}
use Rattle.strips.specs.declared.StripState.{StripState}
use Rattle.strips.specs.Answers.{start_refusal, start_answer, start_output, strip_answer, strip_output, strip_refusal, end_answer, end_output, end_refusal}

-- where the count and the last byte stand, and how many bytes there are
abbrev pub count_at : ℕ
count_at = state_length

abbrev pub finished_at : ℕ
finished_at = count_at + 8

abbrev pub strip_state_length : ℕ
strip_state_length = finished_at + 1

abbrev pub flag : Bool → ℕ
flag true = 1
flag false = 0

abbrev pub strip_state_bytes : StripState → Bytes
strip_state_bytes s = s.bytes ++ (le 8 s.count ++ le 1 (flag s.finished))

-- any byte but 0 is read as finished
abbrev pub strip_state_in : Bytes → StripState
strip_state_in b = record { bytes = take state_length b; count = le_at 8 b count_at; finished = not (eqb (get_or b finished_at 0) 0) }

-- ---- start: its numbers, then 5 where the slice is too short for a state. The state that it returns is put where it is lent, that of a start turned down too
module _ (key nonce secret ad out state : Bytes) where
  unfoldable pub start_call_refusal : ℕ
  start_call_refusal =
      refusal
      ((start_refusal key nonce secret ad out when not (eqb (start_refusal key nonce secret ad out) 0))
      ∷ (5 when ltb (length state) strip_state_length)
      ∷ [])

  unfoldable pub start_call_output : Bytes
  start_call_output = unless start_call_refusal out (start_output key nonce secret ad out)

  unfoldable pub start_call_state : Bytes
  start_call_state = cond (ltb (length state) strip_state_length) state (put_bytes state 0 (strip_state_bytes (start_answer key nonce secret ad out).state))

  -- the call returns r and leaves the output as out' and the slice as state'
  abbrev pub StartContract : ℕ → Bytes → Bytes → Type 0
  StartContract r out' state' = (r ≡ start_call_refusal) × (out' ≡ start_call_output) × (state' ≡ start_call_state)

-- ---- strip and end: 5 before all else where the slice is too short, for there is no state to judge
module _ (state m out : Bytes) where
  unfoldable pub strip_call_refusal : ℕ
  strip_call_refusal = cond (ltb (length state) strip_state_length) 5 (strip_refusal (strip_state_in state) m out)

  unfoldable pub strip_call_output : Bytes
  strip_call_output = unless strip_call_refusal out (strip_output (strip_state_in state) m out)

  unfoldable pub strip_call_state : Bytes
  strip_call_state = unless strip_call_refusal state (put_bytes state 0 (strip_state_bytes (strip_answer (strip_state_in state) m out).state))

  abbrev pub StripContract : ℕ → Bytes → Bytes → Type 0
  StripContract r state' out' = (r ≡ strip_call_refusal) × (state' ≡ strip_call_state) × (out' ≡ strip_call_output)

module _ (state out : Bytes) where
  unfoldable pub end_call_refusal : ℕ
  end_call_refusal = cond (ltb (length state) strip_state_length) 5 (end_refusal (strip_state_in state) out)

  unfoldable pub end_call_output : Bytes
  end_call_output = unless end_call_refusal out (end_output (strip_state_in state) out)

  unfoldable pub end_call_state : Bytes
  end_call_state = unless end_call_refusal state (put_bytes state 0 (strip_state_bytes (end_answer (strip_state_in state) out).state))

  abbrev pub EndContract : ℕ → Bytes → Bytes → Type 0
  EndContract r state' out' = (r ≡ end_call_refusal) × (state' ≡ end_call_state) × (out' ≡ end_call_output)
