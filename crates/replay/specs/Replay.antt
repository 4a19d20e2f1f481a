-- A list of calls as bytes, and what performing it leaves: demand 3's first sentence about running code.
-- Assumes nothing.
use Rattle.std.specs.Prelude.{Bool, false, cond, List, [], ◌∷◌, ◌++◌, ◌≡◌, ℕ, zero, suc, ◌+◌, ◌-◌, ◌/◌, ◌≤◌, ◌<◌, eqb, ltb, length, take, drop, Some, None, Result}
use Rattle.std.proofs.Math.Option.{Option, some, none}
use Rattle.bytes_le.specs.Bytes.{Bytes, put_bytes, le, le_at}
use Rattle.refusals.specs.declared.Refusal.{Refusal}
use Rattle.refusals.specs.Numbers.{number_of, mark_of, value_or}
use Rattle.burst.specs.Layout.{Identity}
use Rattle.trace.specs.Plain.{by_value, Call, keep_shot, drop_shot, close_burst, CallList, Answer, plain_of, plain_answers, total_of, file_of}
use Rattle.trace.specs.Trace.{run_buffer}
use Rattle.trace.specs.Agreement.{Reached, edition_for}
use Rattle.replay.specs.declared.ScriptCall.{ScriptCall}
use Rattle.replay.specs.declared.ScriptCall.TheVariants.{Drop, Close, Keep}

-- ---- a script: the calls one after another
-- 0 is a drop, 1 a close, 2 a keep, and stamp length (1 byte), picture length (4), stamp and picture follow it; no other byte is a call
-- bytes of a picture's length here, and of each of an answer's two numbers
abbrev pub number_width : ℕ
number_width = 4

-- bytes of a keep before its stamp
abbrev pub keep_front : ℕ
keep_front = 2 + number_width

abbrev pub stamp_length : Bytes → ℕ
stamp_length s = le_at 1 s 1

abbrev pub picture_length : Bytes → ℕ
picture_length s = le_at number_width s 2

abbrev pub keep_length : Bytes → ℕ
keep_length s = keep_front + (stamp_length s + picture_length s)

-- the keep that stands first
abbrev pub keep_in : Bytes → Call
keep_in s = keep_shot (take (stamp_length s) (drop keep_front s)) (take (picture_length s) (drop (keep_front + stamp_length s) s))

-- the first call of a script and how many bytes it takes; none at the script's end, where a keep is cut by it, and at a byte that is no call
unfoldable pub first_call : Bytes → Option (Call × ℕ)
first_call s =
    cond (eqb (length s) 0) none
    (cond (eqb (le_at 1 s 0) 0) (some (drop_shot by_value, 1))
    (cond (eqb (le_at 1 s 0) 1) (some (close_burst, 1))
    (cond (eqb (le_at 1 s 0) 2) (cond (ltb (length s) (keep_length s)) none (some (keep_in s, keep_length s))) none)))

-- the calls of a script, at most so many as there is room for their answers
abbrev pub following : Option (Call × ℕ) → (ℕ → List Call) → List Call
following none more = []
following (some x) more = x.0 ∷ more x.1

abbrev pub script_calls : (room : ℕ) → Bytes → List Call
script_calls zero s = []
script_calls (suc room) s = following (first_call s) (λ m. script_calls room (drop m s))

-- what is left of a script behind these calls
abbrev pub leaving : Option (Call × ℕ) → Bytes → (ℕ → Bytes) → Bytes
leaving none s more = s
leaving (some x) s more = more x.1

abbrev pub script_rest : (room : ℕ) → Bytes → Bytes
script_rest zero s = s
script_rest (suc room) s = leaving (first_call s) s (λ m. script_rest room (drop m s))

-- ---- answers as bytes: refusal number, then shot number or total
abbrev pub answer_bytes : Answer → Bytes
answer_bytes a = le number_width a.number ++ le number_width a.value

abbrev pub answer_length : ℕ
answer_length = number_width + number_width

abbrev pub answers_bytes : List Answer → Bytes
answers_bytes [] = []
answers_bytes (a ∷ answers) = answer_bytes a ++ answers_bytes answers

-- ---- what the code has for a call, and for the first one
abbrev pub call_as : ScriptCall → Call
call_as Drop = drop_shot by_value
call_as Close = close_burst
call_as (Keep stamp picture) = keep_shot stamp.now picture.now

abbrev pub first_as : Rattle.std.specs.Prelude.Option (ScriptCall × ℕ) → Option (Call × ℕ)
first_as None = none
first_as (Some x) = some (call_as x.0, x.1)

-- what it has for an answer: of a shot its number, of a close the total
abbrev pub told : Result ℕ Refusal → Answer
told r = record { number = number_of r; mark = mark_of r; value = value_or (λ n. n) 0 r }

-- ---- the whole
-- the list that a script says, where so many bytes are lent for the answers: begin's answer needs room, and each call's as much more
abbrev pub list_of : (key : Bytes) (i : Identity) (buffer answers : ℕ) (script : Bytes) → CallList
list_of key i buffer answers script = record { key = key; identity = i; buffer_length = buffer; calls = script_calls (answers / answer_length - 1) script }

-- whether the whole script is performed, where so many bytes are lent for the answers: begin's has room, and nothing is left behind the calls
abbrev pub whole_script : (answers : ℕ) (script : Bytes) → Bool
whole_script answers script = cond (ltb answers answer_length) false (eqb (length (script_rest (answers / answer_length - 1) script)) 0)

-- what is left of the answers a, of the buffer b and of the count n. Without room for begin's answer nothing is done. Otherwise the answers are those of
-- the plain burst, begin's first, and after an accepted close the front of the buffer is its file
pub record Replayed (l : CallList) (a a' b b' : Bytes) (n : ℕ) : Type 0 where
  pub nothing : length a < answer_length → (n ≡ 0) × (a' ≡ a) × (b' ≡ b)
  pub count : answer_length ≤ length a → n ≡ length (plain_answers (edition_for l) l)
  pub answers : answer_length ≤ length a → a' ≡ put_bytes a 0 (answers_bytes (plain_answers (edition_for l) l))
  pub buffer : answer_length ≤ length a → b' ≡ run_buffer l b
  pub file : answer_length ≤ length a → Reached (edition_for l) l → take (total_of (edition_for l) (plain_of (edition_for l) l)) b' ≡ file_of (edition_for l) (plain_of (edition_for l) l)
