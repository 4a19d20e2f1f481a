-- Lists of calls on one message (01, "Afterwards"): a start, then strips and ends in any order, refused ones among them.
-- `StripLists`: each call is given the state that the call before returned.
--   agrees    numbers and counts equal those of the plain message, which is worked out from the calls' arguments alone
--   outputs   every output, whole: as it was where its call was turned down, else with its part of the sealed message at the front
--   bytes     those parts, joined, are the sealed message up to here, and the whole of it after an accepted end
--   any_cut   for every list of strips whose joining is the message, each call is accepted and the bytes equal whole sealing
-- `StripCallLists`: lists of the C calls are such lists. Each call is lent the same slice for the state, as the call before left it; what it held before the
-- start does not matter.
--   numbers   the numbers that the C calls return are those of the list of strips, and so, by `agrees`, those of the plain message
--   outputs   every output, whole, likewise
--   state     the slice has the state of the list of strips at its front, and its bytes from `strip_state_length` on stay
--   short     a slice of fewer bytes: start returns its own number, or else 5, every other call 5, and nothing is written
-- `StatePasses` is one step of it: the state that a call leaves in the slice is the one that the next call reads.
-- Assumes nothing.
use Rattle.std.specs.Prelude.{Bool, true, false, cond, List, [], ◌∷◌, ◌++◌, map, ◌≡◌, ℕ, ◌+◌, ◌≤◌, ◌<◌, eqb, length, take, drop}
use Rattle.bits.specs.Bits.{word_range}
use Rattle.bytes_le.specs.Bytes.{Bytes, put_bytes}
use Rattle.state_bytes.specs.StateBytes.{state_length}
use Rattle.icepole.specs.declared.Variant.TheVariants.{Icepole128}
use Rattle.icepole.specs.Variants.{sizes}
use Rattle.blocks.specs.Lengths.{tag_length, max_length}
use Rattle.blocks.specs.Sealing.{sealed}
use Rattle.icepole.specs.Answers.{unless, given}
use Rattle.strips.specs.declared.StripState.{StripState}
use Rattle.strips.specs.Answers.{StripAnswer}
use Rattle.strips.specs.Answers.{start_answer, start_output, strip_answer, strip_output, end_answer, end_output, start_refusal, strip_number, end_number}
use Rattle.icepole_c.specs.Strips.{strip_state_length, strip_state_bytes, strip_state_in, start_call_refusal, start_call_output, start_call_state}
use Rattle.icepole_c.specs.Strips.{strip_call_refusal, strip_call_output, strip_call_state, end_call_refusal, end_call_output, end_call_state}

-- the sealed secret number, which start writes
abbrev pub secret_length : ℕ
secret_length = (sizes Icepole128).secret

-- ---- the calls
-- each has the output that is lent to it
pub data Call : Type 0 where
  strip_of : (message out : Bytes) → Call
  end_of : (out : Bytes) → Call

-- the arguments of the start, and the calls after it
pub record StripList : Type 0 where
  pub key : Bytes
  pub nonce : Bytes
  pub secret : Bytes
  pub associated : Bytes
  pub out : Bytes
  pub calls : List Call

-- what a call tells: its refusal number, its mark, and the count of bytes written
pub record Told : Type 0 where
  pub number : ℕ
  pub mark : ℕ
  pub count : ℕ

-- ---- the calls run: what a call answers and leaves is what its contract states
abbrev pub told_by : StripAnswer → Told
told_by a = record { number = a.refusal; mark = a.mark; count = a.count }

unfoldable pub answer_to : StripState → Call → StripAnswer
answer_to s (strip_of m o) = strip_answer s m o
answer_to s (end_of o) = end_answer s o

unfoldable pub output_of : StripState → Call → Bytes
output_of s (strip_of m o) = strip_output s m o
output_of s (end_of o) = end_output s o

abbrev pub told_from : StripState → List Call → List Told
told_from s [] = []
told_from s (c ∷ cs) = told_by (answer_to s c) ∷ told_from (answer_to s c).state cs

-- the outputs after the calls
abbrev pub outputs_from : StripState → List Call → List Bytes
outputs_from s [] = []
outputs_from s (c ∷ cs) = output_of s c ∷ outputs_from (answer_to s c).state cs

-- the state after the calls
abbrev pub state_from : StripState → List Call → StripState
state_from s [] = s
state_from s (c ∷ cs) = state_from (answer_to s c).state cs

-- the fronts of the outputs, joined: as many bytes of each as its call says it wrote
abbrev pub written_from : StripState → List Call → Bytes
written_from s [] = []
written_from s (c ∷ cs) = take (answer_to s c).count (output_of s c) ++ written_from (answer_to s c).state cs

module _ (l : StripList) where
  abbrev pub start_to : StripAnswer
  start_to = start_answer l.key l.nonce l.secret l.associated l.out

  -- of the whole list, start's first
  unfoldable pub run_told : List Told
  run_told = told_by start_to ∷ told_from start_to.state l.calls

  unfoldable pub run_outputs : List Bytes
  run_outputs = start_output l.key l.nonce l.secret l.associated l.out ∷ outputs_from start_to.state l.calls

  unfoldable pub run_state : StripState
  run_state = state_from start_to.state l.calls

  unfoldable pub run_written : Bytes
  run_written = take start_to.count (start_output l.key l.nonce l.secret l.associated l.out) ++ written_from start_to.state l.calls

-- ---- the plain message: the strips accepted so far, joined, and whether it is finished
pub record PlainMessage : Type 0 where
  pub message : Bytes
  pub finished : Bool

unfoldable pub number_of : PlainMessage → Call → ℕ
number_of p (strip_of m o) = strip_number p.finished (length p.message) (length m) (length o)
number_of p (end_of o) = end_number p.finished (length p.message) (length o)

unfoldable pub accepted : PlainMessage → Call → PlainMessage
accepted p (strip_of m o) = record { message = p.message ++ m; finished = false }
accepted p (end_of o) = record { message = p.message; finished = true }

-- how many bytes an accepted call writes
unfoldable pub count_of : Call → ℕ
count_of (strip_of m o) = length m
count_of (end_of o) = tag_length

-- a call turned down changes nothing
unfoldable pub after_call : PlainMessage → Call → PlainMessage
after_call p c = unless (number_of p c) p (accepted p c)

-- the mark is 0: no call of these is refused with 7
abbrev pub plain_answer : ℕ → ℕ → Told
plain_answer num count = record { number = num; mark = 0; count = given num count }

abbrev pub plain_from : PlainMessage → List Call → List Told
plain_from p [] = []
plain_from p (c ∷ cs) = plain_answer (number_of p c) (count_of c) ∷ plain_from (after_call p c) cs

abbrev pub after_calls : PlainMessage → List Call → PlainMessage
after_calls p [] = p
after_calls p (c ∷ cs) = after_calls (after_call p c) cs

abbrev pub lent_to : Call → Bytes
lent_to (strip_of m o) = o
lent_to (end_of o) = o

-- the part of the sealed message that an accepted call writes
unfoldable pub part_of : (Bytes → Bytes) → PlainMessage → Call → Bytes
part_of seal p (strip_of m o) = take (length m) (drop (secret_length + length p.message) (seal (p.message ++ m)))
part_of seal p (end_of o) = drop (secret_length + length p.message) (seal p.message)

abbrev pub plain_outputs_from : (Bytes → Bytes) → PlainMessage → List Call → List Bytes
plain_outputs_from seal p [] = []
plain_outputs_from seal p (c ∷ cs) =
    unless (number_of p c) (lent_to c) (put_bytes (lent_to c) 0 (part_of seal p c)) ∷ plain_outputs_from seal (after_call p c) cs

module _ (l : StripList) where
  abbrev pub start_number_of : ℕ
  start_number_of = start_refusal l.key l.nonce l.secret l.associated l.out

  -- a start turned down leaves it finished
  abbrev pub plain_start : PlainMessage
  plain_start = record { message = []; finished = unless start_number_of true false }

  unfoldable pub plain_told : List Told
  plain_told = plain_answer start_number_of secret_length ∷ plain_from plain_start l.calls

  unfoldable pub plain_of : PlainMessage
  plain_of = after_calls plain_start l.calls

  -- whole sealing of a message under the list's key, nonce, secret number and associated data
  abbrev pub sealing : Bytes → Bytes
  sealing m = sealed (sizes Icepole128) l.key l.nonce l.secret l.associated m

  unfoldable pub plain_outputs : List Bytes
  plain_outputs =
      unless start_number_of l.out (put_bytes l.out 0 (take secret_length (sealing []))) ∷ plain_outputs_from sealing plain_start l.calls

-- ---- a message cut into strips, each with room in its output, and then the end
pub record Piece : Type 0 where
  pub message : Bytes
  pub out : Bytes
  pub room : length message ≤ length out

abbrev pub joined : List Piece → Bytes
joined [] = []
joined (x ∷ xs) = x.message ++ joined xs

abbrev pub cut : List Piece → Bytes → List Call
cut [] out = end_of out ∷ []
cut (x ∷ xs) out = strip_of x.message x.out ∷ cut xs out

abbrev pub AllDone : List Told → Type 0
AllDone [] = Unit {0}
AllDone (t ∷ ts) = (t.number ≡ 0) × AllDone ts

-- ---- the theorem of lists of strips
pub record StripLists : Type 0 where
  pub agrees : (l : StripList) → run_told l ≡ plain_told l
  pub outputs : (l : StripList) → run_outputs l ≡ plain_outputs l
  pub bytes : (l : StripList) → start_number_of l ≡ 0
      → run_written l ≡ cond (plain_of l).finished (sealing l (plain_of l).message) (take (secret_length + length (plain_of l).message) (sealing l (plain_of l).message))
  pub any_cut : (key nonce secret associated out end : Bytes) (xs : List Piece)
      → length key ≡ (sizes Icepole128).key → length nonce ≡ (sizes Icepole128).nonce → length secret ≡ secret_length
      → length associated ≤ max_length → secret_length ≤ length out → length (joined xs) ≤ max_length → tag_length ≤ length end
      → let l : StripList = record { key = key; nonce = nonce; secret = secret; associated = associated; out = out; calls = cut xs end } in
      AllDone (run_told l) × (run_written l ≡ sealing l (joined xs))

-- ---- the C calls run: what a call returns and leaves is what its contract states. st is the slice that is lent for the state
unfoldable pub number_c : Bytes → Call → ℕ
number_c st (strip_of m o) = strip_call_refusal st m o
number_c st (end_of o) = end_call_refusal st o

unfoldable pub output_c : Bytes → Call → Bytes
output_c st (strip_of m o) = strip_call_output st m o
output_c st (end_of o) = end_call_output st o

-- the slice after the call
unfoldable pub slice_c : Bytes → Call → Bytes
slice_c st (strip_of m o) = strip_call_state st m o
slice_c st (end_of o) = end_call_state st o

abbrev pub numbers_from_c : Bytes → List Call → List ℕ
numbers_from_c st [] = []
numbers_from_c st (c ∷ cs) = number_c st c ∷ numbers_from_c (slice_c st c) cs

abbrev pub outputs_from_c : Bytes → List Call → List Bytes
outputs_from_c st [] = []
outputs_from_c st (c ∷ cs) = output_c st c ∷ outputs_from_c (slice_c st c) cs

abbrev pub slice_from_c : Bytes → List Call → Bytes
slice_from_c st [] = st
slice_from_c st (c ∷ cs) = slice_from_c (slice_c st c) cs

module _ (l : StripList) (st : Bytes) where
  abbrev pub start_slice_c : Bytes
  start_slice_c = start_call_state l.key l.nonce l.secret l.associated l.out st

  -- of the whole list, start's first
  unfoldable pub run_numbers_c : List ℕ
  run_numbers_c = start_call_refusal l.key l.nonce l.secret l.associated l.out st ∷ numbers_from_c start_slice_c l.calls

  unfoldable pub run_outputs_c : List Bytes
  run_outputs_c = start_call_output l.key l.nonce l.secret l.associated l.out st ∷ outputs_from_c start_slice_c l.calls

  unfoldable pub run_slice_c : Bytes
  run_slice_c = slice_from_c start_slice_c l.calls

-- ---- the theorems of the C calls
abbrev pub StatePasses : Type 0
StatePasses = (b : Bytes) (s : StripState) → strip_state_length ≤ length b → length s.bytes ≡ state_length → s.count < word_range
    → strip_state_in (put_bytes b 0 (strip_state_bytes s)) ≡ s

pub record StripCallLists : Type 0 where
  pub numbers : (l : StripList) (st : Bytes) → strip_state_length ≤ length st → run_numbers_c l st ≡ map (λ (t : Told). t.number) (run_told l)
  pub outputs : (l : StripList) (st : Bytes) → strip_state_length ≤ length st → run_outputs_c l st ≡ run_outputs l
  pub state : (l : StripList) (st : Bytes) → strip_state_length ≤ length st
      → run_slice_c l st ≡ strip_state_bytes (run_state l) ++ drop strip_state_length st
  pub short : (l : StripList) (st : Bytes) → length st < strip_state_length
      → (run_numbers_c l st ≡ cond (eqb (start_number_of l) 0) 5 (start_number_of l) ∷ map (λ (c : Call). 5) l.calls)
      × (run_outputs_c l st ≡ l.out ∷ map lent_to l.calls)
      × (run_slice_c l st ≡ st)
