-- What start, strip and end answer and leave in the lent output, for good and bad calls (01, "Afterwards" and "Turned down, by example"). ICEPOLE-128.
-- Assumes nothing.
use Rattle.std.specs.Prelude.{Bool, true, false, ◌||◌, [], ◌∷◌, ℕ, ◌+◌, ltb, length, replicate, Result}
use Rattle.refusals.specs.declared.Refusal.{Refusal}
use Rattle.refusals.specs.Numbers.{number_of, mark_of, value_or}
use Rattle.bytes_le.specs.Bytes.{Bytes, put_bytes}
use Rattle.state_bytes.specs.StateBytes.{state_length}
use Rattle.blocks.specs.declared.Sizes.{Sizes}
use Rattle.icepole.specs.declared.Variant.TheVariants.{Icepole128}
use Rattle.icepole.specs.Variants.{sizes}
use Rattle.blocks.specs.Lengths.{tag_length, max_length}
use Rattle.blocks.specs.Sealing.{◌⊕₈◌, keyed, ready}
use Rattle.icepole.specs.Answers.{◌when◌, refusal, seal_number, unless, given}
use Rattle.strips.specs.declared.StripState.{StripState}
use Rattle.strips.specs.declared.StripOutcome.{StripOutcome}
use Rattle.strips.specs.Machine.{Held, held, fed, fed_bytes, fill_of, ended}

abbrev pub block : ℕ
block = (sizes Icepole128).block

-- ---- the numbers
-- k key, n nonce, s secret number, a associated data (both parts), o output: their lengths. A start is turned down as sealing no message is, but needs no room
-- for the tag
unfoldable pub start_number : Sizes → ℕ → ℕ → ℕ → ℕ → ℕ → ℕ
start_number q k n s a o = seal_number q k n s a 0 (o + tag_length)

-- whether the state is finished, the bytes it has counted, the strip's length, the output's
unfoldable pub strip_number : Bool → ℕ → ℕ → ℕ → ℕ
strip_number finished count m o =
    refusal
    ((14 when (finished || ltb max_length count))
    ∷ (4 when ltb max_length (count + m))
    ∷ (5 when ltb o m)
    ∷ [])

unfoldable pub end_number : Bool → ℕ → ℕ → ℕ
end_number finished count o = refusal ((14 when (finished || ltb max_length count)) ∷ (5 when ltb o tag_length) ∷ [])

-- ---- answers: a refusal number, 0 when done, and its mark; the count of bytes written and the state that a call leaves, or 0 and the state it was given
pub record StripAnswer : Type 0 where
  pub refusal : ℕ
  pub mark : ℕ
  pub count : ℕ
  pub state : StripState

abbrev pub answered : ℕ → StripState → StripState → ℕ → StripAnswer
answered num was is count = record { refusal = num; mark = 0; count = given num count; state = unless num was is }

-- what the calls return, as such an answer
abbrev pub call_as : Result ℕ Refusal → StripState → StripAnswer
call_as r s = record { refusal = number_of r; mark = mark_of r; count = value_or (λ n. n) 0 r; state = s }

abbrev pub answered_as : StripOutcome → StripAnswer
answered_as o = call_as o.written o.state

-- ---- start
-- what a start that is turned down returns
abbrev pub not_started : StripState
not_started = record { bytes = replicate state_length 0; count = 0; finished = true }

module _ (key nonce secret ad out : Bytes) where
  unfoldable pub start_refusal : ℕ
  start_refusal = start_number (sizes Icepole128) (length key) (length nonce) (length secret) (length ad) (length out)

  -- the state after the associated blocks
  abbrev pub started : StripState
  started = record { bytes = ready block (keyed key nonce) secret ad; count = 0; finished = false }

  unfoldable pub start_answer : StripAnswer
  start_answer = answered start_refusal not_started started (sizes Icepole128).secret

  -- the sealed secret number
  unfoldable pub start_output : Bytes
  start_output = unless start_refusal out (put_bytes out 0 (keyed key nonce ⊕₈ secret))

-- ---- strip and end: a state is what its fields say, whoever made it
abbrev pub held_in : StripState → Held
held_in s = held s.bytes (fill_of block s.count)

module _ (s : StripState) (m out : Bytes) where
  unfoldable pub strip_refusal : ℕ
  strip_refusal = strip_number s.finished s.count (length m) (length out)

  abbrev pub after_strip : StripState
  after_strip = record { bytes = (fed block (held_in s) m).state; count = s.count + length m; finished = false }

  unfoldable pub strip_answer : StripAnswer
  strip_answer = answered strip_refusal s after_strip (length m)

  unfoldable pub strip_output : Bytes
  strip_output = unless strip_refusal out (put_bytes out 0 (fed_bytes block (held_in s) m))

module _ (s : StripState) (out : Bytes) where
  unfoldable pub end_refusal : ℕ
  end_refusal = end_number s.finished s.count (length out)

  abbrev pub after_end : StripState
  after_end = record { bytes = s.bytes; count = s.count; finished = true }

  unfoldable pub end_answer : StripAnswer
  end_answer = answered end_refusal s after_end tag_length

  -- the tag
  unfoldable pub end_output : Bytes
  end_output = unless end_refusal out (put_bytes out 0 (ended (held_in s)))
