-- What sealing, verifying and opening answer and leave in the lent buffer, for good and bad calls (01, "Turned down, by example").
-- Assumes nothing.
use Rattle.std.specs.Prelude.{Bool, cond, not, ◌||◌, List, [], ◌∷◌, ℕ, ◌+◌, ◌-◌, eqb, leb, ltb, length, replicate, Result}
use Rattle.refusals.specs.declared.Refusal.{Refusal}
use Rattle.refusals.specs.Numbers.{number_of, mark_of, value_or}
use Rattle.bytes_le.specs.Bytes.{Bytes, put_bytes, same}
use Rattle.blocks.specs.declared.Sizes.{Sizes}
use Rattle.blocks.specs.Lengths.{tag_length, max_secret, max_length}
use Rattle.blocks.specs.Sealing.{sealed, secret_of, message_of, expected_tag, tag_part}
use Rattle.icepole.specs.declared.Variant.{Variant}
use Rattle.icepole.specs.declared.Released.{Released}
use Rattle.icepole.specs.Variants.{sizes}

-- a condition and its refusal number
pub record Condition : Type 0 where
  pub holds : Bool
  pub number : ℕ

infix 20 ◌when◌
abbrev pub ◌when◌ : ℕ → Bool → Condition
n when b = record { holds = b; number = n }

-- the number of the first condition that holds, read top down; 0 where none does
abbrev pub refusal : List Condition → ℕ
refusal [] = 0
refusal (c ∷ cs) = cond c.holds c.number (refusal cs)

-- ---- the numbers, from the lengths of what is lent
-- k key, n nonce, s secret number, a associated data (both parts), m message, o output
unfoldable pub seal_number : Sizes → ℕ → ℕ → ℕ → ℕ → ℕ → ℕ → ℕ
seal_number q k n s a m o =
    refusal
    ((1 when not (eqb k q.key))
    ∷ (2 when not (eqb n q.nonce))
    ∷ (3 when not (eqb s q.secret))
    ∷ (4 when (ltb max_length a || ltb max_length m))
    ∷ (5 when ltb o (q.secret + (m + tag_length)))
    ∷ [])

-- k key, n nonce, a associated data (both parts), c sealed message; whether the answer fits into what is lent for it, and whether the tag agrees
unfoldable pub open_number : Sizes → ℕ → ℕ → ℕ → ℕ → Bool → Bool → ℕ
open_number q k n a c fits agrees =
    refusal
    ((1 when not (eqb k q.key))
    ∷ (2 when not (eqb n q.nonce))
    ∷ (4 when (ltb max_length a || ltb max_length (c - (q.secret + tag_length))))
    ∷ (6 when ltb c (q.secret + tag_length))
    ∷ (5 when not fits)
    ∷ (7 when not agrees)
    ∷ [])

-- ---- what is so after a call: as it was, where the call was refused
abbrev pub unless : {A : Type 0} → ℕ → A → A → A
unless num was is = cond (eqb num 0) is was

-- a number of an answer: with a refusal goes 0
abbrev pub given : ℕ → ℕ → ℕ
given num x = unless num 0 x

-- ---- answers, with every number of document 01: a refusal number, 0 when done, its mark, and the rest
-- what sealing answers: the count of bytes written
pub record Sealed : Type 0 where
  pub refusal : ℕ
  pub mark : ℕ
  pub count : ℕ

-- what opening answers: the message's length and the secret number
pub record Opened : Type 0 where
  pub refusal : ℕ
  pub mark : ℕ
  pub length : ℕ
  pub secret : Bytes

-- with a refusal go zeros, and the mark is 0
abbrev pub sealed_answer : ℕ → ℕ → Sealed
sealed_answer num count = record { refusal = num; mark = 0; count = given num count }

-- the field has room for the longest secret number; zeros follow a shorter one
abbrev pub no_secret : Bytes
no_secret = replicate max_secret 0

abbrev pub opened_answer : ℕ → ℕ → Bytes → Opened
opened_answer num count secret =
    record { refusal = num; mark = 0; length = given num count; secret = unless num no_secret (put_bytes no_secret 0 secret) }

-- ---- what the calls return, as such an answer
abbrev pub sealed_as : Result ℕ Refusal → Sealed
sealed_as r = record { refusal = number_of r; mark = mark_of r; count = value_or (λ n. n) 0 r }

abbrev pub opened_as : Result Released Refusal → Opened
opened_as r = record {
  refusal = number_of r;
  mark = mark_of r;
  length = value_or (λ x. x.length) 0 r;
  secret = value_or (λ x. x.secret) no_secret r;
}

-- ---- sealing
module _ (v : Variant) (key nonce secret ad m out : Bytes) where
  unfoldable pub seal_refusal : ℕ
  seal_refusal = seal_number (sizes v) (length key) (length nonce) (length secret) (length ad) (length m) (length out)

  -- the count of bytes written
  unfoldable pub seal_answer : Sealed
  seal_answer = sealed_answer seal_refusal ((sizes v).secret + (length m + tag_length))

  unfoldable pub seal_output : Bytes
  seal_output = unless seal_refusal out (put_bytes out 0 (sealed (sizes v) key nonce secret ad m))

-- ---- opening
-- whether the tag of the sealed message c is the one that belongs to what it holds
unfoldable pub tag_agrees : Sizes → Bytes → Bytes → Bytes → Bytes → Bool
tag_agrees q key nonce ad c = same (expected_tag q key nonce ad c) (tag_part c)

-- the length of the message that c implies
abbrev pub open_length : Variant → Bytes → ℕ
open_length v c = length c - ((sizes v).secret + tag_length)

-- whether that message fits into an output. Verifying writes nothing: what it answers always fits
abbrev pub fits_output : Variant → Bytes → Bytes → Bool
fits_output v c out = leb (open_length v c) (length out)

module _ (v : Variant) (key nonce ad c : Bytes) (fits : Bool) where
  unfoldable pub open_refusal : ℕ
  open_refusal = open_number (sizes v) (length key) (length nonce) (length ad) (length c) fits (tag_agrees (sizes v) key nonce ad c)

  -- the message's length and the secret number
  unfoldable pub open_answer : Opened
  open_answer = opened_answer open_refusal (open_length v c) (secret_of (sizes v) key nonce c)

  unfoldable pub open_output : Bytes → Bytes
  open_output out = unless open_refusal out (put_bytes out 0 (message_of (sizes v) key nonce ad c))
