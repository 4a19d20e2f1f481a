-- The plain burst (01, "Recorder"; 02, N1): worked out from the calls' arguments and the buffer's length alone, never from the recorder.
-- Assumes nothing.
use Rattle.std.specs.Prelude.{Bool, true, false, not, List, [], ◌∷◌, ◌++◌, ℕ, suc, ◌+◌, length}
use Rattle.bytes_le.specs.Bytes.{Bytes}
use Rattle.icepole.specs.Answers.{unless, given}
use Rattle.burst.specs.declared.Edition.{Edition}
use Rattle.burst.specs.declared.Name.{Name}
use Rattle.burst.specs.Layout.{Identity, identified, identity_held, entry_bytes, header_bytes, record_bytes, closing_seal}
use Rattle.burst.specs.Numbers.{used_after, total_from, begin_number, keep_number, drop_number, close_number}

-- ---- a firing of the shutter: a picture with its stamp, or a gap where it was dropped. (01 says "a list of shots"; `Shot` is the number of one)
pub data Firing : Type 0 where
  kept : (stamp picture : Bytes) → Firing
  gap : Firing

-- how many pictures, and how many gaps
abbrev pub pictures : List Firing → ℕ
pictures [] = 0
pictures (kept s p ∷ xs) = suc (pictures xs)
pictures (gap ∷ xs) = pictures xs

abbrev pub gaps : List Firing → ℕ
gaps [] = 0
gaps (kept s p ∷ xs) = gaps xs
gaps (gap ∷ xs) = suc (gaps xs)

-- the bytes used after the records of xs, where `used` were before
abbrev pub used_by : ℕ → List Firing → ℕ
used_by used [] = used
used_by used (kept s p ∷ xs) = used_by (used_after used (length p)) xs
used_by used (gap ∷ xs) = used_by used xs

-- the records, and the index, of xs, the first of which is shot number n; the first record stands at `offset`
abbrev pub records : Edition → Bytes → Name → ℕ → ℕ → List Firing → Bytes
records e key name n offset [] = []
records e key name n offset (kept s p ∷ xs) =
    record_bytes e key name n offset s p ++ records e key name (n + 1) (used_after offset (length p)) xs
records e key name n offset (gap ∷ xs) = records e key name (n + 1) offset xs

abbrev pub index : ℕ → ℕ → List Firing → Bytes
index n offset [] = []
index n offset (kept s p ∷ xs) = entry_bytes n 0 offset (length p) ++ index (n + 1) (used_after offset (length p)) xs
index n offset (gap ∷ xs) = index (n + 1) offset xs

-- ---- the burst
pub record Plain : Type 0 where
  pub key : Bytes
  pub identity : Identity
  pub shots : List Firing
  pub closed : Bool

-- after a begin: no shots yet
abbrev pub new_burst : (key : Bytes) (i : Identity) → Plain
new_burst key i = record { key = key; identity = i; shots = []; closed = false }

-- at first it is closed
abbrev pub no_burst : Plain
no_burst = record { key = []; identity = identified 0 0 []; shots = []; closed = true }

module _ (e : Edition) where
  abbrev pub used_of : Plain → ℕ
  used_of p = used_by e.header p.shots

  unfoldable pub total_of : Plain → ℕ
  total_of p = total_from (used_of p) (pictures p.shots)

  unfoldable pub header_of : Plain → Bytes
  header_of p = header_bytes e p.identity.name (length p.shots) (pictures p.shots) (gaps p.shots) (used_of p)

  unfoldable pub index_of : Plain → Bytes
  index_of p = index 1 e.header p.shots

  -- its file: header, records, index and closing seal, each shot numbered by its position from 1
  unfoldable pub file_of : Plain → Bytes
  file_of p =
      header_of p
      ++ (records e p.key p.identity.name 1 e.header p.shots
      ++ (index_of p ++ closing_seal e p.key p.identity (header_of p) (index_of p)))

-- ---- the calls after begin
-- drop is given a recorder by value, or one that is lent and changed in place
pub data Way : Type 0 where
  by_value : Way
  in_place : Way

pub data Call : Type 0 where
  keep_shot : (stamp picture : Bytes) → Call
  drop_shot : Way → Call
  close_burst : Call

-- a list of calls: the arguments of its one begin, the length of the buffer, and the calls after it
pub record CallList : Type 0 where
  pub key : Bytes
  pub identity : Identity
  pub buffer_length : ℕ
  pub calls : List Call

-- what a call answers: its refusal number, its mark, and the shot number or the total, 0 where it was refused
pub record Answer : Type 0 where
  pub number : ℕ
  pub mark : ℕ
  pub value : ℕ

module _ (e : Edition) (buffer_length : ℕ) where
  -- closed stands for not sound
  unfoldable pub number_of : Plain → Call → ℕ
  number_of p (keep_shot s q) =
      keep_number e (not p.closed) (length p.shots) (pictures p.shots) (used_of e p) (length s) (length q) buffer_length
  number_of p (drop_shot way) = drop_number e (not p.closed) (length p.shots)
  number_of p close_burst = close_number (not p.closed) (pictures p.shots) (used_of e p) buffer_length

  abbrev with_firing : Plain → Firing → Plain
  with_firing p x = record { key = p.key; identity = p.identity; shots = p.shots ++ (x ∷ []); closed = p.closed }

  -- the burst after an accepted call
  unfoldable pub accepted : Plain → Call → Plain
  accepted p (keep_shot s q) = with_firing p (kept s q)
  accepted p (drop_shot way) = with_firing p gap
  accepted p close_burst = record { key = p.key; identity = p.identity; shots = p.shots; closed = true }

  -- what an accepted call answers: the count of shots, or the total
  unfoldable pub value_of : Plain → Call → ℕ
  value_of p (keep_shot s q) = length p.shots + 1
  value_of p (drop_shot way) = length p.shots + 1
  value_of p close_burst = total_of e p

  -- a call turned down changes nothing
  unfoldable pub after_call : Plain → Call → Plain
  after_call p c = unless (number_of p c) p (accepted p c)

  -- the mark is 0: no call of these is refused with 7
  unfoldable pub answer_of : Plain → Call → Answer
  answer_of p c = record { number = number_of p c; mark = 0; value = given (number_of p c) (value_of p c) }

  abbrev pub after_calls : Plain → List Call → Plain
  after_calls p [] = p
  after_calls p (c ∷ cs) = after_calls (after_call p c) cs

  abbrev pub answers_of : Plain → List Call → List Answer
  answers_of p [] = []
  answers_of p (c ∷ cs) = answer_of p c ∷ answers_of (after_call p c) cs

module _ (e : Edition) (l : CallList) where
  abbrev pub begin_number_of : ℕ
  begin_number_of = begin_number e (length l.key) (length l.identity.site_mark) l.identity.name.camera l.buffer_length

  -- a begin turned down leaves the burst closed. In an edition without camera numbers the burst holds 0, whatever begin is given
  unfoldable pub begun : Plain
  begun = unless begin_number_of no_burst (new_burst l.key (identity_held e l.identity))

  -- the plain burst of a list
  unfoldable pub plain_of : Plain
  plain_of = after_calls e l.buffer_length begun l.calls

  -- the answers of all its calls, begin's first
  unfoldable pub plain_answers : List Answer
  plain_answers = record { number = begin_number_of; mark = 0; value = 0 } ∷ answers_of e l.buffer_length begun l.calls
