-- What the lister prints for a file, without a key (01, "Afterwards": "The lister"; 02, N1): the front only is tested.
-- Assumes nothing.
use Rattle.std.specs.Prelude.{cond, List, [], ◌∷◌, ◌++◌, ℕ, ◌*◌, ltb, length, Result}
use Rattle.refusals.specs.declared.Refusal.{Refusal}
use Rattle.refusals.specs.Numbers.{number_of, mark_of, value_or}
use Rattle.bytes_le.specs.Bytes.{Bytes, put_bytes}
use Rattle.icepole.specs.Answers.{◌when◌, refusal, unless, given}
use Rattle.burst.specs.declared.Entry.{Entry}
use Rattle.burst.specs.Editions.{max_entries}
use Rattle.reader.specs.Front.{taken_in, kept_in, dropped_in, burst_number_in, index_offset_in, entries_at, front_rules}
use Rattle.plain_text.specs.Text.{ascii, field}

-- the longest file that is listed
abbrev pub max_listed : ℕ
max_listed = 65536

-- ---- the lines
-- burst and counts
unfoldable pub head_lines : (burst_number taken kept dropped : ℕ) → Bytes
head_lines burst_number taken kept dropped =
    field (ascii "burst ") burst_number
    ++ (field (ascii "\ntaken ") taken ++ (field (ascii " kept ") kept ++ (field (ascii " dropped ") dropped ++ ascii "\n")))

-- a kept picture: shot number, record offset, picture length
unfoldable pub shot_line : (shot offset count : ℕ) → Bytes
shot_line shot offset count =
    field (ascii "shot ") shot ++ (field (ascii " at ") offset ++ (field (ascii " length ") count ++ ascii "\n"))

unfoldable pub shot_lines : List Entry → Bytes
shot_lines [] = []
shot_lines (e ∷ es) = shot_line e.shot.0 e.offset e.length ++ shot_lines es

unfoldable pub front_lines : Bytes → Bytes
front_lines f =
    head_lines (burst_number_in f) (taken_in f) (kept_in f) (dropped_in f) ++ shot_lines (entries_at (kept_in f) (index_offset_in f) f)

-- ---- what is printed
unfoldable pub listing : Bytes → Bytes
listing f =
    cond (ltb max_listed (length f)) (ascii "front too long\n")
    (cond (front_rules f) (front_lines f) (ascii "front 12\n"))

-- room for every text: 80 bytes for each shot of the longest burst
abbrev pub text_room : ℕ
text_room = 80 * max_entries

-- ---- the call
-- what it answers, with its number of document 01: a refusal number, 0 when done, its mark, and the text's length
pub record Listed : Type 0 where
  pub refusal : ℕ
  pub mark : ℕ
  pub length : ℕ

-- what is returned, as such an answer
abbrev pub listed_as : Result ℕ Refusal → Listed
listed_as r = record { refusal = number_of r; mark = mark_of r; length = value_or (λ n. n) 0 r }

module _ (f out : Bytes) where
  -- 5 where the text does not fit
  unfoldable pub list_refusal : ℕ
  list_refusal = refusal ((5 when ltb (length out) (length (listing f))) ∷ [])

  -- the length of the text
  unfoldable pub list_answer : Listed
  list_answer = record { refusal = list_refusal; mark = 0; length = given list_refusal (length (listing f)) }

  unfoldable pub list_output : Bytes
  list_output = unless list_refusal out (put_bytes out 0 (listing f))
