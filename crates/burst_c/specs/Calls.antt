-- What the C calls of include/burst.h return and write, over the answers of the reader's calls.
-- Assumes nothing.
use Rattle.std.specs.Prelude.{cond, not, [], ◌∷◌, ◌++◌, ℕ, ◌+◌, ◌*◌, ◌-◌, ◌^◌, eqb, ltb, length}
use Rattle.bytes_le.specs.Bytes.{Bytes, put_bytes, le}
use Rattle.icepole.specs.Answers.{refusal, ◌when◌, unless}
use Rattle.reader.specs.Reader.{Checked, Fetched, check_answer, record_refusal, fetch_answer, fetch_output}
use Rattle.burst.specs.Fields.{count_width, offset_width, burst_number_width, camera_width}
use Rattle.burst.specs.Parts.{mark_length}

-- ---- the infos as bytes
abbrev pub check_info_length : ℕ
check_info_length = burst_number_width + (mark_length + (3 * count_width + camera_width))

-- burst number, site mark, taken, kept, dropped, camera number
abbrev pub checked_bytes : Checked → Bytes
checked_bytes c =
    le burst_number_width c.burst_number
    ++ (c.site_mark ++ (le count_width c.taken.0 ++ (le count_width c.kept.0 ++ (le count_width c.dropped ++ le camera_width c.camera))))

abbrev pub fetch_info_length : ℕ
fetch_info_length = count_width + (offset_width + mark_length)

-- shot number, picture length, stamp
abbrev pub fetched_bytes : Fetched → Bytes
fetched_bytes r = le count_width r.shot.0 ++ (le offset_width r.length ++ r.stamp)

-- ---- check's numbers, then 5 for the info
module _ (key f info : Bytes) where
  unfoldable pub check_call_refusal : ℕ
  check_call_refusal =
      refusal
      (((check_answer key f).refusal when not (eqb (check_answer key f).refusal 0))
      ∷ (5 when ltb (length info) check_info_length)
      ∷ [])

  unfoldable pub check_call_info : Bytes
  check_call_info = unless check_call_refusal info (put_bytes info 0 (checked_bytes (check_answer key f)))

-- ---- a place as wide as a count: what that does not hold becomes the last, 65,535. No file has so many pictures, so that both are not below kept
abbrev pub last_place : ℕ
last_place = 256 ^ count_width - 1

abbrev pub place_of : ℕ → ℕ
place_of place = cond (ltb last_place place) last_place place

-- ---- check's numbers and 13, then 5 for the info, then what is left of fetch's: 5 for the output
module _ (key f : Bytes) (place : ℕ) (out info : Bytes) where
  unfoldable pub fetch_call_refusal : ℕ
  fetch_call_refusal =
      refusal
      ((record_refusal key f place when not (eqb (record_refusal key f place) 0))
      ∷ (5 when ltb (length info) fetch_info_length)
      ∷ ((fetch_answer key f place out).refusal when not (eqb (fetch_answer key f place out).refusal 0))
      ∷ [])

  unfoldable pub fetch_call_output : Bytes
  fetch_call_output = unless fetch_call_refusal out (fetch_output key f place out)

  unfoldable pub fetch_call_info : Bytes
  fetch_call_info = unless fetch_call_refusal info (put_bytes info 0 (fetched_bytes (fetch_answer key f place out)))
