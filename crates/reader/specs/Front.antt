-- The front of a file (01, "The burst file"; 02, N1): what header and index say, and the front rules. No key is needed.
-- Assumes nothing.
use Rattle.std.specs.Prelude.{Bool, true, not, ◌&&◌, List, [], ◌∷◌, ℕ, zero, suc, ◌+◌, ◌*◌, eqb, leb, length, take, drop}
use Rattle.bytes_le.specs.Bytes.{Bytes, le_at}
use Rattle.burst.specs.declared.Entry.{Entry}
use Rattle.reader.specs.declared.Header.{Header}
use Rattle.burst.specs.declared.Edition.{Edition}
use Rattle.burst.specs.declared.Name.{Name}
use Rattle.burst.specs.Fields.{count_width, offset_width, burst_number_width, edition_at, taken_at, kept_at, dropped_at, burst_number_at, picture_offset_at}
use Rattle.burst.specs.Fields.{index_offset_at, closing_offset_at, total_at, camera_at, zeros_at, record_offset_at, picture_length_at, entry_length}
use Rattle.burst.specs.Editions.{numbered, no_camera}
use Rattle.burst.specs.Parts.{seal_length}
use Rattle.burst.specs.Layout.{closing_offset}
use Rattle.burst.specs.Numbers.{total_from}
use Rattle.burst.specs.Index.{index_rules}

-- ---- the header's numbers
abbrev pub edition_number_in : Bytes → ℕ
edition_number_in f = le_at count_width f edition_at

abbrev pub taken_in : Bytes → ℕ
taken_in f = le_at count_width f taken_at

abbrev pub kept_in : Bytes → ℕ
kept_in f = le_at count_width f kept_at

abbrev pub dropped_in : Bytes → ℕ
dropped_in f = le_at count_width f dropped_at

abbrev pub burst_number_in : Bytes → ℕ
burst_number_in f = le_at burst_number_width f burst_number_at

abbrev pub picture_offset_in : Bytes → ℕ
picture_offset_in f = le_at offset_width f picture_offset_at

abbrev pub index_offset_in : Bytes → ℕ
index_offset_in f = le_at offset_width f index_offset_at

abbrev pub closing_offset_in : Bytes → ℕ
closing_offset_in f = le_at offset_width f closing_offset_at

abbrev pub total_in : Bytes → ℕ
total_in f = le_at offset_width f total_at

-- the file's edition, the row of that number
abbrev pub edition_in : Bytes → Edition
edition_in f = numbered (edition_number_in f)

-- the camera number, in a file of edition e: of no bytes, and so 0, where the edition has none
abbrev pub camera_of : Edition → Bytes → ℕ
camera_of e f = le_at e.camera f camera_at

abbrev pub camera_in : Bytes → ℕ
camera_in f = camera_of (edition_in f) f

-- the name of the file's burst
abbrev pub name_in : Bytes → Name
name_in f = record { burst_number = burst_number_in f; camera = camera_in f }

-- the numbers of the header's nine fields, as the code reads them
abbrev pub header_in : Bytes → Header
header_in f = record {
  edition = edition_number_in f;
  taken = record { 0 = taken_in f };
  kept = record { 0 = kept_in f };
  dropped = dropped_in f;
  burst_number = burst_number_in f;
  pictures = picture_offset_in f;
  index = index_offset_in f;
  closing = closing_offset_in f;
  total = total_in f;
}

-- ---- the index
-- the entry that stands at a position of the file
abbrev pub entry_at : Bytes → ℕ → Entry
entry_at f position = record {
  shot = record { 0 = le_at count_width f position };
  zeros = le_at count_width f (position + zeros_at);
  offset = le_at offset_width f (position + record_offset_at);
  length = le_at offset_width f (position + picture_length_at);
}

-- the position of the entry of a place
abbrev pub position_of : Bytes → ℕ → ℕ
position_of f place = index_offset_in f + entry_length * place

-- n entries, from a position on
unfoldable pub entries_at : ℕ → ℕ → Bytes → List Entry
entries_at zero position f = []
entries_at (suc n) position f = entry_at f position ∷ entries_at n (position + entry_length) f

-- ---- the front rules. Sums are of numbers, so none wraps
abbrev pub all_zero : Bytes → Bool
all_zero [] = true
all_zero (x ∷ xs) = eqb x 0 && all_zero xs

-- the header's bytes that are to be zero: those behind the camera number, or where there is none behind the nine fields
abbrev pub zeros_of : Edition → Bytes → Bytes
zeros_of e f = drop (camera_at + e.camera) (take e.header f)

-- the rules of the header's bytes behind its nine fields: a camera number is not 0, and its zeros are zero
unfoldable pub rest_rules : Edition → Bytes → Bool
rest_rules e f = not (no_camera e (camera_of e f)) && all_zero (zeros_of e f)

-- the rules of a row, its least length first
unfoldable pub front_rules_of : Edition → Bytes → Bool
front_rules_of e f =
    leb (total_from e.header 0) (length f)
    && (eqb (edition_number_in f) e.number
    && (eqb (picture_offset_in f) e.header
    && (leb (taken_in f) e.shots
    && (eqb (taken_in f) (kept_in f + dropped_in f)
    && (eqb (closing_offset_in f) (closing_offset (index_offset_in f) (kept_in f))
    && (eqb (total_in f) (closing_offset_in f + seal_length)
    && (eqb (total_in f) (length f)
    && (rest_rules e f
    && index_rules 0 e.header (taken_in f) (index_offset_in f) (entries_at (kept_in f) (index_offset_in f) f)))))))))

-- at the row of the file's own edition number
unfoldable pub front_rules : Bytes → Bool
front_rules f = front_rules_of (edition_in f) f
