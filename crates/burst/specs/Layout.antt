-- The burst file's pieces as bytes (01, "The burst file"; 02, N1).
-- Assumes nothing.
use Rattle.std.specs.Prelude.{[], ◌++◌, ℕ, ◌+◌, ◌-◌, ◌*◌, length, replicate}
use Rattle.bytes_le.specs.Bytes.{Bytes, le}
use Rattle.burst.specs.declared.Edition.{Edition}
use Rattle.burst.specs.declared.Name.{Name}
use Rattle.burst.specs.Fields.{count_width, offset_width, burst_number_width, camera_at, entry_length}
use Rattle.burst.specs.Editions.{max_entries}
use Rattle.burst.specs.Parts.{seal_length, name_held, seal_part}

-- a picture has 1 to so many bytes
abbrev pub max_picture : ℕ
max_picture = 1048576

-- bytes of the longest index
abbrev pub max_index : ℕ
max_index = entry_length * max_entries

-- ---- what identifies a burst: what names it under its key, and the site mark
pub record Identity : Type 0 where
  pub name : Name
  pub site_mark : Bytes

-- from begin's arguments
abbrev pub identified : (burst_number camera : ℕ) (site_mark : Bytes) → Identity
identified burst_number camera site_mark = record { name = record { burst_number = burst_number; camera = camera }; site_mark = site_mark }

-- that of a burst of an edition, from what its begin is given
abbrev pub identity_held : Edition → Identity → Identity
identity_held e i = record { name = name_held e i.name; site_mark = i.site_mark }

-- ---- the pieces
-- index entry: shot number, zero, record offset, picture length
unfoldable pub entry_bytes : ℕ → ℕ → ℕ → ℕ → Bytes
entry_bytes shot zeros offset count = le count_width shot ++ (le count_width zeros ++ (le offset_width offset ++ le offset_width count))

-- the closing seal stands behind the index
abbrev pub closing_offset : ℕ → ℕ → ℕ
closing_offset index_offset kept = index_offset + entry_length * kept

-- the header's bytes behind its nine fields: in an edition that has one the camera number, then zeros
unfoldable pub header_rest : Edition → Name → Bytes
header_rest e name = le e.camera name.camera ++ replicate (e.header - (camera_at + e.camera)) 0

-- header: edition, taken, kept, dropped, burst number, picture offset, index offset, closing offset, total length, and the rest
unfoldable pub header_bytes : Edition → Name → (taken kept dropped index_offset : ℕ) → Bytes
header_bytes e name taken kept dropped index_offset =
    le count_width e.number
    ++ (le count_width taken
    ++ (le count_width kept
    ++ (le count_width dropped
    ++ (le burst_number_width name.burst_number
    ++ (le offset_width e.header
    ++ (le offset_width index_offset
    ++ (le offset_width (closing_offset index_offset kept)
    ++ (le offset_width (closing_offset index_offset kept + seal_length) ++ header_rest e name))))))))

-- record: the picture, marked with the stamp, and the index entry as associated data
unfoldable pub record_bytes : Edition → (key : Bytes) (name : Name) (shot offset : ℕ) (stamp picture : Bytes) → Bytes
record_bytes e key name shot offset stamp picture = seal_part e key name shot stamp (entry_bytes shot 0 offset (length picture)) picture

-- closing seal: shot number 0, an empty body, marked with the site mark; header then index as associated data
unfoldable pub closing_seal : Edition → (key : Bytes) (i : Identity) (header index : Bytes) → Bytes
closing_seal e key i header index = seal_part e key i.name 0 i.site_mark (header ++ index) []
