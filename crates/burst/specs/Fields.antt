-- The fields of the burst file: how many bytes each has, and where it stands in header or index entry (01, "The burst file"; 02, N1). All numbers are little-endian.
-- Assumes nothing.
use Rattle.std.specs.Prelude.{ℕ, ◌+◌}

-- ---- bytes of a field
-- an edition, a shot number, taken, kept, dropped, and the entry's zeros
abbrev pub count_width : ℕ
count_width = 2

-- an offset in the file, or a length
abbrev pub offset_width : ℕ
offset_width = 4

-- a burst number, in the nonce too
abbrev pub burst_number_width : ℕ
burst_number_width = 8

-- a camera number, in the nonce too (02, N1)
abbrev pub camera_width : ℕ
camera_width = 4

-- ---- where the header's nine fields stand, with which it starts in every edition
abbrev pub edition_at : ℕ
edition_at = 0

abbrev pub taken_at : ℕ
taken_at = edition_at + count_width

abbrev pub kept_at : ℕ
kept_at = taken_at + count_width

abbrev pub dropped_at : ℕ
dropped_at = kept_at + count_width

abbrev pub burst_number_at : ℕ
burst_number_at = dropped_at + count_width

abbrev pub picture_offset_at : ℕ
picture_offset_at = burst_number_at + burst_number_width

abbrev pub index_offset_at : ℕ
index_offset_at = picture_offset_at + offset_width

abbrev pub closing_offset_at : ℕ
closing_offset_at = index_offset_at + offset_width

abbrev pub total_at : ℕ
total_at = closing_offset_at + offset_width

-- they have so many bytes
abbrev pub fields_length : ℕ
fields_length = total_at + offset_width

-- behind them, in an edition that has one, the camera number (02, N1: bytes 32 to 35)
abbrev pub camera_at : ℕ
camera_at = fields_length

-- ---- where an index entry's fields stand, from its first byte on: the shot number at 0, then
abbrev pub zeros_at : ℕ
zeros_at = count_width

abbrev pub record_offset_at : ℕ
record_offset_at = zeros_at + count_width

abbrev pub picture_length_at : ℕ
picture_length_at = record_offset_at + offset_width

-- bytes of an index entry
abbrev pub entry_length : ℕ
entry_length = picture_length_at + offset_width
