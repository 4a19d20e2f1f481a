-- The refusal numbers of the recorder's calls, from plain numbers (01, "Recorder" and "Turned down, by example"; 02, N1). The recorder and the plain
-- burst use the same.
-- Assumes nothing.
use Rattle.std.specs.Prelude.{Bool, not, ◌||◌, [], ◌∷◌, ℕ, ◌+◌, eqb, leb, ltb}
use Rattle.icepole.specs.Answers.{refusal, ◌when◌}
use Rattle.burst.specs.declared.Edition.{Edition}
use Rattle.burst.specs.Editions.{no_camera}
use Rattle.burst.specs.Parts.{seal_length, key_length, mark_length}
use Rattle.burst.specs.Layout.{max_picture, closing_offset}

-- bytes used after a picture of so many bytes
abbrev pub used_after : ℕ → ℕ → ℕ
used_after used picture = used + picture + seal_length

-- the file's length, from the bytes used by header and records and the count of pictures
abbrev pub total_from : ℕ → ℕ → ℕ
total_from used kept = closing_offset used kept + seal_length

-- key, site mark and buffer by their lengths, and the camera number. A burst without shots needs header and closing seal
unfoldable pub begin_number : Edition → (key site_mark camera buffer : ℕ) → ℕ
begin_number e key site_mark camera buffer =
    refusal
    ((1 when not (eqb key key_length))
    ∷ (3 when not (eqb site_mark mark_length))
    ∷ (15 when no_camera e camera)
    ∷ (11 when ltb buffer (total_from e.header 0))
    ∷ [])

-- with the picture and its entry, the burst can still be closed
unfoldable pub keep_number : Edition → (sound : Bool) (taken kept used stamp picture buffer : ℕ) → ℕ
keep_number e sound taken kept used stamp picture buffer =
    refusal
    ((8 when not sound)
    ∷ (3 when not (eqb stamp mark_length))
    ∷ (9 when leb e.shots taken)
    ∷ (10 when (ltb picture 1 || ltb max_picture picture))
    ∷ (11 when ltb buffer (total_from (used_after used picture) (kept + 1)))
    ∷ [])

unfoldable pub drop_number : Edition → (sound : Bool) (taken : ℕ) → ℕ
drop_number e sound taken = refusal ((8 when not sound) ∷ (9 when leb e.shots taken) ∷ [])

unfoldable pub close_number : (sound : Bool) (kept used buffer : ℕ) → ℕ
close_number sound kept used buffer = refusal ((8 when not sound) ∷ (11 when ltb buffer (total_from used kept)) ∷ [])
