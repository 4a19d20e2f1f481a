-- The rules of the index (01, "The burst file", front rules; "Recorder", sound), over a list of entries: the recorder and the reader use the same.
-- Assumes nothing.
use Rattle.std.specs.Prelude.{Bool, ◌&&◌, List, [], ◌∷◌, ◌++◌, ℕ, eqb, leb, ltb}
use Rattle.bytes_le.specs.Bytes.{Bytes}
use Rattle.burst.specs.declared.Entry.{Entry}
use Rattle.burst.specs.Layout.{max_picture, entry_bytes}
use Rattle.burst.specs.Numbers.{used_after}

abbrev pub entry_of : (shot offset count : ℕ) → Entry
entry_of shot offset count = record { shot = record { 0 = shot }; zeros = 0; offset = offset; length = count }

-- an entry that follows one of shot number `last`, and whose record is to stand at `offset`: shot numbers rise strictly within 1 to taken, zeros are
-- zero, records touch, lengths are in range
unfoldable pub entry_rules : (last offset taken : ℕ) → Entry → Bool
entry_rules last offset taken e =
    ltb last e.shot.0
    && (leb e.shot.0 taken
    && (eqb e.zeros 0 && (eqb e.offset offset && (leb 1 e.length && leb e.length max_picture))))

-- the records of the entries go from `offset` to `end`
unfoldable pub index_rules : (last offset taken end : ℕ) → List Entry → Bool
index_rules last offset taken end [] = eqb offset end
index_rules last offset taken end (e ∷ es) =
    entry_rules last offset taken e && index_rules e.shot.0 (used_after offset e.length) taken end es

-- ---- as bytes
unfoldable pub bytes_of_entry : Entry → Bytes
bytes_of_entry e = entry_bytes e.shot.0 e.zeros e.offset e.length

unfoldable pub index_bytes : List Entry → Bytes
index_bytes [] = []
index_bytes (e ∷ es) = bytes_of_entry e ++ index_bytes es
