-- The seals of a plain burst, in the order of its file, and the calls of the permutation that they make (01, "The burst file"; 02, N4).
-- Assumes nothing.
use Rattle.std.specs.Prelude.{List, [], ◌∷◌, ◌++◌, ◌≡◌, ℕ, ◌+◌, length}
use Rattle.bytes_le.specs.Bytes.{Bytes}
use Rattle.padded_blocks.specs.PaddedBlocks.{Permuting}
use Rattle.burst.specs.declared.Edition.{Edition}
use Rattle.burst.specs.declared.Name.{Name}
use Rattle.burst.specs.Parts.{part_blocks, part_calls, seal_part}
use Rattle.burst.specs.Layout.{entry_bytes, closing_seal}
use Rattle.burst.specs.Numbers.{used_after}
use Rattle.trace.specs.Plain.{Firing, kept, gap, records, Plain, header_of, index_of}

-- a seal to make: its shot number, 0 for the closing seal, and its mark, associated data and body
pub record Seal : Type 0 where
  pub shot : ℕ
  pub mark : Bytes
  pub associated : Bytes
  pub body : Bytes

-- the records of xs, the first of which is shot number n; the first record stands at `offset`. A gap has none
abbrev pub record_seals : (n offset : ℕ) → List Firing → List Seal
record_seals n offset [] = []
record_seals n offset (kept s p ∷ xs) =
    record { shot = n; mark = s; associated = entry_bytes n 0 offset (length p); body = p } ∷ record_seals (n + 1) (used_after offset (length p)) xs
record_seals n offset (gap ∷ xs) = record_seals (n + 1) offset xs

abbrev pub last_seal : Edition → Plain → Seal
last_seal e p = record { shot = 0; mark = p.identity.site_mark; associated = header_of e p ++ index_of e p; body = [] }

-- all seals of a burst: its records, then the closing seal
abbrev pub seals_of : Edition → Plain → List Seal
seals_of e p = record_seals 1 e.header p.shots ++ (last_seal e p ∷ [])

module _ (e : Edition) (key : Bytes) (name : Name) where
  -- the sealed bytes of seals, one after the other
  abbrev pub sealed_bytes : List Seal → Bytes
  sealed_bytes [] = []
  sealed_bytes (x ∷ xs) = seal_part e key name x.shot x.mark x.associated x.body ++ sealed_bytes xs

  -- the calls of the permutation for them
  abbrev pub seals_calls : List Seal → List Permuting
  seals_calls [] = []
  seals_calls (x ∷ xs) = part_calls e key name x.shot x.mark x.associated x.body ++ seals_calls xs

-- their padded blocks
abbrev pub seals_blocks : Edition → List Seal → ℕ
seals_blocks e [] = 0
seals_blocks e (x ∷ xs) = part_blocks e x.mark x.associated x.body + seals_blocks e xs

module _ (e : Edition) (p : Plain) where
  -- the calls of the permutation that the file of a burst takes, and its padded blocks
  unfoldable pub burst_calls : List Permuting
  burst_calls = seals_calls e p.key p.identity.name (seals_of e p)

  unfoldable pub burst_blocks : ℕ
  burst_blocks = seals_blocks e (seals_of e p)

-- that these are the seals of the file: their sealed bytes are its records and its closing seal
abbrev pub FileOfSeals : Type 0
FileOfSeals = (e : Edition) (p : Plain)
    → sealed_bytes e p.key p.identity.name (seals_of e p)
    ≡ records e p.key p.identity.name 1 e.header p.shots ++ closing_seal e p.key p.identity (header_of e p) (index_of e p)
