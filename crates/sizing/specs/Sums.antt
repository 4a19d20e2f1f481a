-- What the code adds up, shot by shot; no contract of a public call and no claim names this file.
-- Assumes nothing.
use Rattle.std.specs.Prelude.{cond, List, [], ◌∷◌, ℕ, ◌+◌, ◌*◌, ◌≤◌, eqb, replicate}
use Rattle.burst.specs.declared.Edition.{Edition}
use Rattle.burst.specs.Fields.{entry_length}
use Rattle.burst.specs.Parts.{no_mark, seal_length, part_blocks}
use Rattle.burst.specs.Editions.{max_header}
use Rattle.burst.specs.Layout.{max_picture}
use Rattle.burst.specs.Numbers.{used_after}
use Rattle.sizing.specs.declared.Sums.{Sums}

-- the padded blocks of a record whose picture has so many bytes
abbrev pub record_blocks : Edition → ℕ → ℕ
record_blocks e n = part_blocks e no_mark (replicate entry_length 0) (replicate n 0)

abbrev pub first_sums : Edition → Sums
first_sums e = record { used = e.header; kept = record { 0 = 0 }; blocks = 0 }

-- after a shot: a dropped one adds nothing
abbrev pub with_shot : Edition → Sums → ℕ → Sums
with_shot e s n =
    cond (eqb n 0) s (record { used = used_after s.used n; kept = record { 0 = s.kept.0 + 1 }; blocks = s.blocks + record_blocks e n })

unfoldable pub with_shots : Edition → Sums → List ℕ → Sums
with_shots e s [] = s
with_shots e s (n ∷ ns) = with_shots e (with_shot e s n) ns

-- the longest record; and more blocks than any record has: one a byte, and three
abbrev pub max_record : ℕ
max_record = max_picture + seal_length

abbrev pub max_blocks : ℕ
max_blocks = entry_length + max_picture + 3

-- that i shots make them no larger than so much
pub record After (i : ℕ) (s : Sums) : Type 0 where
  pub used : s.used ≤ max_record * i + max_header
  pub kept : s.kept.0 ≤ i
  pub blocks : s.blocks ≤ max_blocks * i
