-- Every burst with shots of the same lengths has the same size.
-- Assumes nothing.
use mathlib.Core.List.{List, []}
use mathlib.Core.Path.{◌≡◌, refl, sym, ap, ap₂, ◌∙◌}
use Prim.Native.Nat.{ℕ, ◌+◌, ◌*◌}
use lib.ListN.{length, replicate, length-replicate}
use Rattle.bytes_le.specs.Bytes.{Bytes}
use Rattle.padded_blocks.specs.PaddedBlocks.{calls_of}
use Rattle.burst.specs.declared.Edition.{Edition}
use Rattle.burst.specs.Editions.{Known}
use Rattle.burst.specs.Fields.{entry_length}
use Rattle.burst.specs.Parts.{no_mark, part_blocks}
use Rattle.burst.proofs.Parts.{part-blocks}
use Rattle.burst.proofs.Rows.{written_known}
use Rattle.trace.specs.Plain.{Plain, total_of}
use Rattle.trace.specs.Seals.{burst_calls}
use Rattle.sizing.specs.declared.Sums.{Sums}
use Rattle.sizing.specs.Sizing.{lengths_of, planned_burst, sized_edition, size_number, sized_as, size_answer}
use Rattle.sizing.specs.Sums.{first_sums, with_shots}
use Rattle.sizing.proofs.Plans.{Filled, total-file, total-p12, total-p6, lengths-planned, filled-planned}

module _ (e : Edition) (known : Known e) (p : Plain) (filled : Filled p.shots) where
  abbrev ns : List ℕ
  ns = lengths_of p.shots

  abbrev s : Sums
  s = with_shots e (first_sums e) ns

  abbrev closing : ℕ → Bytes
  closing n = replicate n 0

  abbrev k : ℕ
  k = part_blocks e no_mark (closing (e.header + entry_length * s.kept.0)) []

  closes : (mark ad m : Bytes) → length ad ≡ e.header + entry_length * s.kept.0 → length m ≡ 0 → k ≡ part_blocks e mark ad m
  closes mark ad m ea em = part-blocks e no_mark (closing (e.header + entry_length * s.kept.0)) [] mark ad m (length-replicate _ 0 ∙ sym ea) (sym em)

  plan : s ≡ with_shots e (first_sums e) (lengths_of (planned_burst ns).shots)
  plan = ap (with_shots e (first_sums e)) (sym (lengths-planned ns))

  same-file : total_of e (planned_burst ns) ≡ total_of e p
  same-file = sym (total-file e known (planned_burst ns) (filled-planned ns) s plan) ∙ total-file e known p filled s refl

  same-p12 : calls_of 12 (burst_calls e (planned_burst ns)) ≡ calls_of 12 (burst_calls e p)
  same-p12 = sym (total-p12 e known (planned_burst ns) (filled-planned ns) s plan) ∙ total-p12 e known p filled s refl

  same-p6 : calls_of 6 (burst_calls e (planned_burst ns)) ≡ calls_of 6 (burst_calls e p)
  same-p6 = sym (total-p6 e known (planned_burst ns) (filled-planned ns) s plan k closes) ∙ total-p6 e known p filled s refl k closes

  pub sized-alike : sized_as e 0 (planned_burst ns) ≡ sized_as e 0 p
  sized-alike =
      ap (λ (n : ℕ). record { refusal = 0; mark = 0; file_length = n; p12 = calls_of 12 (burst_calls e (planned_burst ns)); p6 = calls_of 6 (burst_calls e (planned_burst ns)) }) same-file
      ∙ ap₂ (λ (m n : ℕ). record { refusal = 0; mark = 0; file_length = total_of e p; p12 = m; p6 = n }) same-p12 same-p6

-- what sizing up answers for the lengths of a burst
pub size_of : (p : Plain) → Filled p.shots → size_number sized_edition (lengths_of p.shots) ≡ 0 → size_answer (lengths_of p.shots) ≡ sized_as sized_edition 0 p
unfolding size_answer
size_of p filled z =
    ap (λ (n : ℕ). sized_as sized_edition n (planned_burst (lengths_of p.shots))) z ∙ sized-alike sized_edition (written_known _) p filled
