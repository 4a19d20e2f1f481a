-- N4: the three numbers are those of every burst with shots of the planned lengths, from the laws of `sizing`.
-- Assumes nothing.
use mathlib.Core.List.{List, [], ◌∷◌}
use mathlib.Core.Path.{◌≡◌, refl, sym, ap, subst, ◌∙◌}
use Prim.Native.Nat.{ℕ, ◌≤◌}
use lib.ListN.{length}
use Rattle.icepole.specs.declared.Variant.TheVariants.{Icepole128}
use Rattle.icepole.specs.Variants.{sizes}
use Rattle.blocks.specs.Sealing.{blocks_before}
use Rattle.padded_blocks.specs.PaddedBlocks.{padded_blocks, seal_calls}
use Rattle.padded_blocks.proofs.Counts.{sealing-state, sealed-by}
use Rattle.burst.specs.declared.Edition.{Edition}
use Rattle.burst.specs.Editions.{written}
use Rattle.burst.specs.Parts.{mark_length, nonce_of, seal_part, part_calls}
use Rattle.burst.specs.Layout.{entry_bytes, header_rest, header_bytes}
use Rattle.burst.proofs.Rows.{written_known}
use Rattle.trace.specs.Plain.{Firing, kept, gap, Plain, total_of, header_of, index_of, plain_of}
use Rattle.trace.specs.Seals.{burst_calls}
use Rattle.trace.specs.Agreement.{edition_for}
use Rattle.trace.proofs.Shots.{Valid}
use Rattle.trace.proofs.Seals.{file-of-seals, length-file, burst-p12, burst-p6}
use Rattle.sizing.specs.Sizing.{Size}
use Rattle.sizing.specs.Sizing.{lengths_of, sized_edition, size_number, size_answer}
use Rattle.sizing.specs.Plans.{carried_out}
use Rattle.sizing.proofs.Numbers.{size-0}
use Rattle.sizing.proofs.Plans.{valid-filled, valid-short, length-lengths}
use Rattle.sizing.proofs.Alike.{size_of}
use Rattle.sizing.proofs.Fits.{fits, carried}
use Rattle.claims.specs.SizeUp.{Sized, Recordable, Bursts, Lists, Parts, SizeUp, WorkedSizes}
use Rattle.claims.proofs.Lists.{fine}

pub valid : (xs : List Firing) → Recordable xs → Valid xs
valid [] r = tt
valid (kept s p ∷ xs) r = (r.0, valid xs r.1)
valid (gap ∷ xs) r = valid xs r

pub sized-burst : (p : Plain) → Valid p.shots → length p.shots ≤ sized_edition.shots → length p.identity.site_mark ≡ mark_length
    → Sized sized_edition p (size_answer (lengths_of p.shots))
sized-burst p v most mark =
    let z = sym (size-0 sized_edition (lengths_of p.shots) (rw length-lengths most) (valid-short p.shots v)) in
    let e = size_of p (valid-filled p.shots v) z in
    record {
      accepted = ap (λ (s : Size). s.refusal) e;
      file = ap (λ (s : Size). s.file_length) e ∙ sym (length-file sized_edition (written_known _) p v mark);
      p12 = ap (λ (s : Size). s.p12) e;
      p6 = ap (λ (s : Size). s.p6) e;
    }

bursts : Bursts
unfolding written
bursts p r most mark = sized-burst p (valid p.shots r) most mark

lists : Lists
lists l h =
    let f = fine (edition_for l) l h.begun in
    let e : edition_for l ≡ sized_edition = ap written (sym (ap length f.key) ∙ f.key16) in
    let p = plain_of (edition_for l) l in
    subst (λ (x : Edition). Sized x p (size_answer (lengths_of p.shots))) (sym e)
    (sized-burst p f.valid (subst (λ (x : Edition). length p.shots ≤ x.shots) e f.most) f.site16)

parts : Parts
unfolding seal_part part_calls
parts e key name shot mark ad body = sealed-by (sizes Icepole128) key (nonce_of e name shot) mark ad body

pub size-up : SizeUp
size-up = record {
  bursts = bursts;
  lists = lists;
  state = sealing-state;
  parts = parts;
  file-of = file-of-seals;
  p12 = burst-p12;
  p6 = burst-p6;
  fits = λ key i cs b good only. record {
    fits = fits key i cs b good only;
    carried = λ d.
        let c = carried key i cs b good only d in
        let l = carried_out key i (length b) cs in
        subst (λ (ns : List ℕ). Sized (edition_for l) (plain_of (edition_for l) l) (size_answer ns)) c.1 (lists l c.0);
  };
}

pub worked-sizes : WorkedSizes
unfolding size_answer size_number written total_of burst_calls part_calls seal_calls padded_blocks header_of index_of header_bytes header_rest entry_bytes blocks_before nonce_of
worked-sizes = refl
