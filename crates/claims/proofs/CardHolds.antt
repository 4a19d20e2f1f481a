-- N2: the line on the carton, from the laws of `sizing` and from N4: full bursts have shots of the planned lengths.
-- Assumes nothing.
use mathlib.Core.Bool.{false}
use mathlib.Core.List.{List, [], ◌∷◌, map}
use mathlib.Core.Logic.{◌↔◌}
use mathlib.Core.Path.{◌≡◌, refl, sym, ap, ap₂, ◌∙◌}
use Prim.Native.Nat.{ℕ, zero, suc, ◌+◌, ◌*◌, ◌/◌, ◌%◌, ◌≤◌}
use native.Mathlib.Omega.{arith}
use borrow.Author.Tests.{le-ltb}
use lib.ListN.{length, replicate, length-map, length-replicate}
use Rattle.bytes_le.specs.Bytes.{Bytes}
use Rattle.icepole.specs.Answers.{given}
use Rattle.burst.specs.Editions.{written}
use Rattle.burst.specs.Fields.{entry_length}
use Rattle.burst.specs.Parts.{mark_length, seal_length}
use Rattle.burst.specs.Layout.{Identity, max_picture}
use Rattle.trace.specs.Plain.{Firing, kept, gap, Plain, total_of, file_of, Call, plain_of}
use Rattle.trace.specs.Trace.{run_answers}
use Rattle.trace.specs.Agreement.{edition_for}
use Rattle.trace.proofs.Shots.{Valid}
use Rattle.sizing.specs.Cards.{CardLine}
use Rattle.sizing.specs.Sizing.{lengths_of, planned_shot, planned_burst, sized_edition, too_long, size_answer}
use Rattle.sizing.specs.Plans.{planned_by, OnlyShots, Beginnable, carried_out, AllDone}
use Rattle.sizing.specs.Cards.{full_length, card_number, card_answer}
use Rattle.sizing.proofs.Numbers.{size-0}
use Rattle.sizing.proofs.Plans.{planned}
use Rattle.sizing.proofs.Fits.{fits}
use Rattle.sizing.proofs.Cards.{InRange, full-bytes, card-0, card-done, accepted, line-cut}
use Rattle.claims.specs.SizeUp.{Recordable}
use Rattle.claims.specs.CardHolds.{AllKept, FullBurst, AllFull, files_length, CardHolds, of, numbers, WorkedCards}
use Rattle.claims.proofs.Lists.{fine}
use Rattle.claims.proofs.SizeUp.{valid, sized-burst}

lengths-kept : (q : ℕ) (xs : List Firing) → AllKept q xs → lengths_of xs ≡ replicate (length xs) q
lengths-kept q [] k = refl
lengths-kept q (kept s p ∷ xs) k = ap₂ (λ (n : ℕ) (l : List ℕ). n ∷ l) k.0 (lengths-kept q xs k.1)
lengths-kept q (gap ∷ xs) k = absurd k

module _ (n q : ℕ) (h : InRange sized_edition n q) where
  abbrev each : ℕ
  each = full_length sized_edition n q

  -- ---- the plan
  short : (i : ℕ) → too_long (replicate i q) ≡ false
  short zero = refl
  short (suc i) = simp (le-ltb max_picture q h.longest, short i)

  -- what sizing up answers for it
  planned-size : ((size_answer (replicate n q)).refusal ≡ 0) × ((size_answer (replicate n q)).file_length ≡ each)
  unfolding size_answer full_length
  planned-size =
      let z = size-0 sized_edition (replicate n q) (rw length-replicate h.most) (short n) in
      (sym z, ap (λ (k : ℕ). given k (total_of sized_edition (planned_burst (replicate n q)))) (sym z))

  -- its shots
  planned-shots : (i : ℕ) → let xs = map planned_shot (replicate i q) in Recordable xs × AllKept q xs
  planned-shots zero = (tt, tt)
  planned-shots (suc i) =
      let xs = map planned_shot (replicate i q) in
      let g = planned-shots i in
      planned (λ (x : Firing). Recordable (x ∷ xs) × AllKept q (x ∷ xs)) q (λ z. absurd (omega (arith, h.least)))
      (λ z. (((refl, rw length-replicate h.least, rw length-replicate h.longest), g.0), (length-replicate q 0, g.1)))

  full : FullBurst n q (planned_burst (replicate n q))
  full = record {
    recordable = (planned-shots n).0;
    count = length-map (replicate n q) planned_shot ∙ length-replicate n q;
    all_kept = (planned-shots n).1;
    mark = refl;
  }

  -- ---- every full burst
  file-full : (p : Plain) → Valid p.shots → length p.shots ≡ n → AllKept q p.shots → length p.identity.site_mark ≡ mark_length
      → length (file_of sized_edition p) ≡ each
  file-full p v l k m =
      let s = sized-burst p v (omega (arith, l, h.most)) m in
      let e = lengths-kept q p.shots k ∙ ap (λ (i : ℕ). replicate i q) l in
      sym s.file ∙ ap (λ (ns : List ℕ). (size_answer ns).file_length) e ∙ planned-size.1

  files-full : (ps : List Plain) → AllFull n q ps → files_length sized_edition ps ≡ length ps * each
  files-full [] f = omega arith
  files-full (p ∷ ps) f =
      let w = f.0 in
      let l = file-full p (valid p.shots w.recordable) w.count w.all_kept w.mark in
      omega (arith, l, files-full ps f.1)

  -- ---- calls that record one
  recorded : (key : Bytes) (i : Identity) (cs : List Call) (b : Bytes) → Beginnable key i → OnlyShots cs → planned_by cs ≡ replicate n q
      → AllDone (run_answers (carried_out key i (length b) cs) b) ↔ (each ≤ length b)
  recorded key i cs b good only is =
      let f = fits key i cs b good only in
      let z : (size_answer (planned_by cs)).refusal ≡ 0 = ap (λ (ns : List ℕ). (size_answer ns).refusal) is ∙ planned-size.0 in
      let l : (size_answer (planned_by cs)).file_length ≡ each = ap (λ (ns : List ℕ). (size_answer ns).file_length) is ∙ planned-size.1 in
      (λ d. omega (arith, l, (f.0 d).1), λ room. f.1 (z, omega (arith, l, room)))

pub card-holds : CardHolds
unfolding written
card-holds card n q some length-fits =
    let h : InRange sized_edition n q = record { some = λ z. omega (arith, some); most = some.1; least = length-fits.0; longest = length-fits.1 } in
    let z = accepted card n q h in
    let c = line-cut card n q z in
    record {
      accepted = z;
      bursts = λ p f. file-full n q h p (valid p.shots f.recordable) f.count f.all_kept f.mark;
      lists = λ l r k all. let f = fine (edition_for l) l r.begun in file-full n q h (plain_of (edition_for l) l) f.valid k all f.site16;
      full = full n q h;
      recorded = recorded n q h;
      sized = (planned-size n q h).1;
      bytes = omega (arith, full-bytes sized_edition n q h.least);
      split = c.split;
      below = omega (arith, c.below);
      only = c.only;
      holds = λ ps f.
          let t = files-full n q h ps f in
          (λ room. (c.most (length ps)).0 (omega (arith, t, room)), λ few. omega (arith, t, (c.most (length ps)).1 few));
      over = λ ps f e. omega (arith, files-full n q h ps f, ap (λ (k : ℕ). k * full_length sized_edition n q) e, c.split);
    }

-- ---- worked values
-- those of a file that is too long to be made there, from its length in numbers
large : (card n q : ℕ) → InRange sized_edition n q
    → let each = sized_edition.header + n * (q + seal_length) + entry_length * n + seal_length in
    numbers (of card n q) ≡ 0 ∷ card / each ∷ card % each ∷ []
large card n q h =
    let z = card-0 sized_edition n q h.some h.most h.least h.longest in
    let e = card-done sized_edition refl card n q z _ (full-bytes sized_edition n q h.least) in
    sym (ap (λ (c : CardLine). c.refusal ∷ c.bursts ∷ c.left ∷ []) e)

longest : InRange sized_edition 60 1048576
unfolding written
longest = record { some = λ z. omega arith; most = omega arith; least = omega arith; longest = omega arith }

pub worked-cards : WorkedCards
unfolding card_answer card_number full_length written total_of
worked-cards = record {
  lines = refl;
  longest = large 32000000000 60 1048576 longest;
  largest = large 18446744073709551615 60 1048576 longest;
}
