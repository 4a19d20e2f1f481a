-- Plans: what the lengths of a plan add up to is what every burst with shots of these lengths comes to.
-- Assumes nothing.
use mathlib.Core.Bool.{Bool, true, false, cond}
use mathlib.Core.List.{List, [], ◌∷◌, ◌++◌, map}
use mathlib.Core.Path.{◌≡◌, refl, sym, ap, ap₂, subst, ◌∙◌}
use Prim.Native.Nat.{ℕ, suc, ◌+◌, ◌*◌, ◌≤◌, ◌<◌}
use native.Mathlib.Numerals.{add-one}
use native.Mathlib.Omega.{arith}
use borrow.Author.Tests.{ne_eqb, eqb-true, eqb-false, le-ltb}
use lib.Dec.{eqb}
use lib.ListN.{length, drop, get_or, replicate, length-append, length-replicate, drop_of_length-le}
use lib.Seq.{drop-cons}
use Rattle.std.specs.Prelude.{Ok, Err}
use Rattle.refusals.specs.declared.Refusal.{Refusal}
use Rattle.refusals.specs.Numbers.{number, mark}
use Rattle.bytes_le.specs.Bytes.{Bytes}
use Rattle.padded_blocks.specs.PaddedBlocks.{calls_of}
use Rattle.burst.specs.declared.Edition.{Edition}
use Rattle.burst.specs.Editions.{Known}
use Rattle.burst.specs.Fields.{entry_length}
use Rattle.burst.specs.Parts.{no_mark, seal_length, part_blocks}
use Rattle.burst.specs.Layout.{max_picture, entry_bytes}
use Rattle.burst.specs.Numbers.{used_after}
use Rattle.burst.proofs.Puts.{length-entry, length-header}
use Rattle.burst.proofs.Parts.{part-blocks}
use Rattle.trace.specs.Plain.{Firing, kept, gap, pictures, gaps, used_by, Plain, used_of, total_of, header_of, index_of}
use Rattle.trace.specs.Seals.{record_seals, seals_blocks, burst_calls}
use Rattle.trace.proofs.Shots.{Valid, length-index}
use Rattle.trace.proofs.Seals.{burst-p12, burst-p6, burst-blocks}
use Rattle.sizing.specs.declared.Estimate.{Estimate}
use Rattle.sizing.specs.declared.Sums.{Sums}
use Rattle.sizing.specs.Sizing.{lengths_of, planned_shot, planned_burst, sized_edition, too_long, size_number, estimate_as, sized_as, size_answer}
use Rattle.refusals.proofs.Laws.{some}
use Rattle.sizing.specs.Sums.{record_blocks, first_sums, with_shot, with_shots, After}

-- ---- one shot
module _ (e : Edition) (s : Sums) (n : ℕ) where
  abbrev with : ℕ → Sums
  with blocks = record { used = used_after s.used n; kept = record { 0 = s.kept.0 + 1 }; blocks = s.blocks + blocks }

  pub shot-kept : (k : ℕ) → (n ≡ 0 → ⊥) → k ≡ record_blocks e n → with k ≡ with_shot e s n
  shot-kept k h q = ap with q ∙ sym (simp (ne_eqb n 0 h))

-- ---- a turn of the sums, and their end
pub shots-turn : (e : Edition) (s : Sums) (ns : List ℕ) (i : ℕ) → i < length ns
    → with_shots e s (drop i ns) ≡ with_shots e (with_shot e s (get_or ns i 0)) (drop (i + 1) ns)
unfolding with_shots
shots-turn e s ns i h =
    ap (with_shots e s) (drop-cons ns i 0 h) ∙ ap (λ (k : ℕ). with_shots e (with_shot e s (get_or ns i 0)) (drop k ns)) (sym (add-one i))

pub shots-end : (e : Edition) (s : Sums) (ns : List ℕ) (i : ℕ) → length ns ≤ i → s ≡ with_shots e s (drop i ns)
unfolding with_shots
shots-end e s ns i h = sym (ap (with_shots e s) (drop_of_length-le ns {i = i} h))

-- ---- the sums of a list within bounds
pub record After60 (e : Edition) (s : Sums) : Type 0 where
  pub header : e.header ≤ 40
  pub used : s.used ≤ 62916520
  pub kept : s.kept.0 ≤ 60
  pub blocks : s.blocks ≤ 62915460

pub after-60 : (e : Edition) (n : ℕ) (s : Sums) → Known e → n ≤ e.shots → After n s → After60 e s
after-60 e n s known most after = record {
  header = omega (arith, known);
  used = omega (arith, known, after);
  kept = omega (arith, known, after);
  blocks = omega (arith, known, after);
}

-- ---- the sums of the lengths of shots
-- each picture has a byte
abbrev pub Filled : List Firing → Type 0
Filled [] = Unit {0}
Filled (kept s p ∷ xs) = (1 ≤ length p) × Filled xs
Filled (gap ∷ xs) = Filled xs

pub valid-filled : (xs : List Firing) → Valid xs → Filled xs
valid-filled [] v = tt
valid-filled (kept s p ∷ xs) v = (v.0.1, valid-filled xs v.1)
valid-filled (gap ∷ xs) v = valid-filled xs v

-- the lengths of valid shots are not too long, and there is one for each
pub valid-short : (xs : List Firing) → Valid xs → too_long (lengths_of xs) ≡ false
valid-short [] v = refl
valid-short (kept s p ∷ xs) v = (simp (le-ltb max_picture (length p) v.0.2)) ∙ valid-short xs v.1
valid-short (gap ∷ xs) v = valid-short xs v

pub length-lengths : (xs : List Firing) → length (lengths_of xs) ≡ length xs
length-lengths [] = refl
length-lengths (kept s p ∷ xs) = ap suc (length-lengths xs)
length-lengths (gap ∷ xs) = ap suc (length-lengths xs)

-- t is s with the shots xs, the first of which is shot number n and stands at `at`
record Adds (e : Edition) (n at : ℕ) (xs : List Firing) (s t : Sums) : Type 0 where
  pub used : t.used ≡ used_by s.used xs
  pub kept : t.kept.0 ≡ s.kept.0 + pictures xs
  pub blocks : t.blocks ≡ s.blocks + seals_blocks e (record_seals n at xs)

-- a record's blocks hang on its picture's length alone
record-blocks : (e : Edition) (n at : ℕ) (s p : Bytes) → record_blocks e (length p) ≡ part_blocks e s (entry_bytes n 0 at (length p)) p
record-blocks e n at s p =
    part-blocks e no_mark (replicate entry_length 0) (replicate (length p) 0) s (entry_bytes n 0 at (length p)) p (sym (length-entry n 0 at (length p)))
    (length-replicate (length p) 0)

adds : (e : Edition) (n at : ℕ) (xs : List Firing) → Filled xs → (s : Sums) → Adds e n at xs s (with_shots e s (lengths_of xs))
unfolding with_shots
adds e n at [] f s = record { used = refl; kept = omega arith; blocks = omega arith }
adds e n at (gap ∷ xs) f s = let h = adds e (n + 1) at xs f s in record { used = h.used; kept = h.kept; blocks = h.blocks }
adds e n at (kept m p ∷ xs) f s =
    let g : length p ≡ 0 → ⊥ = λ z. (let b = f.0 in omega arith) in
    let t = with e s (length p) (record_blocks e (length p)) in
    let h = adds e (n + 1) (used_after at (length p)) xs f.1 t in
    let b = record-blocks e n at m p in
    subst (λ (u : Sums). Adds e n at (kept m p ∷ xs) s (with_shots e u (lengths_of xs))) (shot-kept e s (length p) (record_blocks e (length p)) g refl)
    (record {
      used = h.used;
      kept = let k = h.kept in omega arith;
      blocks = let k = h.blocks in omega arith;
    })

-- ---- what a burst comes to, from the sums of its lengths
module _ (e : Edition) (known : Known e) (p : Plain) (filled : Filled p.shots) (s : Sums) (is : s ≡ with_shots e (first_sums e) (lengths_of p.shots)) where
  sums : Adds e 1 e.header p.shots (first_sums e) s
  sums = subst (Adds e 1 e.header p.shots (first_sums e)) (sym is) (adds e 1 e.header p.shots filled (first_sums e))

  pub total-file : s.used + entry_length * s.kept.0 + seal_length ≡ total_of e p
  unfolding total_of
  total-file = let h = sums in omega (arith, h.used, h.kept)

  pub total-p12 : s.kept.0 + 1 ≡ calls_of 12 (burst_calls e p)
  total-p12 = let h = sums in omega (arith, h.kept, burst-p12 e p)

  -- k is how many blocks the closing seal has: that hangs on the lengths of header and index
  pub total-p6 : (k : ℕ) → ((mark ad m : Bytes) → length ad ≡ e.header + entry_length * s.kept.0 → length m ≡ 0 → k ≡ part_blocks e mark ad m)
      → s.blocks + k ≡ calls_of 6 (burst_calls e p)
  unfolding header_of index_of
  total-p6 k closing =
      let h = sums in
      let l₁ : length (header_of e p) ≡ e.header =
      length-header e known p.identity.name (length p.shots) (pictures p.shots) (gaps p.shots) (used_of e p) in
      let l₂ : length (index_of e p) ≡ 12 * pictures p.shots = length-index 1 e.header p.shots in
      let c = closing p.identity.site_mark (header_of e p ++ index_of e p) [] (rw length-append (omega (arith, h.kept))) refl in
      omega (arith, h.blocks, c, burst-p6 e p, burst-blocks e p)

-- ---- the shots of a plan
pub planned : (P : Firing → Type 0) (n : ℕ) → (n ≡ 0 → P gap) → ((n ≡ 0 → ⊥) → P (kept no_mark (replicate n 0))) → P (planned_shot n)
planned P n f g = by (eqb n 0) refl
  where
    by : (b : Bool) → eqb n 0 ≡ b → P (cond b gap (kept no_mark (replicate n 0)))
    by true q = f (eqb-true n 0 q)
    by false q = g (eqb-false n 0 q)

pub lengths-planned : (ns : List ℕ) → lengths_of (map planned_shot ns) ≡ ns
lengths-planned [] = refl
lengths-planned (n ∷ ns) =
    planned (λ (x : Firing). lengths_of (x ∷ map planned_shot ns) ≡ n ∷ ns) n
    (λ z. ap₂ (λ (k : ℕ) (l : List ℕ). k ∷ l) (sym z) (lengths-planned ns))
    (λ z. ap₂ (λ (k : ℕ) (l : List ℕ). k ∷ l) (length-replicate n 0) (lengths-planned ns))

pub filled-planned : (ns : List ℕ) → Filled (map planned_shot ns)
filled-planned [] = tt
filled-planned (n ∷ ns) =
    planned (λ (x : Firing). Filled (x ∷ map planned_shot ns)) n (λ z. filled-planned ns)
    (λ z. (let l = length-replicate {A = ℕ} n 0 in omega arith, filled-planned ns))

-- ---- the answer
abbrev pub estimate : (file p12 p6 : ℕ) → Estimate
estimate file p12 p6 = record { file_length = file; p12 = p12; p6 = p6 }

module _ (e : Edition) (row : e ≡ sized_edition) (ns : List ℕ) where
  sized-by : sized_as e (size_number e ns) (planned_burst ns) ≡ size_answer ns
  unfolding size_answer
  sized-by = ap (λ (x : Edition). sized_as x (size_number x ns) (planned_burst ns)) row

  pub size-refused : (x : Refusal) → number x ≡ size_number e ns → mark x ≡ 0 → estimate_as (Err x) ≡ size_answer ns
  size-refused x q m =
      sym (simp (some x, m)) ∙ ap (λ (n : ℕ). sized_as e n (planned_burst ns)) q ∙ sized-by

  pub size-done : Known e → 0 ≡ size_number e ns → (s : Sums) → s ≡ with_shots e (first_sums e) ns → (k : ℕ)
      → ((mark ad m : Bytes) → length ad ≡ e.header + entry_length * s.kept.0 → length m ≡ 0 → k ≡ part_blocks e mark ad m)
      → estimate_as (Ok (estimate (s.used + entry_length * s.kept.0 + seal_length) (s.kept.0 + 1) (s.blocks + k))) ≡ size_answer ns
  size-done known q s is k closing =
      let p = planned_burst ns in
      let f = filled-planned ns in
      let t = is ∙ ap (with_shots e (first_sums e)) (sym (lengths-planned ns)) in
      ap (λ (n : ℕ). estimate_as (Ok (estimate n (s.kept.0 + 1) (s.blocks + k)))) (total-file e known p f s t)
      ∙ ap₂ (λ (m n : ℕ). estimate_as (Ok (estimate (total_of e p) m n))) (total-p12 e known p f s t) (total-p6 e known p f s t k closing)
      ∙ ap (λ (n : ℕ). sized_as e n p) q
      ∙ sized-by
