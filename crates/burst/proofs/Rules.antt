-- The rules of the index as facts: each of them holds where the whole test does, and together they make it.
-- Assumes nothing.
use mathlib.Core.Bool.{Bool, true, false, not, true≢false}
use mathlib.Core.List.{List, [], ◌∷◌}
use mathlib.Core.Path.{◌≡◌, refl, sym, ap, ◌∙◌}
use Prim.Native.Nat.{ℕ, ◌+◌, ◌*◌, ◌≤◌, ◌<◌}
use native.Mathlib.Omega.{arith}
use borrow.Author.Tests.{le-leb, eq-eqb, lt-ltb, leb-true, ltb-true, eqb-true}
use lib.Dec.{eqb, leb, ltb}
use lib.ListN.{length, take, drop, get_or, length-take, drop_of_length-le}
use Rattle.std.specs.Ordering.{is_le, is_gt, nat_cmp}
use Rattle.std.proofs.lemmas.Cmp.{ranked, by_ranked}
use Rattle.std.proofs.lemmas.List.{at_drop_more}
use Rattle.bits.proofs.Cases.{and-true}
use Rattle.burst.specs.declared.Entry.{Entry}
use Rattle.burst.specs.declared.Recorder.{Recorder}
use Rattle.burst.specs.declared.Edition.{Edition}
use Rattle.burst.specs.Layout.{max_picture}
use Rattle.burst.specs.Numbers.{used_after}
use Rattle.burst.specs.Index.{entry_rules, index_rules}
use Rattle.burst.specs.Recorder.{is_sound}

-- a test that cannot hold
pub refuted : (b : Bool) → (b ≡ true → ⊥) → false ≡ b
refuted true h = let x : ⊥ = h refl in elim x [ ]
refuted false h = refl

pub clash : (b : Bool) → b ≡ true → b ≡ false → ⊥
clash true h g = let z : ◌≡◌ {A = ℕ} 0 1 = cc in omega arith
clash false h g = let z : ◌≡◌ {A = ℕ} 0 1 = cc in omega arith

pub not-holds : (b : Bool) → not b ≡ true → b ≡ false
not-holds true h = sym h
not-holds false h = refl

-- what a comparison of two shot numbers tells
module _ (a b : ℕ) where
  pub not-le : is_le (nat_cmp a b) ≡ false → b < a
  not-le h =
      by_ranked (a < b) (a ≡ b) (b < a) (nat_cmp a b) (ranked a b _ refl) (λ e _. absurd (true≢false (sym (ap is_le e) ∙ h)))
      (λ e _. absurd (true≢false (sym (ap is_le e) ∙ h))) (λ _ l. l)

  pub is-gt : is_gt (nat_cmp a b) ≡ true → b < a
  is-gt h =
      by_ranked (a < b) (a ≡ b) (b < a) (nat_cmp a b) (ranked a b _ refl) (λ e _. absurd (true≢false (sym h ∙ ap is_gt e)))
      (λ e _. absurd (true≢false (sym h ∙ ap is_gt e))) (λ _ l. l)

-- ---- one entry
pub record Obeys (last offset taken : ℕ) (e : Entry) : Type 0 where
  pub more : last < e.shot.0
  pub most : e.shot.0 ≤ taken
  pub zeros : e.zeros ≡ 0
  pub touches : e.offset ≡ offset
  pub least : 1 ≤ e.length
  pub size : e.length ≤ max_picture

module _ (last offset taken : ℕ) (e : Entry) where
  pub obeys : entry_rules last offset taken e ≡ true → Obeys last offset taken e
  unfolding entry_rules
  obeys h =
      let h₁ = and-true (ltb last e.shot.0) _ h in
      let h₂ = and-true (leb e.shot.0 taken) _ h₁.1 in
      let h₃ = and-true (eqb e.zeros 0) _ h₂.1 in
      let h₄ = and-true (eqb e.offset offset) _ h₃.1 in
      let h₅ = and-true (leb 1 e.length) _ h₄.1 in
      record {
        more = ltb-true _ _ h₁.0;
        most = leb-true _ _ h₂.0;
        zeros = eqb-true _ _ h₃.0;
        touches = eqb-true _ _ h₄.0;
        least = leb-true _ _ h₅.0;
        size = leb-true _ _ h₅.1;
      }

  -- all rules but the last: what is left is that one
  pub last-rule : last < e.shot.0 → e.shot.0 ≤ taken → e.zeros ≡ 0 → e.offset ≡ offset → 1 ≤ e.length
      → leb e.length max_picture ≡ entry_rules last offset taken e
  unfolding entry_rules
  last-rule h₁ h₂ h₃ h₄ h₅ =
      sym (simp (lt-ltb last e.shot.0 h₁, le-leb e.shot.0 taken h₂, eq-eqb e.zeros 0 h₃, eq-eqb e.offset offset h₄, le-leb 1 e.length h₅))

  pub obeyed : Obeys last offset taken e → entry_rules last offset taken e ≡ true
  obeyed w = sym (last-rule w.more w.most w.zeros w.touches w.least) ∙ le-leb _ _ w.size

-- ---- a list of entries
pub index-end : (last offset taken end : ℕ) → index_rules last offset taken end [] ≡ eqb offset end
unfolding index_rules
index-end last offset taken end = refl

module _ (last offset taken end : ℕ) (e : Entry) (es : List Entry) where
  pub index-next : entry_rules last offset taken e ≡ true
      → index_rules last offset taken end (e ∷ es) ≡ index_rules e.shot.0 (used_after offset e.length) taken end es
  unfolding index_rules
  index-next h = simp h

  pub index-fault : entry_rules last offset taken e ≡ false → index_rules last offset taken end (e ∷ es) ≡ false
  unfolding index_rules
  index-fault h = simp h

  pub index-obeys : index_rules last offset taken end (e ∷ es) ≡ true
      → Obeys last offset taken e × (index_rules e.shot.0 (used_after offset e.length) taken end es ≡ true)
  unfolding index_rules
  index-obeys h = let g = and-true (entry_rules last offset taken e) _ h in (obeys last offset taken e g.0, g.1)

pub index-used : (es : List Entry) (last offset taken end : ℕ) → index_rules last offset taken end es ≡ true
    → (offset ≤ end) × (end ≤ offset + 1048608 * length es)
index-used [] last offset taken end h =
    let e : offset ≡ end = eqb-true _ _ (sym (index-end last offset taken end) ∙ h) in (omega arith, omega arith)
index-used (e ∷ es) last offset taken end h =
    let w = index-obeys last offset taken end e es h in
    let g = index-used es e.shot.0 (used_after offset e.length) taken end w.1 in
    let l = w.0.size in
    (omega arith, omega arith)

-- ---- a turn over some entries
module _ (es : List Entry) (i : ℕ) (d : Entry) (h : i < length es) (last offset taken end : ℕ) where
  abbrev Here : Bool
  Here = index_rules last offset taken end (drop i es)

  pub turn : entry_rules last offset taken (get_or es i d) ≡ true
      → Here ≡ index_rules (get_or es i d).shot.0 (used_after offset (get_or es i d).length) taken end (drop (i + 1) es)
  turn e =
      at_drop_more (index_rules last offset taken end) es i d h
      ∙ index-next last offset taken end (get_or es i d) (drop (i + 1) es) e

  pub fault : entry_rules last offset taken (get_or es i d) ≡ false → Here ≡ false
  fault e =
      at_drop_more (index_rules last offset taken end) es i d h
      ∙ index-fault last offset taken end (get_or es i d) (drop (i + 1) es) e

pub ended : (es : List Entry) (i last offset taken end : ℕ) → length es ≤ i
    → index_rules last offset taken end (drop i es) ≡ eqb offset end
ended es i last offset taken end h =
    ap (index_rules last offset taken end) (drop_of_length-le es {i = i} h)
    ∙ index-end last offset taken end

-- ---- a sound recorder, with the bounds that hold over every row
pub record Sound (e : Edition) (r : Recorder) : Type 0 where
  pub alive : r.closed ≡ false
  pub taken : r.taken.0 ≤ e.shots
  pub kept : r.kept.0 ≤ r.taken.0
  pub index : index_rules 0 e.header r.taken.0 r.used (take r.kept.0 r.entries) ≡ true
  pub least : e.header ≤ r.used
  pub used : r.used ≤ e.header + 1048608 * r.kept.0

module _ (e : Edition) (r : Recorder) where
  pub sounds : is_sound e r ≡ true → Sound e r
  unfolding is_sound
  sounds h =
      let h₁ = and-true (not r.closed) _ h in
      let h₂ = and-true (leb r.taken.0 e.shots) _ h₁.1 in
      let h₃ = and-true (leb r.kept.0 r.taken.0) _ h₂.1 in
      let g = index-used _ 0 e.header r.taken.0 r.used h₃.1 in
      let l : length (take r.kept.0 r.entries) ≤ r.kept.0 = simp length-take (omega arith) in
      record {
        alive = not-holds _ h₁.0;
        taken = leb-true _ _ h₂.0;
        kept = leb-true _ _ h₃.0;
        index = h₃.1;
        least = g.0;
        used = omega (arith, g, l);
      }

  pub sound-is : r.closed ≡ false → r.taken.0 ≤ e.shots → r.kept.0 ≤ r.taken.0
      → is_sound e r ≡ index_rules 0 e.header r.taken.0 r.used (take r.kept.0 r.entries)
  unfolding is_sound
  sound-is h₁ h₂ h₃ = simp (h₁, le-leb r.taken.0 e.shots h₂, le-leb r.kept.0 r.taken.0 h₃)
