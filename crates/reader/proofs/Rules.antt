-- The front rules as facts, and what they tell of every entry.
-- Assumes nothing.
use mathlib.Core.Bool.{Bool, true, ◌&&◌}
use mathlib.Core.List.{List, [], ◌∷◌, ◌++◌}
use Rattle.std.specs.List.{list_all}
use mathlib.Core.Path.{◌≡◌, refl, sym, ap, ap₂, subst, ◌∙◌}
use Prim.Native.Nat.{ℕ, zero, suc, ◌+◌, ◌*◌, ◌≤◌, ◌<◌}
use native.Mathlib.Omega.{arith}
use native.Mathlib.Numerals.{add-one}
use borrow.Author.Tests.{le-leb, eq-eqb, leb-true, eqb-true}
use lib.Dec.{eqb, leb}
use lib.ListN.{length, take, set}
use lib.Seq.{take-suc-set}
use Rattle.bytes_le.specs.Bytes.{Bytes}
use Rattle.burst.specs.declared.Edition.{Edition}
use Rattle.burst.specs.declared.Entry.{Entry}
use Rattle.burst.specs.Editions.{Known}
use Rattle.burst.specs.Layout.{max_picture}
use Rattle.burst.specs.Numbers.{used_after, total_from}
use Rattle.burst.specs.Index.{index_rules}
use Rattle.burst.proofs.Rows.{numbered-known}
use Rattle.bits.proofs.Cases.{and-true}
use Rattle.burst.proofs.Rules.{Obeys, index-end, index-obeys, index-used}
use Rattle.reader.specs.declared.Header.{Header}
use Rattle.reader.specs.Front.{header_in, edition_number_in, taken_in, kept_in, dropped_in, picture_offset_in, index_offset_in, closing_offset_in}
use Rattle.reader.specs.Front.{total_in, entry_at, entries_at, edition_in, all_zero, rest_rules, front_rules_of, front_rules}

abbrev pub rules_in : Edition → Bytes → Bool
rules_in e f = index_rules 0 e.header (taken_in f) (index_offset_in f) (entries_at (kept_in f) (index_offset_in f) f)

pub record FrontOf (e : Edition) (f : Bytes) : Type 0 where
  pub known : Known e
  pub least : total_from e.header 0 ≤ length f
  pub edition : edition_number_in f ≡ e.number
  pub pictures : picture_offset_in f ≡ e.header
  pub most : taken_in f ≤ e.shots
  pub counts : taken_in f ≡ kept_in f + dropped_in f
  pub closing : closing_offset_in f ≡ index_offset_in f + 12 * kept_in f
  pub total : total_in f ≡ closing_offset_in f + 32
  pub size : total_in f ≡ length f
  pub rest : rest_rules e f ≡ true
  pub index : rules_in e f ≡ true

abbrev pub Front : Bytes → Type 0
Front f = FrontOf (edition_in f) f

module _ (e : Edition) (f : Bytes) where
  front_of : Known e → front_rules_of e f ≡ true → FrontOf e f
  unfolding front_rules_of
  front_of k h =
      let h₁ = and-true (leb (total_from e.header 0) (length f)) _ h in
      let h₂ = and-true (eqb (edition_number_in f) e.number) _ h₁.1 in
      let h₃ = and-true (eqb (picture_offset_in f) e.header) _ h₂.1 in
      let h₄ = and-true (leb (taken_in f) e.shots) _ h₃.1 in
      let h₅ = and-true (eqb (taken_in f) (kept_in f + dropped_in f)) _ h₄.1 in
      let h₆ = and-true (eqb (closing_offset_in f) (index_offset_in f + 12 * kept_in f)) _ h₅.1 in
      let h₇ = and-true (eqb (total_in f) (closing_offset_in f + 32)) _ h₆.1 in
      let h₈ = and-true (eqb (total_in f) (length f)) _ h₇.1 in
      let h₉ = and-true (rest_rules e f) _ h₈.1 in
      record {
        known = k;
        least = leb-true _ _ h₁.0;
        edition = eqb-true _ _ h₂.0;
        pictures = eqb-true _ _ h₃.0;
        most = leb-true _ _ h₄.0;
        counts = eqb-true _ _ h₅.0;
        closing = eqb-true _ _ h₆.0;
        total = eqb-true _ _ h₇.0;
        size = eqb-true _ _ h₈.0;
        rest = h₉.0;
        index = h₉.1;
      }

  -- all rules but those of the index: what is left is these
  pub front-is : total_from e.header 0 ≤ length f → edition_number_in f ≡ e.number → picture_offset_in f ≡ e.header → taken_in f ≤ e.shots → taken_in f ≡ kept_in f + dropped_in f
      → closing_offset_in f ≡ index_offset_in f + 12 * kept_in f → total_in f ≡ closing_offset_in f + 32 → total_in f ≡ length f → rest_rules e f ≡ true
      → rules_in e f ≡ front_rules_of e f
  unfolding front_rules_of
  front-is h₁ h₂ h₃ h₄ h₅ h₆ h₇ h₈ h₉ =
      sym
      (simp (
        le-leb (total_from e.header 0) (length f) h₁,
        eq-eqb (edition_number_in f) e.number h₂,
        eq-eqb (picture_offset_in f) e.header h₃,
        le-leb (taken_in f) e.shots h₄,
        eq-eqb (taken_in f) (kept_in f + dropped_in f) h₅,
        eq-eqb (closing_offset_in f) (index_offset_in f + 12 * kept_in f) h₆,
        eq-eqb (total_in f) (closing_offset_in f + 32) h₇,
        eq-eqb (total_in f) (length f) h₈,
        h₉,
      ))

pub front : (f : Bytes) → front_rules f ≡ true → Front f
unfolding front_rules
front f h = front_of (edition_in f) f (numbered-known _) h

pub front_at : (e : Edition) (f : Bytes) → e ≡ edition_in f → front_rules_of e f ≡ front_rules f
unfolding front_rules
front_at e f own = ap (λ (x : Edition). front_rules_of x f) own

-- ---- the entries of a file
-- one more entry
entries-snoc : (n position : ℕ) (f : Bytes) → entries_at (suc n) position f ≡ entries_at n position f ++ (entry_at f (position + 12 * n) ∷ [])
unfolding entries_at
entries-snoc zero position f = ap (λ (i : ℕ). entry_at f i ∷ []) (omega arith)
entries-snoc (suc n) position f =
    ap (λ (es : List Entry). entry_at f position ∷ es)
    (entries-snoc n (position + 12) f ∙ ap (λ (i : ℕ). entries_at n (position + 12) f ++ (entry_at f i ∷ [])) (omega arith))

-- a turn of reading them into an array
pub read-turn : (es : List Entry) (f : Bytes) (start i : ℕ) (x : Entry) → i < length es → x ≡ entry_at f (start + 12 * i) → take i es ≡ entries_at i start f
    → take (i + 1) (set es i x) ≡ entries_at (i + 1) start f
read-turn es f start i x h e inv =
    ap (λ (k : ℕ). take k (set es i x)) (add-one i)
    ∙ take-suc-set es i x h
    ∙ ap₂ (λ (l : List Entry) (y : Entry). l ++ (y ∷ [])) inv e
    ∙ sym (entries-snoc i start f)
    ∙ ap (λ (k : ℕ). entries_at k start f) (sym (add-one i))

module _ (f : Bytes) (last offset taken end left position : ℕ) where
  pub entries-obey : index_rules last offset taken end (entries_at (suc left) position f) ≡ true
      → Obeys last offset taken (entry_at f position)
      × (index_rules (entry_at f position).shot.0 (used_after offset (entry_at f position).length) taken end (entries_at left (position + 12) f) ≡ true)
  unfolding entries_at
  entries-obey h = index-obeys last offset taken end (entry_at f position) (entries_at left (position + 12) f) h

pub entries-end : (f : Bytes) (last offset taken end position : ℕ) → index_rules last offset taken end (entries_at 0 position f) ≡ eqb offset end
unfolding entries_at
entries-end f last offset taken end position = index-end last offset taken end

-- ---- every entry's record lies before the end
pub record InRange (f : Bytes) (position end : ℕ) : Type 0 where
  pub least : 1 ≤ (entry_at f position).length
  pub most : (entry_at f position).length ≤ max_picture
  pub within : (entry_at f position).offset + ((entry_at f position).length + 32) ≤ end

pub in-range : (f : Bytes) (n position last offset taken end j : ℕ) → index_rules last offset taken end (entries_at n position f) ≡ true → j < n
    → InRange f (position + 12 * j) end
in-range f zero position last offset taken end j h g = absurd (omega arith)
in-range f (suc n) position last offset taken end zero h g =
    let w = entries-obey f last offset taken end n position h in
    let o = w.0 in
    let u = index-used (entries_at n (position + 12) f) _ _ taken end w.1 in
    let e : position ≡ position + 12 * 0 = omega arith in
    rw (sym e) (record { least = o.least; most = o.size; within = omega (arith, o, u) })
in-range f (suc n) position last offset taken end (suc j) h g =
    let w = entries-obey f last offset taken end n position h in
    let e : position + 12 + 12 * j ≡ position + 12 * suc j = omega arith in
    rw (sym e) (in-range f n (position + 12) _ _ taken end j w.1 (omega arith))

-- ---- the same of a header and an edition that were read from the file
pub record Reads (f : Bytes) (e : Edition) (h : Header) : Type 0 where
  pub known : Known e
  pub least : total_from e.header 0 ≤ length f
  pub edition : h.edition ≡ e.number
  pub pictures : h.pictures ≡ e.header
  pub most : h.taken.0 ≤ e.shots
  pub counts : h.taken.0 ≡ h.kept.0 + h.dropped
  pub closing : h.closing ≡ h.index + 12 * h.kept.0
  pub total : h.total ≡ h.closing + 32
  pub size : h.total ≡ length f
  pub rest : rest_rules e f ≡ true

module _ (f : Bytes) (e : Edition) (h : Header) (is : h ≡ header_in f) (row : e ≡ edition_in f) where
  pub reads : Front f → Reads f e h
  reads w =
      subst (λ (x : Edition). Reads f x h) (sym row)
      (subst (λ (x : Header). Reads f (edition_in f) x) (sym is)
      (record {
        known = w.known;
        least = w.least;
        edition = w.edition;
        pictures = w.pictures;
        most = w.most;
        counts = w.counts;
        closing = w.closing;
        total = w.total;
        size = w.size;
        rest = w.rest;
      }))

  pub reads-is : Reads f e h → index_rules 0 e.header h.taken.0 h.index (entries_at h.kept.0 h.index f) ≡ front_rules f
  reads-is w =
      let v : Reads f e (header_in f) = subst (λ (x : Header). Reads f e x) is w in
      ap (λ (x : Header). index_rules 0 e.header x.taken.0 x.index (entries_at x.kept.0 x.index f)) is
      ∙ front-is e f v.least v.edition v.pictures v.most v.counts v.closing v.total v.size v.rest
      ∙ front_at e f row

-- the entry of a place
pub in-range-at : (f : Bytes) (position j : ℕ) → Front f → j < kept_in f → position ≡ index_offset_in f + 12 * j → InRange f position (index_offset_in f)
in-range-at f position j w g e =
    subst (λ (i : ℕ). InRange f i (index_offset_in f)) (sym e)
    (in-range f (kept_in f) (index_offset_in f) 0 (edition_in f).header (taken_in f) (index_offset_in f) j w.index g)

-- ---- the header's bytes behind its nine fields
pub all-zero : (xs : Bytes) → list_all (λ x. eqb x 0) xs ≡ all_zero xs
all-zero [] = refl
all-zero (x ∷ xs) = ap (λ (b : Bool). eqb x 0 && b) (all-zero xs)
