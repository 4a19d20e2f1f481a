-- The parts of a file, as the code hands them to `verify_part` and `open_part`, and what the answer tells of a part.
-- Assumes nothing.
use mathlib.Core.Bool.{true, false}
use mathlib.Core.List.{◌++◌}
use mathlib.Core.Path.{◌≡◌, refl, sym, ap, ◌∙◌}
use Prim.Native.Nat.{ℕ, ◌+◌, ◌-◌, ◌*◌, ◌≤◌, ◌<◌}
use native.Mathlib.Omega.{arith}
use lib.ListN.{length, take, drop, length-drop}
use lib.Seq.{length-take-le}
use Rattle.bytes_le.specs.Bytes.{Bytes, put_bytes}
use Rattle.std.specs.Prelude.{Result, Ok, Err, is_ok}
use Rattle.refusals.specs.declared.Refusal.{Refusal}
use Rattle.refusals.specs.Numbers.{number, mark, number_of, mark_of}
use Rattle.refusals.proofs.Laws.{positive}
use Rattle.icepole.specs.declared.Released.{Released}
use Rattle.icepole.specs.Answers.{Opened, opened_as}
use Rattle.burst.specs.declared.Edition.{Edition}
use Rattle.burst.specs.declared.Entry.{Entry}
use Rattle.burst.specs.declared.Name.{Name}
use Rattle.burst.specs.Fields.{entry_length}
use Rattle.burst.specs.Parts.{seal_length, part_answer, part_output, part_refusal}
use Rattle.burst.specs.Layout.{max_picture}
use Rattle.burst.proofs.Parts.{answer-stands, answer-differs, answer-mark, part-output}
use Rattle.reader.specs.declared.Header.{Header}
use Rattle.reader.specs.Front.{edition_in, name_in, header_in, kept_in, index_offset_in, position_of, entry_at}
use Rattle.reader.specs.Reader.{Part, closing_part, record_part, sealed_in, agrees, mark_in, body_in, answer_in}
use Rattle.reader.proofs.Rules.{Front, in-range-at}

-- ---- what the answer to verifying a part tells of it
module _ (key f : Bytes) (p : Part) where
  module _ (r : Result Released Refusal) (is : opened_as r ≡ answer_in key f p) where
    stands : number_of r ≡ 0 → agrees key f p ≡ true
    unfolding agrees answer_in
    stands h = answer-stands (edition_in f) key (name_in f) p.shot p.associated (sealed_in key f p) _ is h

    differs : (number_of r ≡ 0 → ⊥) → agrees key f p ≡ false
    unfolding agrees answer_in
    differs h = answer-differs (edition_in f) key (name_in f) p.shot p.associated (sealed_in key f p) _ is h

    mark-zero : mark_of r ≡ 0
    unfolding answer_in part_answer
    mark-zero = ap (λ (x : Opened). x.mark) is

    number-seven : agrees key f p ≡ false → number_of r ≡ 7
    unfolding answer_in agrees part_answer part_refusal
    number-seven h = ap (λ (x : Opened). x.refusal) is ∙ simp h

  pub tag-stands : (x : Released) → opened_as (Ok x) ≡ answer_in key f p → agrees key f p ≡ true
  tag-stands x is = stands (Ok x) is refl

  pub tag-differs : (e : Refusal) → opened_as (Err e) ≡ answer_in key f p → agrees key f p ≡ false
  tag-differs e is = differs (Err e) is (λ z. let h = positive e in omega (arith, h, z))

  pub tag-told : (r : Result Released Refusal) → opened_as r ≡ answer_in key f p → is_ok r ≡ agrees key f p
  tag-told (Ok x) is = sym (tag-stands x is)
  tag-told (Err e) is = sym (tag-differs e is)

  -- the number and the mark of a tag that differs
  pub told-7 : (e : Refusal) → opened_as (Err e) ≡ answer_in key f p → (number e ≡ 7) × (mark e ≡ 0)
  told-7 e is = (number-seven (Err e) is (tag-differs e is), mark-zero (Err e) is)

  pub mark-told : (x : Released) → opened_as (Ok x) ≡ answer_in key f p → seal_length ≤ length (sealed_in key f p) → x.secret ≡ mark_in key f p
  unfolding agrees mark_in answer_in
  mark-told x is l = answer-mark (edition_in f) key (name_in f) p.shot p.associated (sealed_in key f p) _ is (tag-stands x is) l

pub body-told : (key f : Bytes) (p : Part) (out : Bytes) → agrees key f p ≡ true
    → part_output (edition_in f) key (name_in f) p.shot p.associated (sealed_in key f p) out ≡ put_bytes out 0 (body_in key f p)
unfolding agrees body_in
body-told key f p out h = part-output (edition_in f) key (name_in f) p.shot p.associated (sealed_in key f p) out h

-- ---- the slices that are lent for an entry at a position and its record
pub record Lent (f : Bytes) (position : ℕ) (x : Entry) : Type 0 where
  pub entry : take (position + entry_length - position) (drop position f) ≡ take entry_length (drop position f)
  pub entry_length_lem : length (take (position + entry_length - position) (drop position f)) ≡ entry_length
  pub sealed_length : length (take (x.length + seal_length) (drop x.offset f)) ≡ x.length + seal_length

pub lent : (f : Bytes) (position : ℕ) (x : Entry) → position + entry_length ≤ length f → x.offset + (x.length + seal_length) ≤ length f → Lent f position x
lent f position x h g =
    let q : position + entry_length - position ≡ entry_length = omega arith in
    let e = ap (λ (n : ℕ). take n (drop position f)) q in
    let d₁ = length-drop position f in
    let d₂ = length-drop x.offset f in
    record {
      entry = e;
      entry_length_lem = ap length e ∙ length-take-le entry_length (drop position f) (omega (arith, d₁, h));
      sealed_length = length-take-le (x.length + seal_length) (drop x.offset f) (omega (arith, d₂, g));
    }

-- ---- the entry of a place, as it was read
pub record Placed (f : Bytes) (position : ℕ) (x : Entry) : Type 0 where
  pub before-end : position + entry_length ≤ length f
  pub within : x.offset + (x.length + seal_length) ≤ length f
  pub most : x.length ≤ max_picture
  pub slices : Lent f position x

pub placed : (f : Bytes) (place position : ℕ) (x : Entry) → Front f → place < kept_in f → position ≡ position_of f place → x ≡ entry_at f position → Placed f position x
placed f place position x w h e is =
    let g = in-range-at f position place w h e in
    let n = ap (λ (y : Entry). y.length) is in
    let o = ap (λ (y : Entry). y.offset) is in
    let b : position + entry_length ≤ length f = omega (arith, w, h, e) in
    let r : x.offset + (x.length + seal_length) ≤ length f = omega (arith, w, g, n, o) in
    record { before-end = b; within = r; most = omega (arith, g, n); slices = lent f position x b r }

-- ---- the record of the entry x
module _ (key f : Bytes) (e : Edition) (row : e ≡ edition_in f) (name : Name) (named : name ≡ name_in f) (position : ℕ) (x : Entry) (is : x ≡ entry_at f position)
    (ad : Bytes) (covers : ad ≡ take entry_length (drop position f)) (c : Bytes) (sealed : c ≡ take (x.length + seal_length) (drop x.offset f)) where
  pub record-answer : part_answer e key name x.shot.0 ad c ≡ answer_in key f (record_part f position)
  unfolding answer_in
  record-answer = cc (row, named, is, covers, sealed)

  pub record-output : (out : Bytes) → part_output e key name x.shot.0 ad c out
      ≡ part_output (edition_in f) key (name_in f) (record_part f position).shot (record_part f position).associated (sealed_in key f (record_part f position)) out
  record-output out = cc (row, named, is, covers, sealed)

-- ---- the closing seal of the header h
pub closing-answer : (key f : Bytes) (e : Edition) (row : e ≡ edition_in f) (name : Name) (named : name ≡ name_in f) (h : Header) (is : h ≡ header_in f)
    (a b c : Bytes) → a ≡ take e.header f → b ≡ take (entry_length * h.kept.0) (drop h.index f) → c ≡ take (0 + seal_length) (drop (h.index + entry_length * h.kept.0) f)
    → part_answer e key name 0 (a ++ b) c ≡ answer_in key f (closing_part f)
unfolding answer_in
closing-answer key f e row name named h is a b c ea eb ec =
    let i = ap (λ (x : Header). x.index) is in
    let k = ap (λ (x : Header). x.kept.0) is in
    let n = ap (λ (x : Edition). x.header) row in
    cc (row, named, i, k, n, ea, eb, ec)

pub length-closing-part : (key f : Bytes) → Front f → length (sealed_in key f (closing_part f)) ≡ seal_length
length-closing-part key f w =
    let at = index_offset_in f + entry_length * kept_in f in
    let d : length (drop at f) ≡ length f - at = length-drop at f in
    length-take-le (0 + seal_length) (drop at f) (omega (arith, w))
