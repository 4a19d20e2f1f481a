-- The lines of a front, entry by entry, and how long they get.
-- Assumes nothing.
use mathlib.Core.Path.{◌≡◌, refl, sym, ap, subst, ◌∙◌}
use mathlib.Core.Bool.{Bool, true, false, cond}
use mathlib.Core.List.{[], ◌++◌}
use Prim.Native.Nat.{ℕ, zero, suc, ◌+◌, ◌*◌, ◌≤◌, ◌<◌}
use native.Mathlib.Omega.{arith}
use borrow.Author.Tests.{le-ltb, lt-ltb}
use lib.Dec.{eqb, ltb}
use lib.ListN.{length, length-append}
use Rattle.bytes_le.specs.Bytes.{Bytes, put_bytes}
use Rattle.burst.specs.declared.Entry.{Entry}
use Rattle.reader.specs.declared.Header.{Header}
use Rattle.reader.specs.Front.{burst_number_in, dropped_in, entries_at, entry_at, front_rules, header_in, index_offset_in, kept_in, taken_in}
use Rattle.reader.proofs.Rules.{front}
use Rattle.plain_text.specs.Text.{ascii, field}
use Rattle.listing.specs.Listing.{Listed, text_room, front_lines, head_lines, list_answer, list_refusal, list_output, listing, shot_line, shot_lines, max_listed}
use Rattle.plain_text.proofs.Puts.{field-length}

-- ---- lengths
pub head-length : (b t k d : ℕ) → length (head_lines b t k d) ≤ 109
unfolding head_lines
head-length b t k d =
    let A : Bytes = field (ascii "burst ") b in
    let B : Bytes = field (ascii "\ntaken ") t in
    let C : Bytes = field (ascii " kept ") k in
    let D : Bytes = field (ascii " dropped ") d in
    let a : length A ≤ 6 + 20 = field-length (ascii "burst ") b in
    let b' : length B ≤ 7 + 20 = field-length (ascii "\ntaken ") t in
    let c : length C ≤ 6 + 20 = field-length (ascii " kept ") k in
    let d' : length D ≤ 9 + 20 = field-length (ascii " dropped ") d in
    let ln = length-append D (ascii "\n") in
    let lc = length-append C (D ++ ascii "\n") in
    let lb = length-append B (C ++ (D ++ ascii "\n")) in
    let la = length-append A (B ++ (C ++ (D ++ ascii "\n"))) in
    omega (arith, ln, lc, lb, la)

pub shot-length : (s o n : ℕ) → length (shot_line s o n) ≤ 78
unfolding shot_line
shot-length s o n =
    let A : Bytes = field (ascii "shot ") s in
    let B : Bytes = field (ascii " at ") o in
    let C : Bytes = field (ascii " length ") n in
    let a : length A ≤ 5 + 20 = field-length (ascii "shot ") s in
    let b : length B ≤ 4 + 20 = field-length (ascii " at ") o in
    let c : length C ≤ 8 + 20 = field-length (ascii " length ") n in
    let lc = length-append C (ascii "\n") in
    let lb = length-append B (C ++ ascii "\n") in
    let la = length-append A (B ++ (C ++ ascii "\n")) in
    omega (arith, lc, lb, la)

abbrev line_of : Entry → Bytes
line_of e = shot_line e.shot.0 e.offset e.length

pub shots-length : (n position : ℕ) (f : Bytes) → length (shot_lines (entries_at n position f)) ≤ 78 * n
unfolding shot_lines entries_at
shots-length zero position f = omega arith
shots-length (suc n) position f =
    let i = shots-length n (position + 12) f in
    let e : Entry = entry_at f position in
    let l = length-append (line_of e) (shot_lines (entries_at n (position + 12) f)) in
    let h = shot-length e.shot.0 e.offset e.length in
    omega (arith, l, h, i)

-- ---- one entry more
module _ (f : Bytes) (left position : ℕ) where
  pub no-shots : shot_lines (entries_at 0 position f) ≡ []
  unfolding shot_lines entries_at
  no-shots = refl

  pub more-shots : (e : Entry) → e ≡ entry_at f position
      → line_of e ++ shot_lines (entries_at left (position + 12) f) ≡ shot_lines (entries_at (suc left) position f)
  unfolding shot_lines entries_at
  more-shots e is = ap (λ (e : Entry). line_of e ++ shot_lines (entries_at left (position + 12) f)) is

-- ---- the text, from the tests
pub long-listing : (f : Bytes) → max_listed < length f → ascii "front too long\n" ≡ listing f
unfolding listing
long-listing f h = sym (simp (lt-ltb max_listed (length f) h))

module _ (f : Bytes) (h : length f ≤ max_listed) where
  pub broken-listing : front_rules f ≡ false → ascii "front 12\n" ≡ listing f
  unfolding listing
  broken-listing e = sym (simp (le-ltb max_listed (length f) h, e))

  pub front-listing : front_rules f ≡ true → front_lines f ≡ listing f
  unfolding listing
  front-listing e = sym (simp (le-ltb max_listed (length f) h, e))

pub front-made : (f : Bytes) (h : Header) → h ≡ header_in f
    → head_lines h.burst_number h.taken.0 h.kept.0 h.dropped ++ shot_lines (entries_at h.kept.0 h.index f) ≡ front_lines f
unfolding front_lines
front-made f h is = ap (λ (h : Header). head_lines h.burst_number h.taken.0 h.kept.0 h.dropped ++ shot_lines (entries_at h.kept.0 h.index f)) is

-- ---- every text has room
pub listing-length : (f : Bytes) → length (listing f) ≤ text_room
unfolding listing front_lines
listing-length f = by (ltb max_listed (length f)) (front_rules f) refl
  where
    by : (a b : Bool) → front_rules f ≡ b → length (cond a (ascii "front too long\n") (cond b (front_lines f) (ascii "front 12\n"))) ≤ text_room
    by true b e = omega arith
    by false false e = omega arith
    by false true e =
        let w = front f e in
        let a = head-length (burst_number_in f) (taken_in f) (kept_in f) (dropped_in f) in
        let s = shots-length (kept_in f) (index_offset_in f) f in
        let l = length-append (head_lines (burst_number_in f) (taken_in f) (kept_in f) (dropped_in f)) (shot_lines (entries_at (kept_in f) (index_offset_in f) f)) in
        omega (arith, a, s, l, w.most, w.counts)

-- ---- the call's answer
module _ (f o : Bytes) where
  pub list-refused : length o < length (listing f) → (record { refusal = 5; mark = 0; length = 0 } ≡ list_answer f o) × (o ≡ list_output f o)
  unfolding list_answer list_output list_refusal
  list-refused h = let z = lt-ltb (length o) (length (listing f)) h in (sym (simp z), sym (simp z))

  pub list_done : (n : ℕ) (t o' : Bytes) → t ≡ listing f → n ≡ length t → n ≤ length o → o' ≡ put_bytes o 0 t
      → (record { refusal = 0; mark = 0; length = n } ≡ list_answer f o) × (o' ≡ list_output f o)
  unfolding list_answer list_output list_refusal
  list_done n t o' et en h eo =
      let m = en ∙ ap length et in
      let z = le-ltb (length o) (length (listing f)) (omega (arith, m, h)) in
      (ap (λ (n : ℕ). record { refusal = 0; mark = 0; length = n }) m ∙ sym (simp z), eo ∙ ap (put_bytes o 0) et ∙ sym (simp z))

  pub told-length : (r : Listed) → r ≡ list_answer f o → r.length ≤ text_room
  unfolding list_answer
  told-length r e = subst (λ (n : ℕ). n ≤ text_room) (sym (ap (λ (r : Listed). r.length) e)) (by (eqb (list_refusal f o) 0))
    where
      by : (t : Bool) → cond t (length (listing f)) 0 ≤ text_room
      by true = listing-length f
      by false = omega arith

  pub told-refusal : (r : Listed) → r ≡ list_answer f o → r.refusal ≡ list_refusal f o
  unfolding list_answer
  told-refusal r e = ap (λ (r : Listed). r.refusal) e
