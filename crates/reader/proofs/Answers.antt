-- The reader's answers from plain facts, and what number 0 tells.
-- Assumes nothing.
use mathlib.Core.Bool.{Bool, true, false, cond, not}
use mathlib.Core.List.{[]}
use mathlib.Core.Path.{◌≡◌, refl, sym, ap, ap₂, ◌∙◌}
use Prim.Native.Nat.{ℕ, zero, suc, ◌≤◌, ◌<◌}
use native.Mathlib.Omega.{arith}
use borrow.Author.Tests.{le-leb, lt-leb, eq-eqb, ne_eqb, lt-ltb, le-ltb, leb-false, eqb-true, not-false}
use lib.Dec.{eqb, leb, ltb}
use lib.ListN.{length}
use Rattle.bytes_le.specs.Bytes.{Bytes, put_bytes}
use Rattle.icepole.proofs.Numbers.{passed}
use Rattle.burst.specs.declared.Entry.{Entry}
use Rattle.burst.specs.declared.Name.{Name}
use Rattle.reader.specs.declared.Header.{Header}
use Rattle.reader.specs.Verdicts.{Verdict, Agree, Differs, verdict_number, verdict_mark}
use Rattle.reader.specs.Front.{header_in, name_in, kept_in, index_offset_in, entry_at, position_of, front_rules}
use Rattle.reader.specs.Reader.{Checked, Located, Fetched, closing_part, record_part, record_parts, agrees, mark_in, body_in, sealed_in, verdict_on, verdict, not_checked, not_fetched, fetched_as, check_refusal}
use Rattle.reader.specs.Reader.{check_mark, check_answer, record_refusal, locate_answer, record_offset, record_bytes_in, fetch_refusal, fetch_answer, fetch_output}
use Rattle.burst.specs.Parts.{key_length}
use Rattle.reader.proofs.Rules.{Front, front, InRange, in-range-at}
use Rattle.reader.proofs.Parts.{agree, first-agrees, all-agree}

-- ---- check
-- what an accepted check answers: of the header h, with the site mark and the camera number
abbrev checked_as : Header → Bytes → ℕ → Checked
checked_as h site camera = record {
  refusal = 0;
  mark = 0;
  burst_number = h.burst_number;
  site_mark = site;
  taken = h.taken;
  kept = h.kept;
  dropped = h.dropped;
  camera = camera;
}

module _ (key f : Bytes) where
  abbrev Records : Verdict
  Records = verdict_on key f (record_parts (kept_in f) (index_offset_in f) f)

  -- a number with its mark
  abbrev Refuses : ℕ → ℕ → Type 0
  Refuses num mark = (check_refusal key f ≡ num) × (check_mark key f ≡ mark)

  pub check-not : (num mark : ℕ) → (num ≡ 0 → ⊥) → Refuses num mark → not_checked num mark ≡ check_answer key f
  unfolding check_answer
  check-not num mark h r = sym (simp (r.0, r.1, ne_eqb num 0 h))

  pub check-1 : (length key ≡ key_length → ⊥) → not_checked 1 0 ≡ check_answer key f
  unfolding check_refusal check_mark
  check-1 h = check-not 1 0 (λ e. omega arith) (simp (ne_eqb (length key) key_length h), simp (ne_eqb (length key) key_length h))

  module _ (hk : length key ≡ key_length) where
    pub check-12 : front_rules f ≡ false → not_checked 12 0 ≡ check_answer key f
    unfolding check_refusal check_mark
    check-12 h = check-not 12 0 (λ e. omega arith) (simp (eq-eqb (length key) key_length hk, h), simp (eq-eqb (length key) key_length hk, h))

    module _ (hf : front_rules f ≡ true) where
      -- a verdict with a number
      by-verdict : (v : Verdict) → verdict key f ≡ v → (verdict_number v ≡ 0 → ⊥) → not_checked (verdict_number v) (verdict_mark v) ≡ check_answer key f
      unfolding check_refusal check_mark
      by-verdict Agree d h = absurd (h refl)
      by-verdict (Differs shot) d h =
          check-not 7 shot.0 h (simp (eq-eqb (length key) key_length hk, hf, d), simp (eq-eqb (length key) key_length hk, hf, d))

      pub check-closing : agrees key f (closing_part f) ≡ false → not_checked 7 0 ≡ check_answer key f
      unfolding verdict verdict_on
      check-closing h = by-verdict (Differs (record { 0 = 0 })) (simp h) (λ e. omega arith)

      module _ (hc : agrees key f (closing_part f) ≡ true) where
        all-records : verdict key f ≡ Records
        unfolding verdict verdict_on
        all-records = simp hc

        pub check-record : (v : Verdict) → v ≡ Records → (verdict_number v ≡ 0 → ⊥) → not_checked (verdict_number v) (verdict_mark v) ≡ check_answer key f
        check-record v h n = by-verdict v (all-records ∙ sym h) n

        module _ (hr : Records ≡ Agree) where
          pub check-zero : check_refusal key f ≡ 0
          unfolding check_refusal
          check-zero = simp (eq-eqb (length key) key_length hk, hf, all-records, hr)

          pub check-0 : (h : Header) → h ≡ header_in f → (site : Bytes) → site ≡ mark_in key f (closing_part f) → (name : Name) → name ≡ name_in f
              → checked_as h site name.camera ≡ check_answer key f
          unfolding check_answer check_mark
          check-0 h e site s name n =
              ap₂ (λ (h : Header) (site : Bytes). checked_as h site name.camera) e s
              ∙ ap (λ (name : Name). checked_as (header_in f) (mark_in key f (closing_part f)) name.camera) n
              ∙ sym (simp check-zero)

-- what check answers, field by field
module _ (key f : Bytes) (c : Checked) (is : c ≡ check_answer key f) where
  pub checked-refusal : c.refusal ≡ check_refusal key f
  unfolding check_answer
  checked-refusal = ap (λ (x : Checked). x.refusal) is

  pub checked-mark : c.mark ≡ check_mark key f
  unfolding check_answer
  checked-mark = ap (λ (x : Checked). x.mark) is

  module _ (z : c.refusal ≡ 0) where
    zero_is : check_refusal key f ≡ 0
    zero_is = sym checked-refusal ∙ z

    pub checked-kept : c.kept.0 ≡ kept_in f
    unfolding check_answer
    checked-kept = ap (λ (x : Checked). x.kept.0) is ∙ simp zero_is

-- ---- what an accepted file obeys
pub record Accepted (key f : Bytes) : Type 0 where
  pub key16 : length key ≡ key_length
  pub front : Front f
  pub closing : agrees key f (closing_part f) ≡ true
  pub records : verdict_on key f (record_parts (kept_in f) (index_offset_in f) f) ≡ Agree

-- a number that is not refused
first-passed : (n rest : ℕ) → cond (not (eqb n 0)) n rest ≡ 0 → (n ≡ 0) × (rest ≡ 0)
first-passed zero rest h = (refl, h)
first-passed (suc n) rest h = let z : suc n ≡ 0 = simp (ne_eqb (suc n) 0 (λ i. omega arith)) at h in absurd (omega arith)

pub accepted : (key f : Bytes) → check_refusal key f ≡ 0 → Accepted key f
unfolding check_refusal verdict
accepted key f h =
    let p₁ = passed (not (eqb (length key) key_length)) _ _ h in
    let p₁₂ = passed (not (front_rules f)) _ _ p₁.1 in
    let p₇ = first-passed (verdict_number (verdict key f)) _ p₁₂.1 in
    let d = first-agrees key f (closing_part f) (record_parts (kept_in f) (index_offset_in f) f) (agree (verdict key f) p₇.0) in
    record { key16 = eqb-true _ _ (not-false _ p₁.0); front = front f (not-false _ p₁₂.0); closing = d.0; records = d.1 }

pub ruled : (key f : Bytes) → check_refusal key f ≡ 0 → front_rules f ≡ true
unfolding check_refusal
ruled key f h = not-false _ (passed (not (front_rules f)) _ _ (passed (not (eqb (length key) key_length)) _ _ h).1).0

-- ---- a place
pub record Found (key f : Bytes) (place : ℕ) : Type 0 where
  pub zero : check_refusal key f ≡ 0
  pub accepted : Accepted key f
  pub below : place < kept_in f
  pub range : InRange f (position_of f place) (index_offset_in f)
  pub agrees : agrees key f (record_part f (position_of f place)) ≡ true

module _ (key f : Bytes) (place : ℕ) where
  pub found : record_refusal key f place ≡ 0 → Found key f place
  unfolding record_refusal
  found h =
      let p = first-passed (check_refusal key f) _ h in
      let p₁₃ = passed (leb (kept_in f) place) _ _ p.1 in
      let a = accepted key f p.0 in
      let b : place < kept_in f = leb-false _ _ p₁₃.0 in
      record {
        zero = p.0;
        accepted = a;
        below = b;
        range = in-range-at f (position_of f place) place a.front b refl;
        agrees = all-agree key f (kept_in f) (index_offset_in f) place a.records b;
      }

  -- locate
  pub locate-check : (num mark : ℕ) → num ≡ check_refusal key f → mark ≡ check_mark key f → (num ≡ 0 → ⊥)
      → record { refusal = num; mark = mark; position = 0 } ≡ locate_answer key f place
  unfolding locate_answer record_refusal
  locate-check num mark e m h = sym (simp (sym e, sym m, ne_eqb num 0 h))

  module _ (hz : check_refusal key f ≡ 0) where
    mark-0 : check_mark key f ≡ 0
    unfolding check_mark
    mark-0 = simp hz

    pub locate-13 : kept_in f ≤ place → record { refusal = 13; mark = 0; position = 0 } ≡ locate_answer key f place
    unfolding locate_answer record_refusal
    locate-13 h = sym (simp (hz, mark-0, le-leb (kept_in f) place h))

    pub record-zero : place < kept_in f → record_refusal key f place ≡ 0
    unfolding record_refusal
    record-zero h = simp (hz, lt-leb (kept_in f) place h)

    pub locate-0 : place < kept_in f → (position : ℕ) → position ≡ position_of f place
        → record { refusal = 0; mark = 0; position = position } ≡ locate_answer key f place
    unfolding locate_answer
    locate-0 h position e =
        ap (λ (p : ℕ). let z : Located = record { refusal = 0; mark = 0; position = p } in z) e
        ∙ sym (simp (mark-0, record-zero h))

  -- what locate answers, field by field
  module _ (l : Located) (is : l ≡ locate_answer key f place) where
    pub located-refusal : l.refusal ≡ record_refusal key f place
    unfolding locate_answer
    located-refusal = ap (λ (x : Located). x.refusal) is

    pub located-mark : l.mark ≡ check_mark key f
    unfolding locate_answer
    located-mark = ap (λ (x : Located). x.mark) is

    module _ (z : l.refusal ≡ 0) where
      none-refused : record_refusal key f place ≡ 0
      none-refused = sym located-refusal ∙ z

      pub located-found : Found key f place
      located-found = found none-refused

      pub located-position : l.position ≡ position_of f place
      unfolding locate_answer
      located-position = ap (λ (x : Located). x.position) is ∙ simp none-refused

      -- the entry that is read there is the place's
      pub located-entry : (x : Entry) → x ≡ entry_at f l.position → x ≡ entry_at f (position_of f place)
      located-entry x e = e ∙ ap (entry_at f) located-position

  -- record
  pub record-refused : (record_refusal key f place ≡ 0 → ⊥) → ([] ≡ record_bytes_in key f place) × (0 ≡ record_offset key f place)
  unfolding record_bytes_in record_offset
  record-refused h = (sym (simp (ne_eqb (record_refusal key f place) 0 h)), sym (simp (ne_eqb (record_refusal key f place) 0 h)))

  pub record-done : record_refusal key f place ≡ 0
      → (sealed_in key f (record_part f (position_of f place)) ≡ record_bytes_in key f place) × ((entry_at f (position_of f place)).offset ≡ record_offset key f place)
  unfolding record_bytes_in record_offset
  record-done h = (sym (simp h), sym (simp h))

  -- fetch
  module _ (out : Bytes) where
    pub fetch-stands : (num : ℕ) → record_refusal key f place ≡ suc num → fetch_refusal key f place out ≡ suc num
    unfolding fetch_refusal
    fetch-stands num h = simp (h, ne_eqb (suc num) 0 (λ i. omega arith))

    pub fetch-not : (num mark : ℕ) → fetch_refusal key f place out ≡ suc num → check_mark key f ≡ mark
        → (not_fetched (suc num) mark ≡ fetch_answer key f place out) × (out ≡ fetch_output key f place out)
    unfolding fetch_answer fetch_output
    fetch-not num mark e m =
        let w = ne_eqb (suc num) 0 (λ i. omega arith) in
        (sym (simp (e, m, w)), sym (simp (e, w)))

    pub fetch-refused : (num mark : ℕ) → num ≡ record_refusal key f place → mark ≡ check_mark key f → (num ≡ 0 → ⊥)
        → (not_fetched num mark ≡ fetch_answer key f place out) × (out ≡ fetch_output key f place out)
    fetch-refused zero mark e m h = absurd (h refl)
    fetch-refused (suc num) mark e m h = fetch-not num mark (fetch-stands num (sym e)) (sym m)

    module _ (w : Found key f place) where
      decides : (b : Bool) → ltb (length out) (entry_at f (position_of f place)).length ≡ b → fetch_refusal key f place out ≡ cond b 5 0
      unfolding fetch_refusal
      decides b h = simp (record-zero w.zero w.below, h)

      pub fetch-5 : length out < (entry_at f (position_of f place)).length
          → (not_fetched 5 0 ≡ fetch_answer key f place out) × (out ≡ fetch_output key f place out)
      fetch-5 h = fetch-not 4 0 (decides true (lt-ltb (length out) (entry_at f (position_of f place)).length h)) (mark-0 w.zero)

      pub fetch-zero : (entry_at f (position_of f place)).length ≤ length out → fetch_refusal key f place out ≡ 0
      fetch-zero h = decides false (le-ltb (length out) (entry_at f (position_of f place)).length h)

      pub fetch-0 : (entry_at f (position_of f place)).length ≤ length out
          → (fetched_as (entry_at f (position_of f place)) (mark_in key f (record_part f (position_of f place))) ≡ fetch_answer key f place out)
          × (put_bytes out 0 (body_in key f (record_part f (position_of f place))) ≡ fetch_output key f place out)
      unfolding fetch_answer fetch_output
      fetch-0 h = (sym (simp (fetch-zero h, mark-0 w.zero)), sym (simp (fetch-zero h)))

    -- what fetch answers, field by field
    module _ (r : Fetched) (is : r ≡ fetch_answer key f place out) where
      pub fetched-refusal : r.refusal ≡ fetch_refusal key f place out
      unfolding fetch_answer
      fetched-refusal = ap (λ (x : Fetched). x.refusal) is

      pub fetched-mark : r.mark ≡ check_mark key f
      unfolding fetch_answer
      fetched-mark = ap (λ (x : Fetched). x.mark) is
