-- The reader's calls (01, "Reader"; 02, N1): what check, fetch and record answer and leave, for good and bad calls.
-- Assumes nothing.
use Rattle.std.specs.Prelude.{Bool, cond, not, List, [], ◌∷◌, ◌++◌, ℕ, zero, suc, ◌+◌, ◌*◌, eqb, leb, ltb, length, take, drop, Result}
use Rattle.refusals.specs.declared.Refusal.{Refusal}
use Rattle.refusals.specs.Numbers.{number_of, mark_of, value_or}
use Rattle.bytes_le.specs.Bytes.{Bytes, put_bytes}
use Rattle.icepole.specs.Answers.{Opened, refusal, ◌when◌, unless, given}
use Rattle.burst.specs.Fields.{entry_length}
use Rattle.burst.specs.Parts.{seal_length, part_agrees, part_mark, part_body, part_answer, key_length, no_mark}
use Rattle.burst.specs.Layout.{closing_offset}
use Rattle.burst.specs.declared.Entry.{Entry}
use Rattle.burst.specs.declared.Place.{Place}
use Rattle.burst.specs.declared.Shot.{Shot}
use Rattle.reader.specs.declared.Picture.{Picture}
use Rattle.reader.specs.declared.Summary.{Summary}
use Rattle.reader.specs.Verdicts.{Verdict, Agree, Differs, verdict_number, verdict_mark}
use Rattle.reader.specs.Front.{edition_in, name_in, taken_in, kept_in, dropped_in, burst_number_in, camera_in, index_offset_in, entry_at, position_of, front_rules}

-- ---- the sealed parts of a file
-- the shot number, 0 for the closing seal; the associated data; where the part stands; and the length of its body
pub record Part : Type 0 where
  pub shot : ℕ
  pub associated : Bytes
  pub offset : ℕ
  pub count : ℕ

-- the closing seal covers header, then index
abbrev pub closing_part : Bytes → Part
closing_part f = record {
  shot = 0;
  associated = take (edition_in f).header f ++ take (entry_length * kept_in f) (drop (index_offset_in f) f);
  offset = closing_offset (index_offset_in f) (kept_in f);
  count = 0;
}

-- the record of the entry at a position covers that entry
abbrev pub record_part : Bytes → ℕ → Part
record_part f position = record {
  shot = (entry_at f position).shot.0;
  associated = take entry_length (drop position f);
  offset = (entry_at f position).offset;
  count = (entry_at f position).length;
}

unfoldable pub record_parts : ℕ → ℕ → Bytes → List Part
record_parts zero position f = []
record_parts (suc n) position f = record_part f position ∷ record_parts n (position + entry_length) f

module _ (key f : Bytes) where
  abbrev pub sealed_in : Part → Bytes
  sealed_in p = take (p.count + seal_length) (drop p.offset f)

  -- whether its tag agrees, its mark (the stamp, or the site mark), and its body
  unfoldable pub agrees : Part → Bool
  agrees p = part_agrees (edition_in f) key (name_in f) p.shot p.associated (sealed_in p)

  unfoldable pub mark_in : Part → Bytes
  mark_in p = part_mark (edition_in f) key (name_in f) p.shot p.associated (sealed_in p)

  unfoldable pub body_in : Part → Bytes
  body_in p = part_body (edition_in f) key (name_in f) p.shot p.associated (sealed_in p)

  -- what verifying it answers
  unfoldable pub answer_in : Part → Opened
  answer_in p = part_answer (edition_in f) key (name_in f) p.shot p.associated (sealed_in p)

  -- the first part whose tag differs decides
  unfoldable pub verdict_on : List Part → Verdict
  verdict_on [] = Agree
  verdict_on (p ∷ ps) = cond (agrees p) (verdict_on ps) (Differs (record { 0 = p.shot }))

  -- the closing seal, then the records in order
  unfoldable pub verdict : Verdict
  verdict = verdict_on (closing_part f ∷ record_parts (kept_in f) (index_offset_in f) f)

-- ---- answers, with every number of document 01: a refusal number, 0 when done, its mark, and the rest
-- what check answers: what the file says
pub record Checked : Type 0 where
  pub refusal : ℕ
  pub mark : ℕ
  pub burst_number : ℕ
  pub site_mark : Bytes
  pub taken : Shot
  pub kept : Place
  pub dropped : ℕ
  pub camera : ℕ

-- where the entry of a place stands in the file
pub record Located : Type 0 where
  pub refusal : ℕ
  pub mark : ℕ
  pub position : ℕ

-- what fetch answers
pub record Fetched : Type 0 where
  pub refusal : ℕ
  pub mark : ℕ
  pub shot : Shot
  pub stamp : Bytes
  pub length : ℕ

-- what the calls return, as such an answer
abbrev pub summary_as : Result Summary Refusal → Checked
summary_as r = record {
  refusal = number_of r;
  mark = mark_of r;
  burst_number = value_or (λ s. s.burst_number) 0 r;
  site_mark = value_or (λ s. s.site_mark) no_mark r;
  taken = value_or (λ s. s.taken) (record { 0 = 0 }) r;
  kept = value_or (λ s. s.kept) (record { 0 = 0 }) r;
  dropped = value_or (λ s. s.dropped) 0 r;
  camera = value_or (λ s. s.camera) 0 r;
}

abbrev pub position_as : Result ℕ Refusal → Located
position_as r = record { refusal = number_of r; mark = mark_of r; position = value_or (λ n. n) 0 r }

abbrev pub picture_as : Result Picture Refusal → Fetched
picture_as r = record {
  refusal = number_of r;
  mark = mark_of r;
  shot = value_or (λ p. p.shot) (record { 0 = 0 }) r;
  stamp = value_or (λ p. p.stamp) no_mark r;
  length = value_or (λ p. p.length) 0 r;
}

-- ---- what a refused call answers
abbrev pub not_checked : ℕ → ℕ → Checked
not_checked num mark = record {
  refusal = num;
  mark = mark;
  burst_number = 0;
  site_mark = no_mark;
  taken = record { 0 = 0 };
  kept = record { 0 = 0 };
  dropped = 0;
  camera = 0;
}

abbrev pub not_fetched : ℕ → ℕ → Fetched
not_fetched num mark = record { refusal = num; mark = mark; shot = record { 0 = 0 }; stamp = no_mark; length = 0 }

-- ---- what an accepted fetch answers: of the entry x, with its stamp
abbrev pub fetched_as : Entry → Bytes → Fetched
fetched_as x stamp = record { refusal = 0; mark = 0; shot = x.shot; stamp = stamp; length = x.length }

-- ---- check
module _ (key f : Bytes) where
  -- the verdict's number is 7 where a tag differs
  unfoldable pub check_refusal : ℕ
  check_refusal =
      refusal
      ((1 when not (eqb (length key) key_length))
      ∷ (12 when not (front_rules f))
      ∷ (verdict_number (verdict key f) when not (eqb (verdict_number (verdict key f)) 0))
      ∷ [])

  -- 0 except under 7: then the verdict's
  unfoldable pub check_mark : ℕ
  check_mark = cond (eqb check_refusal 7) (verdict_mark (verdict key f)) 0

  unfoldable pub check_answer : Checked
  check_answer = record {
    refusal = check_refusal;
    mark = check_mark;
    burst_number = given check_refusal (burst_number_in f);
    site_mark = unless check_refusal no_mark (mark_in key f (closing_part f));
    taken = record { 0 = given check_refusal (taken_in f) };
    kept = record { 0 = given check_refusal (kept_in f) };
    dropped = given check_refusal (dropped_in f);
    camera = given check_refusal (camera_in f);
  }

-- ---- record and fetch, by place
module _ (key f : Bytes) (place : ℕ) where
  unfoldable pub record_refusal : ℕ
  record_refusal = refusal ((check_refusal key f when not (eqb (check_refusal key f) 0)) ∷ (13 when leb (kept_in f) place) ∷ [])

  -- where the entry of the place stands
  unfoldable pub locate_answer : Located
  locate_answer = record {
    refusal = record_refusal;
    mark = check_mark key f;
    position = given record_refusal (position_of f place);
  }

  -- the sealed record as that part of the file, empty where the call is refused, and its offset
  unfoldable pub record_offset : ℕ
  record_offset = given record_refusal (entry_at f (position_of f place)).offset

  unfoldable pub record_bytes_in : Bytes
  record_bytes_in = unless record_refusal [] (sealed_in key f (record_part f (position_of f place)))

  module _ (out : Bytes) where
    -- record's number, then 5
    unfoldable pub fetch_refusal : ℕ
    fetch_refusal =
        refusal
        ((record_refusal when not (eqb record_refusal 0))
        ∷ (5 when ltb (length out) (entry_at f (position_of f place)).length)
        ∷ [])

    unfoldable pub fetch_answer : Fetched
    fetch_answer = record {
      refusal = fetch_refusal;
      mark = check_mark key f;
      shot = record { 0 = given fetch_refusal (entry_at f (position_of f place)).shot.0 };
      stamp = unless fetch_refusal no_mark (mark_in key f (record_part f (position_of f place)));
      length = given fetch_refusal (entry_at f (position_of f place)).length;
    }

    unfoldable pub fetch_output : Bytes
    fetch_output = unless fetch_refusal out (put_bytes out 0 (body_in key f (record_part f (position_of f place))))
