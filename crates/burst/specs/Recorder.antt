-- The recorder's calls (01, "Recorder"; 02, N1): what each answers and leaves in the buffer, for good and bad calls.
-- Assumes nothing.
use Rattle.std.specs.Prelude.{Bool, true, false, not, ◌&&◌, List, ◌++◌, ℕ, ◌+◌, ◌-◌, leb, length, take, set, replicate}
use Rattle.bytes_le.specs.Bytes.{Bytes, put_bytes}
use Rattle.refusals.specs.Numbers.{number_of, mark_of, value_or}
use Rattle.icepole.specs.Answers.{unless, given}
use Rattle.burst.specs.declared.Entry.{Entry}
use Rattle.burst.specs.declared.Place.{Place}
use Rattle.burst.specs.declared.Recorder.{Recorder}
use Rattle.burst.specs.declared.Shot.{Shot}
use Rattle.burst.specs.declared.Outcome.{Outcome}
use Rattle.burst.specs.declared.Edition.{Edition}
use Rattle.burst.specs.declared.Name.{Name}
use Rattle.burst.specs.Editions.{written, max_entries}
use Rattle.burst.specs.Parts.{key_length, no_mark}
use Rattle.burst.specs.Layout.{Identity, identified, header_bytes, record_bytes, closing_seal}
use Rattle.burst.specs.Numbers.{used_after, total_from, begin_number, keep_number, drop_number, close_number}
use Rattle.burst.specs.Index.{entry_of, index_rules, index_bytes}

-- the edition of a recorder's burst
abbrev pub edition_of : Recorder → Edition
edition_of r = written (length r.key)

abbrev pub name_of : Recorder → Name
name_of r = record { burst_number = r.burst_number; camera = r.camera }

abbrev pub identity_of : Recorder → Identity
identity_of r = record { name = name_of r; site_mark = r.site_mark }

-- not closed, taken at most the edition's shots, kept at most taken, and the first kept entries obey the index rules and end at bytes used. Later
-- entries are not looked at
unfoldable pub is_sound : Edition → Recorder → Bool
is_sound e r =
    not r.closed
    && (leb r.taken.0 e.shots
    && (leb r.kept.0 r.taken.0
    && index_rules 0 e.header r.taken.0 r.used (take r.kept.0 r.entries)))

-- with other counts, bytes used and entries, open or closed; what begin was given stays
abbrev pub changed : Recorder → (taken : Shot) (kept : Place) (used : ℕ) (entries : List Entry) (closed : Bool) → Recorder
changed r taken kept used entries closed = record {
  key = r.key;
  burst_number = r.burst_number;
  site_mark = r.site_mark;
  taken = taken;
  kept = kept;
  used = used;
  entries = entries;
  closed = closed;
  camera = r.camera;
}

-- ---- answers, with every number of document 01: a refusal number, 0 when done, its mark, what the call gives, and the recorder
pub record Begun : Type 0 where
  pub refusal : ℕ
  pub mark : ℕ
  pub recorder : Recorder

pub record ShotAnswer : Type 0 where
  pub refusal : ℕ
  pub mark : ℕ
  pub shot : Shot
  pub recorder : Recorder

pub record Closed : Type 0 where
  pub refusal : ℕ
  pub mark : ℕ
  pub total : ℕ
  pub recorder : Recorder

-- what the calls return, as such an answer
abbrev pub begun_as : Outcome (Unit {0}) → Begun
begun_as o = record { refusal = number_of o.answer; mark = mark_of o.answer; recorder = o.recorder }

abbrev pub shot_as : Outcome Shot → ShotAnswer
shot_as o = record {
  refusal = number_of o.answer;
  mark = mark_of o.answer;
  shot = value_or (λ s. s) (record { 0 = 0 }) o.answer;
  recorder = o.recorder;
}

abbrev pub closed_as : Outcome ℕ → Closed
closed_as o = record {
  refusal = number_of o.answer;
  mark = mark_of o.answer;
  total = value_or (λ n. n) 0 o.answer;
  recorder = o.recorder;
}

-- ---- begin
-- a recorder without shots
unfoldable pub new_recorder : (key : Bytes) (i : Identity) (used : ℕ) (closed : Bool) → Recorder
new_recorder key i used closed = record {
  key = key;
  burst_number = i.name.burst_number;
  site_mark = i.site_mark;
  taken = record { 0 = 0 };
  kept = record { 0 = 0 };
  used = used;
  entries = replicate max_entries (entry_of 0 0 0);
  closed = closed;
  camera = i.name.camera;
}

-- what a begin that is turned down returns: a closed recorder, otherwise zero
unfoldable pub no_recorder : Recorder
no_recorder = new_recorder (replicate key_length 0) (identified 0 0 no_mark) 0 true

module _ (key : Bytes) (i : Identity) (buffer : Bytes) where
  unfoldable pub begin_refusal : ℕ
  begin_refusal = begin_number (written (length key)) (length key) (length i.site_mark) i.name.camera (length buffer)

  unfoldable pub begin_answer : Begun
  begin_answer = record {
    refusal = begin_refusal;
    mark = 0;
    recorder = unless begin_refusal no_recorder (new_recorder key i (written (length key)).header false);
  }

  -- the header's bytes are zero until close writes it
  unfoldable pub begin_buffer : Bytes
  begin_buffer = unless begin_refusal buffer (put_bytes buffer 0 (replicate (written (length key)).header 0))

-- ---- keep and drop
-- the shot number with the recorder; a refused call returns the recorder it was given
abbrev pub shot_answer : ℕ → Recorder → Recorder → ShotAnswer
shot_answer num was is = record {
  refusal = num;
  mark = 0;
  shot = record { 0 = given num (was.taken.0 + 1) };
  recorder = unless num was is;
}

unfoldable pub after_drop : Recorder → Recorder
after_drop r = changed r (record { 0 = r.taken.0 + 1 }) r.kept r.used r.entries r.closed

unfoldable pub drop_refusal : Recorder → ℕ
drop_refusal r = drop_number (edition_of r) (is_sound (edition_of r) r) r.taken.0

unfoldable pub drop_answer : Recorder → ShotAnswer
drop_answer r = shot_answer (drop_refusal r) r (after_drop r)

-- one entry at place kept, for a picture of so many bytes
unfoldable pub after_keep : Recorder → ℕ → Recorder
after_keep r count =
    changed r (record { 0 = r.taken.0 + 1 }) (record { 0 = r.kept.0 + 1 }) (used_after r.used count)
    (set r.entries r.kept.0 (entry_of (r.taken.0 + 1) r.used count)) r.closed

module _ (r : Recorder) (stamp picture buffer : Bytes) where
  unfoldable pub keep_refusal : ℕ
  keep_refusal = keep_number (edition_of r) (is_sound (edition_of r) r) r.taken.0 r.kept.0 r.used (length stamp) (length picture) (length buffer)

  unfoldable pub keep_answer : ShotAnswer
  keep_answer = shot_answer keep_refusal r (after_keep r (length picture))

  -- one record at bytes used
  unfoldable pub keep_buffer : Bytes
  keep_buffer =
      unless keep_refusal buffer (put_bytes buffer r.used (record_bytes (edition_of r) r.key (name_of r) (r.taken.0 + 1) r.used stamp picture))

-- ---- close
unfoldable pub after_close : Recorder → Recorder
after_close r = changed r r.taken r.kept r.used r.entries true

unfoldable pub recorder_header : Recorder → Bytes
recorder_header r = header_bytes (edition_of r) (name_of r) r.taken.0 r.kept.0 (r.taken.0 - r.kept.0) r.used

unfoldable pub recorder_index : Recorder → Bytes
recorder_index r = index_bytes (take r.kept.0 r.entries)

unfoldable pub recorder_seal : Recorder → Bytes
recorder_seal r =
    closing_seal (edition_of r) r.key (identity_of r) (recorder_header r) (recorder_index r)

module _ (r : Recorder) (buffer : Bytes) where
  unfoldable pub close_refusal : ℕ
  close_refusal = close_number (is_sound (edition_of r) r) r.kept.0 r.used (length buffer)

  unfoldable pub close_answer : Closed
  close_answer = record {
    refusal = close_refusal;
    mark = 0;
    total = given close_refusal (total_from r.used r.kept.0);
    recorder = unless close_refusal r (after_close r);
  }

  -- header at the front; index and closing seal behind the records
  unfoldable pub close_buffer : Bytes
  close_buffer =
      unless close_refusal buffer (put_bytes (put_bytes buffer 0 (recorder_header r)) r.used (recorder_index r ++ recorder_seal r))
