-- Demand 3, its first sentence, as a type: a list's answers equal those of the plain burst, and after an accepted close the front of the buffer is its file.
-- Assumes nothing.
use Rattle.std.specs.Prelude.{true, ◌≡◌, length, take}
use Rattle.bytes_le.specs.Bytes.{Bytes}
use Rattle.burst.specs.declared.Edition.{Edition}
use Rattle.burst.specs.Editions.{written}
use Rattle.trace.specs.Plain.{CallList, plain_of, plain_answers, total_of, file_of, begin_number_of}
use Rattle.trace.specs.Trace.{run_answers, run_buffer}

-- the list, as one of edition e, has an accepted close: it was begun, and its plain burst is closed
pub record Reached (e : Edition) (l : CallList) : Type 0 where
  pub begun : begin_number_of e l ≡ 0
  pub closed : (plain_of e l).closed ≡ true

pub record Agrees (e : Edition) (l : CallList) (b : Bytes) : Type 0 where
  pub answers : run_answers l b ≡ plain_answers e l
  pub file : Reached e l → take (total_of e (plain_of e l)) (run_buffer l b) ≡ file_of e (plain_of e l)

-- the edition that the recorder makes of a list
abbrev pub edition_for : CallList → Edition
edition_for l = written (length l.key)

abbrev pub Agreement : Type 0
Agreement = (l : CallList) (b : Bytes) → length b ≡ l.buffer_length → Agrees (edition_for l) l b
