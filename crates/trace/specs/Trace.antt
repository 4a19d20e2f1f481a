-- A list of calls run on a recorder and a buffer: each call is given the recorder that the call before returned, or left in the lent one (01,
-- "Recorder"). What a call answers and leaves is what its contract states.
-- Assumes nothing.
use Rattle.std.specs.Prelude.{List, [], ◌∷◌}
use Rattle.bytes_le.specs.Bytes.{Bytes}
use Rattle.burst.specs.declared.Recorder.{Recorder}
use Rattle.trace.specs.Plain.{Call, keep_shot, drop_shot, close_burst, CallList, Answer}
use Rattle.burst.specs.Recorder.{ShotAnswer, Closed, begin_answer, begin_buffer, keep_answer, keep_buffer, drop_answer, close_answer, close_buffer}

-- ---- one call
unfoldable pub next_recorder : Recorder → Bytes → Call → Recorder
next_recorder r b (keep_shot s p) = (keep_answer r s p b).recorder
-- in place: what is left in the lent recorder (`recorder_ref::drop_in_place`) is what the drop by value returns
next_recorder r b (drop_shot way) = (drop_answer r).recorder
next_recorder r b close_burst = (close_answer r b).recorder

unfoldable pub next_buffer : Recorder → Bytes → Call → Bytes
next_buffer r b (keep_shot s p) = keep_buffer r s p b
next_buffer r b (drop_shot way) = b
next_buffer r b close_burst = close_buffer r b

abbrev pub shot_told : ShotAnswer → Answer
shot_told a = record { number = a.refusal; mark = a.mark; value = a.shot.0 }

abbrev pub total_told : Closed → Answer
total_told a = record { number = a.refusal; mark = a.mark; value = a.total }

unfoldable pub answer_to : Recorder → Bytes → Call → Answer
answer_to r b (keep_shot s p) = shot_told (keep_answer r s p b)
answer_to r b (drop_shot way) = shot_told (drop_answer r)
answer_to r b close_burst = total_told (close_answer r b)

-- ---- the calls after begin
abbrev pub answers_from : Recorder → Bytes → List Call → List Answer
answers_from r b [] = []
answers_from r b (c ∷ cs) = answer_to r b c ∷ answers_from (next_recorder r b c) (next_buffer r b c) cs

abbrev pub buffer_from : Recorder → Bytes → List Call → Bytes
buffer_from r b [] = b
buffer_from r b (c ∷ cs) = buffer_from (next_recorder r b c) (next_buffer r b c) cs

-- ---- a whole list on a buffer: the answers, begin's first, and the buffer after the last call
module _ (l : CallList) (b : Bytes) where
  abbrev pub first_recorder : Recorder
  first_recorder = (begin_answer l.key l.identity b).recorder

  unfoldable pub run_answers : List Answer
  run_answers =
      record { number = (begin_answer l.key l.identity b).refusal; mark = (begin_answer l.key l.identity b).mark; value = 0 }
      ∷ answers_from first_recorder (begin_buffer l.key l.identity b) l.calls

  unfoldable pub run_buffer : Bytes
  run_buffer = buffer_from first_recorder (begin_buffer l.key l.identity b) l.calls
