-- `replay::perform` meets its contract.
-- Assumes nothing.
use mathlib.Core.Path.{refl, ap, ◌∙◌}
use Rattle.burst.specs.Recorder.{ShotAnswer, Closed}
use Rattle.trace.specs.Trace.{shot_told, total_told, answer_to, next_recorder, next_buffer}
use Rattle.replay.proofs.perform.Goals as goal

pub returns-in-Drop-clause-answer : goal.returns-in-Drop-clause-answer
unfolding answer_to
returns-in-Drop-clause-answer c = rw c.in-Drop.is (c.with_number.ensures c.drop_shot-k.result.recorder ∙ ap shot_told c.drop_shot-k.ensures)

pub returns-in-Drop-clause-recorder : goal.returns-in-Drop-clause-recorder
unfolding next_recorder
returns-in-Drop-clause-recorder c = rw c.in-Drop.is (ap (λ (a : ShotAnswer). a.recorder) c.drop_shot-k.ensures)

pub returns-in-Drop-clause-output : goal.returns-in-Drop-clause-output
unfolding next_buffer
returns-in-Drop-clause-output c = rw c.in-Drop.is (refl)

pub returns-in-Close-clause-answer : goal.returns-in-Close-clause-answer
unfolding answer_to
returns-in-Close-clause-answer c = rw c.in-Close.is (ap total_told c.close-k.ensures.answer)

pub returns-in-Close-clause-recorder : goal.returns-in-Close-clause-recorder
unfolding next_recorder
returns-in-Close-clause-recorder c = rw c.in-Close.is (ap (λ (a : Closed). a.recorder) c.close-k.ensures.answer)

pub returns-in-Close-clause-output : goal.returns-in-Close-clause-output
unfolding next_buffer
returns-in-Close-clause-output c = rw c.in-Close.is (c.close-k.ensures.output)

pub returns-in-Keep-clause-answer : goal.returns-in-Keep-clause-answer
unfolding answer_to
returns-in-Keep-clause-answer c = rw c.in-Keep.is (c.with_number-in-Keep.ensures c.keep-k.result.recorder ∙ ap shot_told c.keep-k.ensures.answer)

pub returns-in-Keep-clause-recorder : goal.returns-in-Keep-clause-recorder
unfolding next_recorder
returns-in-Keep-clause-recorder c = rw c.in-Keep.is (ap (λ (a : ShotAnswer). a.recorder) c.keep-k.ensures.answer)

pub returns-in-Keep-clause-output : goal.returns-in-Keep-clause-output
unfolding next_buffer
returns-in-Keep-clause-output c = rw c.in-Keep.is (c.keep-k.ensures.output)
