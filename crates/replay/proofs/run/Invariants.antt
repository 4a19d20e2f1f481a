-- `replay::run` meets its contract. The loop's invariant: the calls that are left, performed from here, leave what all calls leave from the start.
-- Assumes nothing.
use mathlib.Core.Path.{◌≡◌}
use lib.ListN.{length}
use Rattle.replay.proofs.Turns.{Left}
use Rattle.replay.proofs.run.Given as goal

abbrev pub invariant-loop-i : goal.invariant-loop-i
invariant-loop-i l = record {
  answers : length l.answers ≡ length l.initial.answers;
  buffer : length l.buffer ≡ length l.initial.buffer;
  left : Left l.script l.room l.initial.r l.initial.buffer l.initial.answers l.r l.buffer l.answers l.rest l.i;
}
