-- `round_log::judge` meets its contract. The loop's invariant: the verdict on the rounds from i on is the verdict on all.
-- Assumes nothing.
use mathlib.Core.Path.{◌≡◌}
use Prim.Native.Nat.{◌-◌, ◌≤◌}
use Rattle.round_log.specs.RoundLog.{judged}
use Rattle.round_log.proofs.judge.Given as goal

abbrev pub invariant-loop-i : goal.invariant-loop-i
invariant-loop-i l = (l.i ≤ l.r) × (judged l.log l.i (l.r - l.i) ≡ judged l.log 0 l.r)

abbrev pub decreases-loop-i : goal.decreases-loop-i
decreases-loop-i l = l.r - l.i
