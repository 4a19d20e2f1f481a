-- `burst::drop_shot` meets its contract.
-- Assumes nothing.
use mathlib.Core.Path.{sym}
use native.Mathlib.Omega.{arith}
use lib.ListN.{length}
use Rattle.burst.specs.Recorder.{drop_refusal, after_drop}
use Rattle.burst.proofs.Rows.{written_known}
use Rattle.burst.proofs.Numbers.{drops}
use Rattle.burst.proofs.Answers.{drop-refused, drop-done}
use Rattle.burst.proofs.drop_shot.Goals as goal

pub returns-in-Err : goal.returns-in-Err
returns-in-Err c = let m = c.in-Err.ensures in drop-refused c.args.r _ m.number m.mark

pub overflow_add-shot : goal.overflow_add-shot
unfolding drop_refusal
overflow_add-shot c =
    let w = drops _ _ _ (sym c.in_default.ensures.number) in let k = written_known (length c.args.r.key) in omega (arith, w, k)

pub returns : goal.returns
unfolding after_drop
returns c = drop-done c.args.r (sym c.in_default.ensures.number)
