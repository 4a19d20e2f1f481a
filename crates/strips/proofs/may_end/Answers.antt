-- `strips::may_end` meets its contract: each answer from the tests that led to it.
-- Assumes nothing.
use native.Mathlib.Omega.{arith}
use borrow.Author.Rules.{rules}
use Rattle.strips.proofs.Numbers.{end-0, end-14, end-5, over, over', takes}
use Rattle.strips.proofs.may_end.Goals as goal

pub returns-then-finished-clause-number : goal.returns-then-finished-clause-number
returns-then-finished-clause-number c = end-14 _ _ _ (over c.args.finished c.args.count (search rules))

pub returns-then-count-gt-MAX_LENGTH-clause-number : goal.returns-then-count-gt-MAX_LENGTH-clause-number
returns-then-count-gt-MAX_LENGTH-clause-number c = end-14 _ _ _ (over' c.args.finished c.args.count (search rules) (omega arith))

pub returns-then-out-lt-TAG_BYTES-clause-number : goal.returns-then-out-lt-TAG_BYTES-clause-number
returns-then-out-lt-TAG_BYTES-clause-number c = end-5 _ _ _ (takes c.args.finished c.args.count (search rules) (omega arith)) (omega arith)

pub returns-clause-number : goal.returns-clause-number
returns-clause-number c = end-0 _ _ _ (takes c.args.finished c.args.count (search rules) (omega arith)) (omega arith)
