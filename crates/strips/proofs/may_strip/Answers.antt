-- `strips::may_strip` meets its contract: each answer from the tests that led to it.
-- Assumes nothing.
use native.Mathlib.Omega.{arith}
use borrow.Author.Rules.{rules}
use Rattle.strips.proofs.Numbers.{over, over', strip-0, strip-14, strip-4, strip-5, takes}
use Rattle.strips.proofs.may_strip.Goals as goal

pub returns-then-finished-clause-number : goal.returns-then-finished-clause-number
returns-then-finished-clause-number c = strip-14 _ _ _ _ (over c.args.finished c.args.count (search rules))

pub returns-then-count-gt-MAX_LENGTH-clause-number : goal.returns-then-count-gt-MAX_LENGTH-clause-number
returns-then-count-gt-MAX_LENGTH-clause-number c = strip-14 _ _ _ _ (over' c.args.finished c.args.count (search rules) (omega arith))

pub returns-then-message-count-clause-number : goal.returns-then-message-count-clause-number
returns-then-message-count-clause-number c = strip-4 _ _ _ _ (takes c.args.finished c.args.count (search rules) (omega arith)) (omega arith)

pub returns-then-out-message-clause-number : goal.returns-then-out-message-clause-number
returns-then-out-message-clause-number c = strip-5 _ _ _ _ (takes c.args.finished c.args.count (search rules) (omega arith)) (omega arith) (omega arith)

pub returns-clause-number : goal.returns-clause-number
returns-clause-number c = strip-0 _ _ _ _ (takes c.args.finished c.args.count (search rules) (omega arith)) (omega arith) (omega arith)
