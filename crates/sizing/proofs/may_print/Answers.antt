-- `sizing::may_print` meets its contract.
-- Assumes nothing.
use mathlib.Core.Path.{sym, ◌∙◌}
use native.Mathlib.Omega.{arith}
use borrow.Author.Tests.{ltb-true, ltb-false}
use Rattle.sizing.proofs.Cards.{card-16, card-16', card-10, card-10', card-0}
use Rattle.sizing.proofs.may_print.Goals as goal

pub returns-then-shots-eq0-clause-number : goal.returns-then-shots-eq0-clause-number
returns-then-shots-eq0-clause-number c = card-16 _ _ _ (omega arith)

pub returns-then-shots-e-clause-number : goal.returns-then-shots-e-clause-number
returns-then-shots-e-clause-number c = card-16' _ _ _ (λ z. omega arith) (omega arith)

pub returns-then-picture-lt1-clause-number : goal.returns-then-picture-lt1-clause-number
returns-then-picture-lt1-clause-number c = card-10 _ _ _ (λ z. omega arith) (omega arith) (omega arith)

pub returns-then-too_long-clause-number : goal.returns-then-too_long-clause-number
returns-then-too_long-clause-number c =
    card-10' _ _ _ (λ z. omega arith) (omega arith) (omega arith) (ltb-true _ _ (sym c.too_long.ensures ∙ c.if-too_long.true))

pub returns-clause-number : goal.returns-clause-number
returns-clause-number c =
    card-0 _ _ _ (λ z. omega arith) (omega arith) (omega arith) (ltb-false _ _ (sym c.too_long.ensures ∙ c.if-too_long.false))
