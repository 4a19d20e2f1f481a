-- `burst::entry_ok` meets its contract: a rule that is broken refutes the test.
-- Assumes nothing.
use mathlib.Core.Path.{sym, ◌∙◌}
use native.Mathlib.Omega.{arith}
use Rattle.std.proofs.lemmas.Map.Keys.{le_from_is_le, le_from_not_gt}
use Rattle.burst.proofs.Rules.{refuted, not-le, is-gt, obeys, last-rule}
use Rattle.burst.proofs.entry_ok.Goals as goal

pub returns-then-le : goal.returns-then-le
returns-then-le c = refuted _ (λ h. let w = obeys _ _ _ _ h in let l = le_from_is_le c.args.x.shot.0 c.args.last.0 (sym c.le.ensures ∙ c.if-le.true) in omega (arith, w, l))

pub returns-then-gt : goal.returns-then-gt
returns-then-gt c = refuted _ (λ h. let w = obeys _ _ _ _ h in let l = is-gt c.args.x.shot.0 c.args.taken.0 (sym c.gt.ensures ∙ c.if-gt.true) in omega (arith, w, l))

pub returns-then-x-ne0 : goal.returns-then-x-ne0
returns-then-x-ne0 c = refuted _ (λ h. let w = obeys _ _ _ _ h in c.if-x-ne0.true w.zeros)

pub returns-then-x-offset : goal.returns-then-x-offset
returns-then-x-offset c = refuted _ (λ h. let w = obeys _ _ _ _ h in c.if-x-offset.true w.touches)

pub returns-then-x-lt1 : goal.returns-then-x-lt1
returns-then-x-lt1 c = refuted _ (λ h. let w = obeys _ _ _ _ h in omega (arith, w, c.if-x-lt1))

pub returns : goal.returns
returns c =
    last-rule _ _ _ _ (not-le _ _ (sym c.le.ensures ∙ c.if-le.false)) (le_from_not_gt _ _ (sym c.gt.ensures ∙ c.if-gt.false))
    (omega arith) (omega arith) (omega arith)
