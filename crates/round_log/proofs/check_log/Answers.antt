-- `round_log::check_log` meets its contract: a length that no log has is refused, and the rounds of any other are judged.
-- Assumes nothing.
use mathlib.Core.Path.{sym, ◌∙◌}
use native.Mathlib.Omega.{arith}
use Rattle.round_log.proofs.Lengths.{verdict-judged, verdict-refused}
use Rattle.round_log.proofs.check_log.Goals as goal

pub returns-then-n-ne0 : goal.returns-then-n-ne0
returns-then-n-ne0 c = sym (verdict-refused _ (λ r h. omega arith))

pub returns-then-states-lt2 : goal.returns-then-states-lt2
returns-then-states-lt2 c = sym (verdict-refused _ (λ r h. omega arith))

pub returns-then-states : goal.returns-then-states
returns-then-states c = sym (verdict-refused _ (λ r h. omega arith))

pub returns : goal.returns
returns c = c.judge.ensures ∙ sym (verdict-judged _ _ (omega arith, omega arith, omega arith))
