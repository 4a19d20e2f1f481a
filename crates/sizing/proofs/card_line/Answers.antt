-- `sizing::card_line` meets its contract.
-- Assumes nothing.
use mathlib.Core.Path.{ap, ◌∙◌}
use Rattle.refusals.proofs.Laws.{passed-on}
use Rattle.sizing.specs.Cards.{capacity_as}
use Rattle.sizing.proofs.Cards.{card-refused, card-done}
use Rattle.sizing.proofs.card_line.Goals as goal

pub returns-in_err-may_print : goal.returns-in_err-may_print
returns-in_err-may_print c =
    let m = c.in_err-may_print.ensures in
    ap capacity_as (passed-on _ _ c.from_residual.ensures.1) ∙ card-refused _ c.edition_written-e.ensures.0 c.args.card _ _ _ m.number m.mark

pub returns : goal.returns
returns c = card-done _ c.edition_written-e.ensures.0 c.args.card _ _ c.in_ok-may_print.ensures.number _ c.full_length-each.ensures.0
