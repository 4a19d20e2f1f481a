-- `burst::edition_written` meets its contract.
-- Assumes nothing.
use mathlib.Core.Path.{◌∙◌}
use Rattle.burst.proofs.Rows.{written-numbered}
use Rattle.burst.proofs.edition_written.Goals as goal

pub returns : goal.returns
returns c = (c.edition_numbered.ensures.0 ∙ written-numbered _, c.edition_numbered.ensures.1)
