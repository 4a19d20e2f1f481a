-- `burst::Recorder::edition` meets its contract.
-- Assumes nothing.
use mathlib.Core.Path.{sym, ◌∙◌}
use Rattle.burst.proofs.Rows.{written-numbered}
use Rattle.burst.proofs.Recorder.edition.Goals as goal

pub returns : goal.returns
returns c = (c.edition_written.ensures.0 ∙ sym (written-numbered 16) ∙ written-numbered _, c.edition_written.ensures.1)
