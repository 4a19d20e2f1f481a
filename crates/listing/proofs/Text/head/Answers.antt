-- `listing::Text::head` meets its contract.
-- Assumes nothing.
use Rattle.listing.proofs.Puts.{head-made}
use Rattle.listing.proofs.Text.head.Goals as goal

pub returns-clause-text : goal.returns-clause-text
returns-clause-text c =
    let a = c.args in
    head-made a.self.now _ _ _ _ _ a.burst_number a.taken a.kept a.dropped
    c.field.ensures.text c.field-2.ensures.text c.field-3.ensures.text c.field-4.ensures.text c.word.ensures
