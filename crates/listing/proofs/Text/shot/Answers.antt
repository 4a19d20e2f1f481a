-- `listing::Text::shot` meets its contract.
-- Assumes nothing.
use Rattle.listing.proofs.Puts.{shot-made}
use Rattle.listing.proofs.Text.shot.Goals as goal

pub returns-clause-text : goal.returns-clause-text
returns-clause-text c =
    let a = c.args in
    shot-made a.self.now _ _ _ _ a.shot a.offset a.count c.field.ensures.text c.field-2.ensures.text c.field-3.ensures.text c.word.ensures
