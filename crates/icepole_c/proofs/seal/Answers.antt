-- `icepole_c::seal` meets its contract: the number is that of the answer.
-- Assumes nothing.
use Rattle.icepole_c.proofs.Returned.{seal-refusal}
use Rattle.icepole_c.proofs.seal.Goals as goal

pub returns : goal.returns
returns c = let s = c.seal-sealed.ensures in rw c.number_of.ensures (seal-refusal _ _ _ _ _ _ _ _ s.answer, s.output)
