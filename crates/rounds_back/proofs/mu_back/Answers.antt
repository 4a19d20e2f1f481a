-- `rounds_back::mu_back` meets its contract: each row is what `row` ensures.
-- Assumes nothing.
use Rattle.rounds_back.proofs.InverseMatrix.{mu-back-agrees}
use Rattle.rounds_back.proofs.mu_back.Goals as goal

pub returns : goal.returns
returns c = mu-back-agrees _ _ _ _ _ c.row.ensures c.row-2.ensures c.row-3.ensures c.row-4.ensures
