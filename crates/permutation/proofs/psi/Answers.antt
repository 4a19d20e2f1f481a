-- `permutation::psi` meets its contract: each column is what `sbox_by_differences` ensures.
-- Assumes nothing.
use borrow.Author.Rules.{rules}
use Rattle.permutation.specs.Permutation.{ψ}
use Rattle.permutation.proofs.psi.Goals as goal

pub returns : goal.returns
unfolding ψ
returns c = search rules
