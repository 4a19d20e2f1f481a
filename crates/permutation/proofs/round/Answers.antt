-- `permutation::round` meets its contract: each statement makes the next state by its step.
-- Assumes nothing.
use borrow.Author.Rules.{rules}
use Rattle.permutation.specs.Permutation.{R}
use Rattle.permutation.proofs.round.Goals as goal

pub returns : goal.returns
unfolding R
returns c = search rules
