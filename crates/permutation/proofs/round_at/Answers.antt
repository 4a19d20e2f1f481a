-- `permutation::round_at` meets its contract: each call is its step.
-- Assumes nothing.
use borrow.Author.Rules.{rules}
use Rattle.permutation.specs.Permutation.{R}
use Rattle.permutation.proofs.round_at.Goals as goal

pub returns : goal.returns
unfolding R
returns c = search rules
