-- `permutation::constant_table` meets its contract: the table holds the paper's constants.
-- Assumes nothing.
use mathlib.Core.Path.{refl}
use Rattle.permutation.proofs.constant_table.Goals as goal

pub invariant_of-result : goal.invariant_of-result
invariant_of-result c = record { paper = refl }
