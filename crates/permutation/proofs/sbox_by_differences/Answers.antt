-- `permutation::sbox_by_differences` meets its contract: by the differences of neighbours, which agree with the formula.
-- Assumes nothing.
use mir.Syntax.{w64}
use borrow.Author.Rules.{elem_Fits}
use Rattle.permutation.proofs.SBox.{sbox-agrees}
use Rattle.permutation.proofs.sbox_by_differences.Goals as goal

pub returns : goal.returns
returns c = sbox-agrees c.args.m (λ k. (elem_Fits w64 w64 c.args.m c.well_formed.0.0 k c.well_formed.0.1.1 tt).fits)
