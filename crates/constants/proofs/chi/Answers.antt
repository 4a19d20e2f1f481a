-- `constants::chi` meets its contract. The loop's invariant: the sheets before x are done.
-- Assumes nothing.
use mathlib.Core.Path.{◌∙◌}
use borrow.Author.Rules.{rules}
use Rattle.permutation.proofs.Bounds.{words}
use Rattle.constants.specs.Keccak.{StateArray}
use Rattle.constants.proofs.Lists.{filled_next, filled-all}
use Rattle.constants.proofs.Lanes.{chi-sheet, chi-agrees}
use Rattle.constants.proofs.chi.Goals as goal

pub loop-x-preserved : goal.loop-x-preserved
loop-x-preserved c =
    filled_next 5 (chi-sheet c.args.a) _ _ _ _ (search rules) c.chi_sheet.ensures c.loop-x.invariant

pub returns : goal.returns
returns c =
    let a : StateArray = c.args.a in
    filled-all 5 (chi-sheet a) _ _ _ c.loop-x-test.false c.loop-x.invariant ∙ chi-agrees a (words a _ c.well_formed.0)
