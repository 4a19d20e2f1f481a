-- `constants::pi` meets its contract. The loop's invariant: the sheets before x are done.
-- Assumes nothing.
use mathlib.Core.Path.{◌∙◌}
use Rattle.permutation.proofs.Bounds.{words}
use Rattle.constants.specs.Keccak.{StateArray}
use Rattle.constants.proofs.Lists.{filled-all}
use Rattle.constants.proofs.Lanes.{pi-sheet, pi-agrees}
use Rattle.constants.proofs.pi.Goals as goal

pub returns : goal.returns
returns c =
    let a : StateArray = c.args.a in
    filled-all 5 (pi-sheet a) _ _ _ c.loop-x-test.false c.loop-x.invariant ∙ pi-agrees a (words a _ c.well_formed.0)
