-- `permutation::rotate` meets its contract: the library's method makes the rotated word.
-- Assumes nothing.
use mathlib.Core.Path.{◌∙◌}
use Rattle.permutation.proofs.Rotation.{rotated-left}
use Rattle.permutation.proofs.rotate.Goals as goal

pub returns : goal.returns
returns c = c.rotate_left.ensures ∙ rotated-left c.args.w c.args.k c.ranges.w.fits c.requires
