-- `constants::step` meets its contract.
-- Assumes nothing.
use native.Mathlib.Omega.{arith}
use Rattle.constants.proofs.Steps.{step-sets, step-leaves}
use Rattle.constants.proofs.step.Goals as goal

pub returns-then-ones-eq1 : goal.returns-then-ones-eq1
returns-then-ones-eq1 c = step-sets c.args.r c.ranges.r.fits c.if-ones-eq1.true

pub returns-else-ones-eq1 : goal.returns-else-ones-eq1
returns-else-ones-eq1 c = step-leaves c.args.r c.ranges.r.fits (omega arith)
