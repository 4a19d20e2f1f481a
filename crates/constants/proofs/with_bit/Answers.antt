-- `constants::with_bit` meets its contract.
-- Assumes nothing.
use mathlib.Core.Path.{sym, ap, ◌∙◌}
use borrow.Author.Rules.{rules}
use Rattle.constants.specs.Words.{with_bit}
use Rattle.constants.proofs.OneBit.{bit-set, bit-cleared}
use Rattle.constants.proofs.with_bit.Goals as goal

pub returns-then-b : goal.returns-then-b
returns-then-b c =
    bit-set c.args.w c.args.k c.ranges.w.fits (search rules)
    ∙ ap (with_bit c.args.w c.args.k) (sym c.if-b.true)

pub returns-else-b : goal.returns-else-b
returns-else-b c =
    bit-cleared c.args.w c.args.k c.ranges.w.fits (search rules)
    ∙ ap (with_bit c.args.w c.args.k) (sym c.if-b.false)
