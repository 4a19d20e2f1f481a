use Rattle.std.proofs.Common.{arith}
use Rattle.constants.proofs.Lists.{filled_next}
use Rattle.print_constants.specs.Text.{hex_digit}
use Rattle.print_constants.proofs.hex_line.Goals as goal

pub loop-k-preserved : goal.loop-k-preserved
loop-k-preserved c = filled_next 17 (hex_digit c.args.w) _ _ _ _ (omega arith) c.glyph.ensures c.loop-k.invariant
