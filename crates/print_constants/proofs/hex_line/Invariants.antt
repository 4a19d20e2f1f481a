-- The digits before k are done, and the line's end stands.
use Rattle.constants.proofs.Lists.{Filled}
use Rattle.print_constants.specs.Text.{hex_digit}
use Rattle.print_constants.proofs.hex_line.Given as goal

abbrev pub invariant-loop-k : goal.invariant-loop-k
invariant-loop-k l = Filled 17 (hex_digit l.fn.w) l.initial.line l.k l.line
