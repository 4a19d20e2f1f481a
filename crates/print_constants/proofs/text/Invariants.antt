-- The lines before k are done.
use Rattle.constants.proofs.Lists.{Filled}
use Rattle.print_constants.specs.Text.{hex_line, number_on}
use Rattle.print_constants.proofs.text.Given as goal

abbrev pub invariant-loop-k : goal.invariant-loop-k
invariant-loop-k l = Filled 32 (λ k. hex_line (number_on l.s l.c k)) l.initial.line-items l.k l.line-items
