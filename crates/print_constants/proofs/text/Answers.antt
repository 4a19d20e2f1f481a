use Rattle.std.proofs.Common.{ℕ, List, rules, ap, ap₂, ◌∙◌}
use Rattle.permutation.specs.State.{State, tabulate}
use Rattle.constants.specs.Tables.{round_constants}
use Rattle.constants.proofs.Lists.{filled_next, filled-all}
use Rattle.print_constants.specs.Text.{hex_line, number_on, text}
use Rattle.print_constants.proofs.text.Goals as goal

abbrev line_of : State → List ℕ → ℕ → List ℕ
line_of s c k = hex_line (number_on s c k)

pub loop-k-preserved : goal.loop-k-preserved
loop-k-preserved c =
    filled_next 32 (line_of c.starting_words-s.result c.round_constants-c.result) _ _ _ _ (search rules)
    (c.hex_line.ensures ∙ ap hex_line c.number_on.ensures) c.loop-k.invariant

pub returns : goal.returns
unfolding text round_constants
returns c =
    filled-all 32 (line_of c.starting_words-s.result c.round_constants-c.result) _ _ _ c.loop-k-test.false c.loop-k.invariant
    ∙ ap₂ (λ (s : State) (t : List ℕ). tabulate 32 (line_of s t)) c.starting_words-s.ensures c.round_constants-c.ensures
