-- `icepole_bench::bench_verify128` meets its contract: the number is that of the answer.
-- Assumes nothing.
use mathlib.Core.Path.{ap, ◌∙◌}
use Rattle.icepole.specs.Answers.{Opened, open_answer}
use Rattle.icepole_bench.proofs.bench_verify128.Goals as goal

pub returns : goal.returns
unfolding open_answer
returns c = c.number_of.ensures ∙ ap (λ (r : Opened). r.refusal) c.verify-verified.ensures
