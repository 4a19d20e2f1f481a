-- `constants::round` meets its contract: the five steps, one after the other.
-- Assumes nothing.
use mathlib.Core.Path.{ap, ◌∙◌}
use Rattle.constants.specs.Keccak.{StateArray, ρ, π, χ, ι, Rnd}
use Rattle.constants.proofs.round.Goals as goal

pub returns : goal.returns
unfolding Rnd
returns c =
    let i = c.args.i in
    c.iota.ensures
    ∙ ap (λ (a : StateArray). ι a i) (c.chi.ensures ∙ ap χ (c.pi.ensures ∙ ap π (c.rho.ensures ∙ ap ρ c.theta.ensures)))
