-- `constants::round_constants` meets its contract. The loop's invariant: r is the number after n steps, and the constants before n stand in the table.
-- Assumes nothing.
use mathlib.Core.Path.{◌≡◌, refl, sym, ap, ◌∙◌}
use Prim.Native.Nat.{ℕ, suc}
use native.Mathlib.Numerals.{add-one}
use borrow.Author.Rules.{rules}
use Rattle.constants.specs.Tables.{stepped, after_steps, round_constants}
use Rattle.constants.proofs.Lists.{filled_next, filled-all}
use Rattle.constants.proofs.round_constants.Goals as goal

pub loop-constant-init : goal.loop-constant-init
unfolding after_steps
loop-constant-init c = (refl, (search rules, refl, refl))

pub loop-constant-preserved : goal.loop-constant-preserved
unfolding after_steps
loop-constant-preserved c =
    let n : ℕ = c.loop-constant.constant-index in
    let e : c.step-r.result ≡ after_steps (suc n) = c.step-r.ensures ∙ ap stepped c.loop-constant.invariant.0 in (
      e ∙ ap after_steps (sym (add-one n)),
      filled_next 12 (λ k. after_steps (suc k)) _ n _ _ (search rules) e c.loop-constant.invariant.1,
    )

pub returns : goal.returns
unfolding round_constants
returns c = filled-all 12 (λ k. after_steps (suc k)) _ _ _ c.loop-constant-test.false c.loop-constant.invariant.1
