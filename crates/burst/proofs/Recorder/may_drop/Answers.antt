-- `burst::Recorder::may_drop` meets its contract.
-- Assumes nothing.
use mathlib.Core.Path.{sym, ap, ◌∙◌}
use native.Mathlib.Omega.{arith}
use Rattle.burst.specs.declared.Edition.{Edition}
use Rattle.burst.specs.Recorder.{drop_refusal}
use Rattle.burst.proofs.Numbers.{drop-8, drop-9, drop-0}
use Rattle.burst.proofs.Recorder.may_drop.Goals as goal

pub returns-then-not-is_sound-clause-number : goal.returns-then-not-is_sound-clause-number
unfolding drop_refusal
returns-then-not-is_sound-clause-number c = drop-8 _ _ _ (sym c.is_sound.ensures ∙ c.if-not-is_sound.true)

pub returns-then-self-edition-clause-number : goal.returns-then-self-edition-clause-number
unfolding drop_refusal
returns-then-self-edition-clause-number c =
    let s = ap (λ (e : Edition). e.shots) c.edition.ensures.0 in
    drop-9 _ _ _ (sym c.is_sound.ensures ∙ c.if-not-is_sound.false) (omega (arith, s, c.if-self-edition))

pub returns-clause-number : goal.returns-clause-number
unfolding drop_refusal
returns-clause-number c =
    let s = ap (λ (e : Edition). e.shots) c.edition.ensures.0 in
    drop-0 _ _ _ (sym c.is_sound.ensures ∙ c.if-not-is_sound.false) (omega (arith, s, c.if-self-edition))
