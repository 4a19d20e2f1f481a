-- `burst::Recorder::is_sound` meets its contract.
-- Assumes nothing.
use mathlib.Core.Path.{◌≡◌, sym, ap, ◌∙◌}
use native.Mathlib.Omega.{arith}
use Rattle.burst.specs.declared.Edition.{Edition}
use Rattle.burst.specs.declared.Recorder.{Recorder}
use Rattle.burst.specs.Recorder.{edition_of, is_sound}
use Rattle.burst.proofs.Rules.{refuted, clash, sounds, sound-is}
use Rattle.burst.proofs.Recorder.is_sound.Goals as goal

-- what is sound at the row e is so at the recorder's own
own : (r : Recorder) (e : Edition) → e ≡ edition_of r → is_sound e r ≡ is_sound (edition_of r) r
own r e h = ap (λ (x : Edition). is_sound x r) h

pub returns-then-self : goal.returns-then-self
returns-then-self c = refuted _ (λ h. clash _ c.if-self.true (sounds _ _ h).alive)

pub returns-then-self-e : goal.returns-then-self-e
returns-then-self-e c = refuted _ (λ h. let w = sounds _ _ h in omega (arith, w, c.if-self-e)) ∙ own _ _ c.edition-e.ensures.0

pub returns-then-self-2 : goal.returns-then-self-2
returns-then-self-2 c = refuted _ (λ h. let w = sounds _ _ h in omega (arith, w, c.if-self-2))

pub returns : goal.returns
returns c =
    let r = c.args.self.now in
    c.entries_ok.ensures ∙ sym (sound-is c.edition-e.result r c.if-self.false (omega arith) (omega arith)) ∙ own r _ c.edition-e.ensures.0
