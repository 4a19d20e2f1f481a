-- `burst::Recorder::may_keep` meets its contract.
-- Assumes nothing.
use mathlib.Core.Path.{sym, ap, ◌∙◌}
use native.Mathlib.Omega.{arith}
use lib.ListN.{length}
use Rattle.burst.specs.declared.Edition.{Edition}
use Rattle.burst.specs.Recorder.{keep_refusal}
use Rattle.burst.proofs.Rows.{written_known}
use Rattle.burst.proofs.Rules.{sounds}
use Rattle.burst.proofs.Numbers.{keep-8, keep-3, keep-9, keep-10, keep-10', keep-11, keep-0}
use Rattle.burst.proofs.Recorder.may_keep.Goals as goal

pub returns-then-not-is_sound-clause-number : goal.returns-then-not-is_sound-clause-number
unfolding keep_refusal
returns-then-not-is_sound-clause-number c = keep-8 _ _ _ _ _ _ _ _ (sym c.is_sound.ensures ∙ c.if-not-is_sound.true)

pub returns-then-stamp-ne-MARK_BYTES-clause-number : goal.returns-then-stamp-ne-MARK_BYTES-clause-number
unfolding keep_refusal
returns-then-stamp-ne-MARK_BYTES-clause-number c =
    keep-3 _ _ _ _ _ _ _ _ (sym c.is_sound.ensures ∙ c.if-not-is_sound.false) c.if-stamp-ne-MARK_BYTES.true

pub returns-then-self-edition-clause-number : goal.returns-then-self-edition-clause-number
unfolding keep_refusal
returns-then-self-edition-clause-number c =
    let s = ap (λ (e : Edition). e.shots) c.edition.ensures.0 in
    keep-9 _ _ _ _ _ _ _ _ (sym c.is_sound.ensures ∙ c.if-not-is_sound.false) (omega arith) (omega (arith, s, c.if-self-edition))

pub returns-then-count-lt1-clause-number : goal.returns-then-count-lt1-clause-number
unfolding keep_refusal
returns-then-count-lt1-clause-number c =
    let s = ap (λ (e : Edition). e.shots) c.edition.ensures.0 in
    keep-10 _ _ _ _ _ _ _ _ (sym c.is_sound.ensures ∙ c.if-not-is_sound.false) (omega arith) (omega (arith, s, c.if-self-edition)) (omega arith)

pub returns-then-count-clause-number : goal.returns-then-count-clause-number
unfolding keep_refusal
returns-then-count-clause-number c =
    let s = ap (λ (e : Edition). e.shots) c.edition.ensures.0 in
    keep-10' _ _ _ _ _ _ _ _ (sym c.is_sound.ensures ∙ c.if-not-is_sound.false) (omega arith) (omega (arith, s, c.if-self-edition)) (omega arith) (omega arith)

-- kept is at most taken, which is below the edition's shots
pub overflow_add-self : goal.overflow_add-self
overflow_add-self c =
    let w = sounds _ _ (sym c.is_sound.ensures ∙ c.if-not-is_sound.false) in
    omega (arith, w.kept, c.if-self-edition, c.edition.ensures.1.shots)

pub overflow_add-end : goal.overflow_add-end
overflow_add-end c =
    let w = sounds _ _ (sym c.is_sound.ensures ∙ c.if-not-is_sound.false) in
    omega (arith, w, written_known (length c.args.self.now.key), c.index_length.ensures)

pub overflow_add-end-2 : goal.overflow_add-end-2
overflow_add-end-2 c =
    let w = sounds _ _ (sym c.is_sound.ensures ∙ c.if-not-is_sound.false) in
    omega (arith, w, written_known (length c.args.self.now.key), c.index_length.ensures)

pub returns-then-buffer-end-clause-number : goal.returns-then-buffer-end-clause-number
unfolding keep_refusal
returns-then-buffer-end-clause-number c =
    let n = c.index_length.ensures in
    let s = ap (λ (e : Edition). e.shots) c.edition.ensures.0 in
    keep-11 _ _ _ _ _ _ _ _ (sym c.is_sound.ensures ∙ c.if-not-is_sound.false) c.if-stamp-ne-MARK_BYTES.false
    (omega (arith, s, c.if-self-edition)) (omega (arith, c.if-count-lt1)) (omega (arith, c.if-count)) (omega (arith, n, c.if-buffer-end))

pub returns-clause-number : goal.returns-clause-number
unfolding keep_refusal
returns-clause-number c =
    let n = c.index_length.ensures in
    let s = ap (λ (e : Edition). e.shots) c.edition.ensures.0 in
    keep-0 _ _ _ _ _ _ _ _ (sym c.is_sound.ensures ∙ c.if-not-is_sound.false) c.if-stamp-ne-MARK_BYTES.false
    (omega (arith, s, c.if-self-edition)) (omega (arith, c.if-count-lt1)) (omega (arith, c.if-count)) (omega (arith, n, c.if-buffer-end))
