-- `burst::Recorder::may_close` meets its contract.
-- Assumes nothing.
use mathlib.Core.Path.{sym, ◌∙◌}
use native.Mathlib.Omega.{arith}
use lib.ListN.{length}
use Rattle.burst.specs.Recorder.{close_refusal}
use Rattle.burst.proofs.Rows.{written_known}
use Rattle.burst.proofs.Rules.{sounds}
use Rattle.burst.proofs.Numbers.{close-8, close-11, close-0}
use Rattle.burst.proofs.Recorder.may_close.Goals as goal

pub returns-then-not-is_sound-clause-number : goal.returns-then-not-is_sound-clause-number
unfolding close_refusal
returns-then-not-is_sound-clause-number c = close-8 _ _ _ _ (sym c.is_sound.ensures ∙ c.if-not-is_sound.true)

-- sound: few entries and few bytes
pub overflow_add-end : goal.overflow_add-end
overflow_add-end c =
    let w = sounds _ _ (sym c.is_sound.ensures ∙ c.if-not-is_sound.false) in
    omega (arith, w, written_known (length c.args.self.now.key), c.index_length.ensures)

pub overflow_add-end-2 : goal.overflow_add-end-2
overflow_add-end-2 c =
    let w = sounds _ _ (sym c.is_sound.ensures ∙ c.if-not-is_sound.false) in
    omega (arith, w, written_known (length c.args.self.now.key), c.index_length.ensures)

pub returns-then-buffer-end-clause-number : goal.returns-then-buffer-end-clause-number
unfolding close_refusal
returns-then-buffer-end-clause-number c =
    let n = c.index_length.ensures in close-11 _ _ _ _ (sym c.is_sound.ensures ∙ c.if-not-is_sound.false) (omega (arith, n, c.if-buffer-end))

pub returns-clause-number : goal.returns-clause-number
unfolding close_refusal
returns-clause-number c =
    let n = c.index_length.ensures in close-0 _ _ _ _ (sym c.is_sound.ensures ∙ c.if-not-is_sound.false) (omega (arith, n, c.if-buffer-end))
