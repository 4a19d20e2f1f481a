-- `burst::may_begin` meets its contract.
-- Assumes nothing.
use mathlib.Core.Path.{sym, ap, ◌∙◌}
use native.Mathlib.Omega.{arith}
use Rattle.burst.specs.declared.Edition.{Edition}
use Rattle.burst.specs.Numbers.{begin_number}
use Rattle.burst.proofs.Numbers.{begin-1, begin-3, begin-15, begin-11, begin-0}
use Rattle.burst.proofs.may_begin.Goals as goal

pub returns-then-key-ne-KEY_BYTES-clause-number : goal.returns-then-key-ne-KEY_BYTES-clause-number
returns-then-key-ne-KEY_BYTES-clause-number c = begin-1 _ _ _ _ _ c.if-key-ne-KEY_BYTES.true

pub returns-then-site_mark-ne-MARK_BYTES-clause-number : goal.returns-then-site_mark-ne-MARK_BYTES-clause-number
returns-then-site_mark-ne-MARK_BYTES-clause-number c = begin-3 _ _ _ _ _ (omega arith) c.if-site_mark-ne-MARK_BYTES.true

pub returns-then-no_camera-clause-number : goal.returns-then-no_camera-clause-number
returns-then-no_camera-clause-number c =
    begin-15 c.edition_written-e.result _ _ _ _ (omega arith) (omega arith) (sym c.no_camera.ensures ∙ c.if-no_camera.true)
    ∙ ap (λ (x : Edition). begin_number x c.args.key c.args.site_mark c.args.camera c.args.buffer) c.edition_written-e.ensures.0

pub returns-then-buffer-e-clause-number : goal.returns-then-buffer-e-clause-number
returns-then-buffer-e-clause-number c =
    begin-11 c.edition_written-e.result _ _ _ _ (omega arith) (omega arith) (sym c.no_camera.ensures ∙ c.if-no_camera.false) (omega arith)
    ∙ ap (λ (x : Edition). begin_number x c.args.key c.args.site_mark c.args.camera c.args.buffer) c.edition_written-e.ensures.0

pub returns-clause-number : goal.returns-clause-number
returns-clause-number c =
    begin-0 c.edition_written-e.result _ _ _ _ (omega arith) (omega arith) (sym c.no_camera.ensures ∙ c.if-no_camera.false) (omega arith)
    ∙ ap (λ (x : Edition). begin_number x c.args.key c.args.site_mark c.args.camera c.args.buffer) c.edition_written-e.ensures.0
