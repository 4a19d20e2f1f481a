-- `burst_c::check_into` meets its contract: by what check answers.
-- Assumes nothing.
use mathlib.Core.Path.{refl, ap, ◌∙◌}
use native.Mathlib.Omega.{arith}
use Rattle.refusals.specs.Numbers.{number_of, mark_of}
use Rattle.refusals.proofs.Laws.{not-done, passed-on}
use Rattle.reader.proofs.Answers.{checked-mark}
use Rattle.burst_c.proofs.Returned.{check-refused, check-short, check_done}
use Rattle.burst_c.proofs.check_into.Goals as goal

-- ---- check is turned down
pub returns-in_err-summary-clause-number : goal.returns-in_err-summary-clause-number
returns-in_err-summary-clause-number c =
    let a = c.args in
    ap number_of (passed-on _ _ c.from_residual.ensures.1)
    ∙ (check-refused a.key.now a.file.now a.info.now _ c.in_err-summary.ensures (not-done c.in_err-summary.field-0.0)).0

pub returns-in_err-summary-clause-mark : goal.returns-in_err-summary-clause-mark
returns-in_err-summary-clause-mark c =
    ap mark_of (passed-on _ _ c.from_residual.ensures.1) ∙ checked-mark _ _ _ c.in_err-summary.ensures

pub returns-in_err-summary-clause-info : goal.returns-in_err-summary-clause-info
returns-in_err-summary-clause-info c =
    let a = c.args in
    (check-refused a.key.now a.file.now a.info.now _ c.in_err-summary.ensures (not-done c.in_err-summary.field-0.0)).1

-- ---- the info is too short
pub returns-then-info-lt-CHECK_INFO-clause-number : goal.returns-then-info-lt-CHECK_INFO-clause-number
returns-then-info-lt-CHECK_INFO-clause-number c =
    let a = c.args in (check-short a.key.now a.file.now a.info.now _ c.in_ok-summary.ensures refl (omega arith)).0

pub returns-then-info-lt-CHECK_INFO-clause-mark : goal.returns-then-info-lt-CHECK_INFO-clause-mark
returns-then-info-lt-CHECK_INFO-clause-mark c = checked-mark _ _ _ c.in_ok-summary.ensures

pub returns-then-info-lt-CHECK_INFO-clause-info : goal.returns-then-info-lt-CHECK_INFO-clause-info
returns-then-info-lt-CHECK_INFO-clause-info c =
    let a = c.args in (check-short a.key.now a.file.now a.info.now _ c.in_ok-summary.ensures refl (omega arith)).1

-- ---- done
pub returns-clause-number : goal.returns-clause-number
returns-clause-number c =
    let a = c.args in
    (check_done a.key.now a.file.now a.info.now _ c.in_ok-summary.ensures refl (omega (arith, c.if-info-lt-CHECK_INFO)) _ c.put_summary.ensures).0

pub returns-clause-mark : goal.returns-clause-mark
returns-clause-mark c = checked-mark _ _ _ c.in_ok-summary.ensures

pub returns-clause-info : goal.returns-clause-info
returns-clause-info c =
    let a = c.args in
    (check_done a.key.now a.file.now a.info.now _ c.in_ok-summary.ensures refl (omega (arith, c.if-info-lt-CHECK_INFO)) _ c.put_summary.ensures).1
