-- `burst_c::fetch_into` meets its contract: by what locate and fetch answer for the caller's place.
-- Assumes nothing.
use mathlib.Core.Path.{refl, sym, ap, ◌∙◌}
use native.Mathlib.Omega.{arith}
use Rattle.refusals.specs.Numbers.{number_of, mark_of}
use Rattle.refusals.proofs.Laws.{not-done, passed-on}
use Rattle.reader.proofs.Answers.{located-refusal, located-mark, fetched-mark}
use Rattle.burst_c.proofs.Places.{at-located, at-fetched, at-output}
use Rattle.burst_c.proofs.Returned.{fetch-located, fetch-short, fetch-refused, fetch-done}
use Rattle.burst_c.proofs.fetch_into.Goals as goal

-- ---- the info is too short, and locate turned down
pub returns-in_err-locate-clause-number : goal.returns-in_err-locate-clause-number
returns-in_err-locate-clause-number c =
    let a = c.args in
    let e = c.in_err-locate.ensures ∙ at-located a.key.now a.file.now a.place _ c.place_of-at.ensures in
    ap number_of (passed-on _ _ c.from_residual.ensures.1)
    ∙ (fetch-located a.key.now a.file.now a.place a.out.now a.info.now _ (located-refusal _ _ _ _ e) (not-done c.in_err-locate.field-0.0)).0

pub returns-in_err-locate-clause-mark : goal.returns-in_err-locate-clause-mark
returns-in_err-locate-clause-mark c =
    let a = c.args in
    ap mark_of (passed-on _ _ c.from_residual.ensures.1)
    ∙ located-mark _ _ _ _ (c.in_err-locate.ensures ∙ at-located a.key.now a.file.now a.place _ c.place_of-at.ensures)

pub returns-in_err-locate-clause-output : goal.returns-in_err-locate-clause-output
returns-in_err-locate-clause-output c =
    let a = c.args in
    let e = c.in_err-locate.ensures ∙ at-located a.key.now a.file.now a.place _ c.place_of-at.ensures in
    (fetch-located a.key.now a.file.now a.place a.out.now a.info.now _ (located-refusal _ _ _ _ e) (not-done c.in_err-locate.field-0.0)).1

pub returns-in_err-locate-clause-info : goal.returns-in_err-locate-clause-info
returns-in_err-locate-clause-info c =
    let a = c.args in
    let e = c.in_err-locate.ensures ∙ at-located a.key.now a.file.now a.place _ c.place_of-at.ensures in
    (fetch-located a.key.now a.file.now a.place a.out.now a.info.now _ (located-refusal _ _ _ _ e) (not-done c.in_err-locate.field-0.0)).2

-- ---- the info is too short, and locate done
pub returns-then-info-lt-FETCH_INFO-clause-number : goal.returns-then-info-lt-FETCH_INFO-clause-number
returns-then-info-lt-FETCH_INFO-clause-number c =
    let a = c.args in
    let e = c.in_ok-locate.ensures ∙ at-located a.key.now a.file.now a.place _ c.place_of-at.ensures in
    (fetch-short a.key.now a.file.now a.place a.out.now a.info.now (sym (located-refusal _ _ _ _ e)) (omega (arith, c.if-info-lt-FETCH_INFO))).0

pub returns-then-info-lt-FETCH_INFO-clause-mark : goal.returns-then-info-lt-FETCH_INFO-clause-mark
returns-then-info-lt-FETCH_INFO-clause-mark c =
    let a = c.args in located-mark _ _ _ _ (c.in_ok-locate.ensures ∙ at-located a.key.now a.file.now a.place _ c.place_of-at.ensures)

pub returns-then-info-lt-FETCH_INFO-clause-output : goal.returns-then-info-lt-FETCH_INFO-clause-output
returns-then-info-lt-FETCH_INFO-clause-output c =
    let a = c.args in
    let e = c.in_ok-locate.ensures ∙ at-located a.key.now a.file.now a.place _ c.place_of-at.ensures in
    (fetch-short a.key.now a.file.now a.place a.out.now a.info.now (sym (located-refusal _ _ _ _ e)) (omega (arith, c.if-info-lt-FETCH_INFO))).1

pub returns-then-info-lt-FETCH_INFO-clause-info : goal.returns-then-info-lt-FETCH_INFO-clause-info
returns-then-info-lt-FETCH_INFO-clause-info c =
    let a = c.args in
    let e = c.in_ok-locate.ensures ∙ at-located a.key.now a.file.now a.place _ c.place_of-at.ensures in
    (fetch-short a.key.now a.file.now a.place a.out.now a.info.now (sym (located-refusal _ _ _ _ e)) (omega (arith, c.if-info-lt-FETCH_INFO))).2

-- ---- fetch is turned down
pub returns-in_err-picture-clause-number : goal.returns-in_err-picture-clause-number
returns-in_err-picture-clause-number c =
    let a = c.args in
    let q = c.place_of-at.ensures in
    let e = c.in_err-picture.ensures.0 ∙ at-fetched a.key.now a.file.now a.place _ q a.out.now in
    let o = c.in_err-picture.ensures.1 ∙ at-output a.key.now a.file.now a.place _ q a.out.now in
    ap number_of (passed-on _ _ c.from_residual-in_err-picture.ensures.1)
    ∙ (fetch-refused a.key.now a.file.now a.place a.out.now a.info.now (omega (arith, c.if-info-lt-FETCH_INFO)) _ e (not-done c.in_err-picture.field-0.0) _ o).0

pub returns-in_err-picture-clause-mark : goal.returns-in_err-picture-clause-mark
returns-in_err-picture-clause-mark c =
    let a = c.args in
    ap mark_of (passed-on _ _ c.from_residual-in_err-picture.ensures.1)
    ∙ fetched-mark _ _ _ _ _ (c.in_err-picture.ensures.0 ∙ at-fetched a.key.now a.file.now a.place _ c.place_of-at.ensures a.out.now)

pub returns-in_err-picture-clause-output : goal.returns-in_err-picture-clause-output
returns-in_err-picture-clause-output c =
    let a = c.args in
    let q = c.place_of-at.ensures in
    let e = c.in_err-picture.ensures.0 ∙ at-fetched a.key.now a.file.now a.place _ q a.out.now in
    let o = c.in_err-picture.ensures.1 ∙ at-output a.key.now a.file.now a.place _ q a.out.now in
    (fetch-refused a.key.now a.file.now a.place a.out.now a.info.now (omega (arith, c.if-info-lt-FETCH_INFO)) _ e (not-done c.in_err-picture.field-0.0) _ o).1

pub returns-in_err-picture-clause-info : goal.returns-in_err-picture-clause-info
returns-in_err-picture-clause-info c =
    let a = c.args in
    let q = c.place_of-at.ensures in
    let e = c.in_err-picture.ensures.0 ∙ at-fetched a.key.now a.file.now a.place _ q a.out.now in
    let o = c.in_err-picture.ensures.1 ∙ at-output a.key.now a.file.now a.place _ q a.out.now in
    (fetch-refused a.key.now a.file.now a.place a.out.now a.info.now (omega (arith, c.if-info-lt-FETCH_INFO)) _ e (not-done c.in_err-picture.field-0.0) _ o).2

-- ---- done
pub returns-clause-number : goal.returns-clause-number
returns-clause-number c =
    let a = c.args in
    let q = c.place_of-at.ensures in
    let e = c.in_ok-picture.ensures.0 ∙ at-fetched a.key.now a.file.now a.place _ q a.out.now in
    let o = c.in_ok-picture.ensures.1 ∙ at-output a.key.now a.file.now a.place _ q a.out.now in
    (fetch-done a.key.now a.file.now a.place a.out.now a.info.now (omega (arith, c.if-info-lt-FETCH_INFO)) _ e refl _ _ o c.put_picture.ensures).0

pub returns-clause-mark : goal.returns-clause-mark
returns-clause-mark c =
    let a = c.args in
    fetched-mark _ _ _ _ _ (c.in_ok-picture.ensures.0 ∙ at-fetched a.key.now a.file.now a.place _ c.place_of-at.ensures a.out.now)

pub returns-clause-output : goal.returns-clause-output
returns-clause-output c =
    let a = c.args in
    let q = c.place_of-at.ensures in
    let e = c.in_ok-picture.ensures.0 ∙ at-fetched a.key.now a.file.now a.place _ q a.out.now in
    let o = c.in_ok-picture.ensures.1 ∙ at-output a.key.now a.file.now a.place _ q a.out.now in
    (fetch-done a.key.now a.file.now a.place a.out.now a.info.now (omega (arith, c.if-info-lt-FETCH_INFO)) _ e refl _ _ o c.put_picture.ensures).1

pub returns-clause-info : goal.returns-clause-info
returns-clause-info c =
    let a = c.args in
    let q = c.place_of-at.ensures in
    let e = c.in_ok-picture.ensures.0 ∙ at-fetched a.key.now a.file.now a.place _ q a.out.now in
    let o = c.in_ok-picture.ensures.1 ∙ at-output a.key.now a.file.now a.place _ q a.out.now in
    (fetch-done a.key.now a.file.now a.place a.out.now a.info.now (omega (arith, c.if-info-lt-FETCH_INFO)) _ e refl _ _ o c.put_picture.ensures).2
