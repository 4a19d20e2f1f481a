-- `burst_c::stretch_of` meets its contract: by what locate answers for the caller's place.
-- Assumes nothing.
use mathlib.Core.Path.{refl, sym, ap, ◌∙◌}
use Prim.Native.Nat.{◌+◌}
use native.Mathlib.Omega.{arith}
use Rattle.std.specs.Prelude.{Result}
use Rattle.refusals.specs.declared.Refusal.{Refusal}
use Rattle.refusals.specs.Numbers.{number_of, mark_of, value_or}
use Rattle.refusals.proofs.Laws.{not-done, passed-on}
use Rattle.burst.specs.declared.Entry.{Entry}
use Rattle.reader.proofs.Answers.{located-refusal, located-mark, located-found, located-position, located-entry, record-done}
use Rattle.burst_c.specs.declared.Stretch.{Stretch}
use Rattle.burst_c.proofs.Places.{at-located}
use Rattle.burst_c.proofs.Returned.{none-there, record-size}
use Rattle.burst_c.proofs.stretch_of.Goals as goal

-- ---- locate is turned down
pub returns-in_err-position-clause-number : goal.returns-in_err-position-clause-number
returns-in_err-position-clause-number c =
    let a = c.args in
    ap number_of (passed-on _ _ c.from_residual.ensures.1)
    ∙ located-refusal _ _ _ _ (c.in_err-position.ensures ∙ at-located a.key.now a.file.now a.place _ c.place_of.ensures)

pub returns-in_err-position-clause-mark : goal.returns-in_err-position-clause-mark
returns-in_err-position-clause-mark c =
    let a = c.args in
    ap mark_of (passed-on _ _ c.from_residual.ensures.1)
    ∙ located-mark _ _ _ _ (c.in_err-position.ensures ∙ at-located a.key.now a.file.now a.place _ c.place_of.ensures)

pub returns-in_err-position-clause-offset : goal.returns-in_err-position-clause-offset
returns-in_err-position-clause-offset c =
    let a = c.args in
    let n = located-refusal _ _ _ _ (c.in_err-position.ensures ∙ at-located a.key.now a.file.now a.place _ c.place_of.ensures) in
    ap (λ (r : Result Stretch Refusal). value_or (λ s. s.offset) 0 r) (passed-on _ _ c.from_residual.ensures.1)
    ∙ (none-there a.key.now a.file.now a.place (λ z. not-done c.in_err-position.field-0.0 (n ∙ z))).0

pub returns-in_err-position-clause-size : goal.returns-in_err-position-clause-size
returns-in_err-position-clause-size c =
    let a = c.args in
    let n = located-refusal _ _ _ _ (c.in_err-position.ensures ∙ at-located a.key.now a.file.now a.place _ c.place_of.ensures) in
    ap (λ (r : Result Stretch Refusal). value_or (λ s. s.size) 0 r) (passed-on _ _ c.from_residual.ensures.1)
    ∙ (none-there a.key.now a.file.now a.place (λ z. not-done c.in_err-position.field-0.0 (n ∙ z))).1

-- ---- done
pub entry_at-e-requires : goal.entry_at-e-requires
entry_at-e-requires c =
    let a = c.args in
    let e = c.in_ok-position.ensures ∙ at-located a.key.now a.file.now a.place _ c.place_of.ensures in
    let w = located-found _ _ _ _ e refl in
    let i = located-position _ _ _ _ e refl in
    omega (arith, w.accepted.front, w.below, i)

pub overflow_add-result : goal.overflow_add-result
overflow_add-result c =
    let a = c.args in
    let e = c.in_ok-position.ensures ∙ at-located a.key.now a.file.now a.place _ c.place_of.ensures in
    let w = located-found _ _ _ _ e refl in
    let n = ap (λ (x : Entry). x.length) (located-entry _ _ _ _ e refl _ c.entry_at-e.ensures) in
    omega (arith, w.range, n)

pub returns-clause-number : goal.returns-clause-number
returns-clause-number c =
    let a = c.args in located-refusal _ _ _ _ (c.in_ok-position.ensures ∙ at-located a.key.now a.file.now a.place _ c.place_of.ensures)

pub returns-clause-mark : goal.returns-clause-mark
returns-clause-mark c =
    let a = c.args in located-mark _ _ _ _ (c.in_ok-position.ensures ∙ at-located a.key.now a.file.now a.place _ c.place_of.ensures)

pub returns-clause-offset : goal.returns-clause-offset
returns-clause-offset c =
    let a = c.args in
    let e = c.in_ok-position.ensures ∙ at-located a.key.now a.file.now a.place _ c.place_of.ensures in
    let n = located-refusal _ _ _ _ e in
    ap (λ (y : Entry). y.offset) (located-entry _ _ _ _ e refl _ c.entry_at-e.ensures)
    ∙ (record-done a.key.now a.file.now a.place (sym n)).1

pub returns-clause-size : goal.returns-clause-size
returns-clause-size c =
    let a = c.args in
    let e = c.in_ok-position.ensures ∙ at-located a.key.now a.file.now a.place _ c.place_of.ensures in
    let n = located-refusal _ _ _ _ e in
    ap (λ (y : Entry). y.length + 32) (located-entry _ _ _ _ e refl _ c.entry_at-e.ensures)
    ∙ record-size a.key.now a.file.now a.place (located-found _ _ _ _ e refl) (sym n)
