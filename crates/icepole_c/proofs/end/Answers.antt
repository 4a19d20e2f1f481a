-- `icepole_c::end` meets its contract: by what end answers, where the state is long enough.
-- Assumes nothing.
use mathlib.Core.Path.{sym, ap, ◌∙◌}
use Prim.Native.Nat.{ℕ}
use Rattle.std.specs.Prelude.{Result}
use Rattle.refusals.specs.declared.Refusal.{Refusal}
use Rattle.refusals.specs.Numbers.{number_of}
use Rattle.strips.proofs.Answers.{nonzero}
use Rattle.icepole_c.proofs.StripCalls.{end-done, end_refused, end_short}
use Rattle.icepole_c.proofs.end.Goals as goal

abbrev of : Result ℕ Refusal → ℕ
of r = number_of r

pub returns-then-state-lt-STRIP_STATE_LENGTH : goal.returns-then-state-lt-STRIP_STATE_LENGTH
returns-then-state-lt-STRIP_STATE_LENGTH c =
    let a = c.args in
    rw c.number.ensures (end_short a.state.now a.out.now c.if-state-lt-STRIP_STATE_LENGTH.true)

pub returns-in-Err : goal.returns-in-Err
returns-in-Err c =
    let a = c.args in
    let e = c.end-ended.ensures in
    rw (c.number-in-Err.ensures ∙ sym (ap of c.in-Err.is))
    (end_refused a.state.now a.out.now c.if-state-lt-STRIP_STATE_LENGTH.false _ c.strip_state_in.ensures _ e.answer _ e.output
    (λ z. nonzero c.in-Err.refusal (sym (ap of c.in-Err.is) ∙ z)))

pub returns-in-Ok : goal.returns-in-Ok
returns-in-Ok c =
    let a = c.args in
    let e = c.end-ended.ensures in
    end-done a.state.now a.out.now c.if-state-lt-STRIP_STATE_LENGTH.false _ c.strip_state_in.ensures _ e.answer _ e.output
    (ap of c.in-Ok.is) _ c.put_strip_state.ensures
