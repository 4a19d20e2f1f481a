-- `strips::strip_into` meets its contract: what `strip_in` turns down is the answer; else the sum of the lengths fits.
-- Assumes nothing.
use mathlib.Core.Path.{sym, ap, ◌∙◌}
use mathlib.Core.Bool.{Bool}
use Prim.Native.Nat.{◌+◌}
use lib.ListN.{length}
use native.Mathlib.Omega.{arith}
use Rattle.refusals.specs.Numbers.{number}
use Rattle.bytes_le.specs.Bytes.{Bytes}
use Rattle.strips.proofs.Answers.{kept, nonzero, passed, strip-done, strip-refused, told}
use Rattle.strips.proofs.Numbers.{strip-fits}
use Rattle.strips.proofs.strip_into.Goals as goal

pub returns-in_err-strip_in-clause-answer : goal.returns-in_err-strip_in-clause-answer
returns-in_err-strip_in-clause-answer c =
    let a = c.args in
    let m = c.in_err-strip_in.ensures in
    passed _ _ _ c.from_residual.ensures.1 m.mark
    ∙ ap (λ (b : Bytes). told (number c.in_err-strip_in.field-0.0) 0 (record { bytes = b; count = a.state.now.count; finished = a.state.now.finished }))
    (m.state ∙ kept _ _ _ (nonzero c.in_err-strip_in.field-0.0))
    ∙ (strip-refused a.state.now a.message.now a.out.now _ m.number (nonzero c.in_err-strip_in.field-0.0)).0

pub returns-in_err-strip_in-clause-output : goal.returns-in_err-strip_in-clause-output
returns-in_err-strip_in-clause-output c =
    let a = c.args in
    let m = c.in_err-strip_in.ensures in
    m.output ∙ kept (number c.in_err-strip_in.field-0.0) a.out.now _ (nonzero c.in_err-strip_in.field-0.0) ∙ (strip-refused a.state.now a.message.now a.out.now _ m.number (nonzero c.in_err-strip_in.field-0.0)).1

pub overflow_add-state : goal.overflow_add-state
overflow_add-state c =
    let w = strip-fits _ _ _ _ (sym c.in_ok-strip_in.ensures.number) in
    omega (arith, w.sum)

pub returns-clause-answer : goal.returns-clause-answer
returns-clause-answer c =
    let a = c.args in
    let q = c.in_ok-strip_in.ensures in
    let w = strip-fits _ _ _ _ (sym q.number) in
    ap (λ (f : Bool). told 0 (length a.message.now) (record { bytes = c.strip_in.new.b; count = a.state.now.count + length a.message.now; finished = f })) w.open'
    ∙ (strip-done a.state.now a.message.now a.out.now q.number _ _ q.state q.output).0

pub returns-clause-output : goal.returns-clause-output
returns-clause-output c =
    let a = c.args in
    let q = c.in_ok-strip_in.ensures in
    (strip-done a.state.now a.message.now a.out.now q.number _ _ q.state q.output).1
