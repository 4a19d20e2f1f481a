-- `reader::locate` meets its contract.
-- Assumes nothing.
use mathlib.Core.Path.{◌≡◌, refl, sym, ap, ◌∙◌}
use Prim.Native.Nat.{ℕ, ◌+◌, ◌*◌}
use native.Mathlib.Omega.{arith}
use Rattle.std.proofs.Common.{Ok, Err, rules}
use Rattle.refusals.proofs.Laws.{passed-on, positive}
use Rattle.burst.specs.Fields.{entry_length}
use Rattle.reader.specs.declared.Header.{Header}
use Rattle.reader.specs.Reader.{position_as, summary_as, check_answer}
use Rattle.reader.proofs.Answers.{accepted, checked-refusal, checked-mark, checked-kept, locate-check, locate-13, locate-0}
use Rattle.reader.proofs.locate.Goals as goal
use Rattle.reader.proofs.locate.Goals.{In_ok-c}

-- what the call goes on with is what check answers: found, so that a call put around check's is judged by what it does
passed : (c : In_ok-c) → summary_as (Ok c.in_ok-c.c) ≡ check_answer c.args.key.now c.args.f.now
passed c = search rules

pub returns-in_err-c : goal.returns-in_err-c
returns-in_err-c c =
    let a = c.args in
    let e : summary_as (Err c.in_err-c.field-0.0) ≡ check_answer a.key.now a.f.now = search rules in
    ap position_as (passed-on _ _ c.from_residual.ensures.1)
    ∙ locate-check a.key.now a.f.now a.place.0 _ _ (checked-refusal _ _ _ e) (checked-mark _ _ _ e)
    (λ z. let h = positive c.in_err-c.field-0.0 in omega (arith, h, z))

pub returns-then-place-c : goal.returns-then-place-c
returns-then-place-c c =
    let a = c.args in
    let e = passed (goal.at.returns-then-place-c c).In_ok-c in
    let k = checked-kept _ _ _ e refl in
    locate-13 a.key.now a.f.now a.place.0 (sym (checked-refusal _ _ _ e)) (omega (arith, k, c.if-place-c))

pub header_in-h-requires : goal.header_in-h-requires
header_in-h-requires c =
    let w = (accepted _ _ (sym (checked-refusal _ _ _ (passed (goal.at.header_in-h-requires c).In_ok-c)))).front in omega (arith, w)

pub returns : goal.returns
returns c =
    let a = c.args in
    let e = passed (goal.at.returns c).In_ok-c in
    let k = checked-kept _ _ _ e refl in
    locate-0 a.key.now a.f.now a.place.0 (sym (checked-refusal _ _ _ e)) (omega (arith, k, c.if-place-c)) _
    (ap (λ (n : ℕ). c.header_in-h.result.index + n) c.index_length.ensures
    ∙ ap (λ (x : Header). x.index + entry_length * a.place.0) c.header_in-h.ensures)
