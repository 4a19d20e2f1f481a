-- `icepole_c::open_in_place` meets its contract: where the further slice is long enough, by what opening in place answers; the message fits.
-- Assumes nothing.
use mathlib.Core.Path.{sym, ap, ◌∙◌}
use mathlib.Core.Bool.{Bool}
use mathlib.Core.List.{◌++◌}
use native.Mathlib.Omega.{arith}
use Rattle.icepole.specs.Answers.{open_answer, open_output}
use Rattle.icepole.proofs.Answers.{fits-itself}
use Rattle.icepole_c.proofs.Returned.{long-call, short-call}
use Rattle.icepole_c.proofs.open_in_place.Goals as goal

pub returns-then-info-secret_length : goal.returns-then-info-secret_length
returns-then-info-secret_length c =
    let a = c.args in
    let h = rw c.sizes_of-secret_length.ensures at c.if-info-secret_length.true in
    let m = c.may_open.ensures in
    rw c.number_of.ensures
    (short-call a.v a.key.now a.nonce.now a.first.now a.second.now a.buffer.now a.buffer.now a.info.now _ (omega (arith, h)) (rw c.lengths.ensures at m.number) m.mark)

pub returns : goal.returns
returns c =
    let m = c.open_in_place-opened.ensures in
    let a = c.args in
    let f = sym (fits-itself a.v a.buffer.now) in
    long-call a.v _ c.sizes_of-secret_length.ensures a.key.now a.nonce.now (a.first.now ++ a.second.now) a.buffer.now a.buffer.now a.info.now
    c.if-info-secret_length.false _
    (m.answer ∙ ap (open_answer a.v a.key.now a.nonce.now (a.first.now ++ a.second.now) a.buffer.now) f) _
    (m.output ∙ ap (λ (b : Bool). open_output a.v a.key.now a.nonce.now (a.first.now ++ a.second.now) a.buffer.now b a.buffer.now) f) _
    c.number_of-2.ensures _ c.put_info.ensures
