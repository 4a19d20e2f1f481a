-- `icepole::open_verified` meets its contract: what `may_open` turns down is the answer; else the tag decides.
-- Assumes nothing.
use mathlib.Core.Path.{sym, ap, ◌∙◌}
use Rattle.refusals.proofs.Laws.{passed-on}
use Rattle.icepole.specs.Answers.{opened_as}
use Rattle.icepole.proofs.Answers.{agrees-by, open-differs, open_done, open-refused}
use Rattle.icepole.proofs.Bounds.{bounded}
use Rattle.icepole.proofs.Numbers.{open-fits}
use Rattle.icepole.proofs.open_verified.Goals as goal

pub returns-in_err-may_open-clause-answer : goal.returns-in_err-may_open-clause-answer
returns-in_err-may_open-clause-answer c =
    let a = c.args in
    let m = c.in_err-may_open.ensures in
    ap opened_as (passed-on _ _ c.from_residual.ensures.1)
    ∙ open-refused a.v a.x.key.now a.x.nonce.now a.x.first.now a.x.second.now a.sealed.now a.fits _ (rw c.lengths.ensures at m.number) m.mark

pub verify_sealed-agrees-requires : goal.verify_sealed-agrees-requires
verify_sealed-agrees-requires c =
    let h = bounded c.args.v in
    let w = open-fits _ _ _ _ _ _ _ (sym (rw c.lengths.ensures at c.in_ok-may_open.ensures.number)) in
    rw c.sizes_of-q.ensures (h, w.key, w.nonce, w.associated, w.sealed, h.secret)

pub returns-then-not-agrees-clause-answer : goal.returns-then-not-agrees-clause-answer
returns-then-not-agrees-clause-answer c =
    let a = c.args in
    let t = agrees-by a.v _ c.sizes_of-q.ensures _ _ _ _ _ c.verify_sealed-agrees.ensures.0 in
    open-differs a.v a.x.key.now a.x.nonce.now a.x.first.now a.x.second.now a.sealed.now a.fits (rw c.lengths.ensures at c.in_ok-may_open.ensures.number) (sym t ∙ c.if-not-agrees.true)

pub overflow_sub-result : goal.overflow_sub-result
overflow_sub-result c =
    let w = open-fits _ _ _ _ _ _ _ (sym (rw c.lengths.ensures at c.in_ok-may_open.ensures.number)) in
    rw c.sizes_of-q.ensures w.sealed

pub returns-clause-answer : goal.returns-clause-answer
returns-clause-answer c =
    let a = c.args in
    let o = c.verify_sealed-agrees in
    let t = agrees-by a.v _ c.sizes_of-q.ensures _ _ _ _ _ o.ensures.0 in
    rw c.sizes_of-q.ensures
    (open_done a.v a.x.key.now a.x.nonce.now a.x.first.now a.x.second.now a.sealed.now a.fits (rw c.lengths.ensures at c.in_ok-may_open.ensures.number) (sym t ∙ c.if-not-agrees.false) _
    (rw c.sizes_of-q.ensures at o.ensures.2))
