-- `icepole::seal` meets its contract: by what `may_seal` answers, which where nothing is turned down tells all that `seal_into` wants.
-- Assumes nothing.
use mathlib.Core.Path.{sym, ap, ◌∙◌}
use Rattle.refusals.proofs.Laws.{passed-on}
use Rattle.icepole.specs.Answers.{sealed_as}
use Rattle.icepole.proofs.Answers.{seal-done, seal-refused}
use Rattle.icepole.proofs.Bounds.{bounded}
use Rattle.icepole.proofs.Numbers.{seal-fits}
use Rattle.icepole.proofs.seal.Goals as goal

pub returns-in_err-may_seal-clause-answer : goal.returns-in_err-may_seal-clause-answer
returns-in_err-may_seal-clause-answer c =
    let a = c.args in
    let m = c.in_err-may_seal.ensures in
    ap sealed_as (passed-on _ _ c.from_residual.ensures.1)
    ∙ (seal-refused a.v a.x.key.now a.x.nonce.now a.secret.now a.x.first.now a.x.second.now a.message.now a.out.now _ (rw c.lengths.ensures at m.number) m.mark).0

pub returns-in_err-may_seal-clause-output : goal.returns-in_err-may_seal-clause-output
returns-in_err-may_seal-clause-output c =
    let a = c.args in
    let m = c.in_err-may_seal.ensures in
    (seal-refused a.v a.x.key.now a.x.nonce.now a.secret.now a.x.first.now a.x.second.now a.message.now a.out.now _ (rw c.lengths.ensures at m.number) m.mark).1

pub seal_into-requires : goal.seal_into-requires
seal_into-requires c =
    let w = seal-fits _ _ _ _ _ _ _ (sym (rw c.lengths.ensures at c.in_ok-may_seal.ensures.number)) in
    rw c.sizes_of-q.ensures (bounded c.args.v, w.key, w.nonce, w.secret, w.associated, w.out)

pub returns-clause-answer : goal.returns-clause-answer
returns-clause-answer c =
    let a = c.args in
    rw c.sizes_of-q.ensures
    (seal-done a.v a.x.key.now a.x.nonce.now a.secret.now a.x.first.now a.x.second.now a.message.now a.out.now (rw c.lengths.ensures at c.in_ok-may_seal.ensures.number) _ (rw c.sizes_of-q.ensures at c.seal_into.ensures)).0

pub returns-clause-output : goal.returns-clause-output
returns-clause-output c =
    let a = c.args in
    (seal-done a.v a.x.key.now a.x.nonce.now a.secret.now a.x.first.now a.x.second.now a.message.now a.out.now (rw c.lengths.ensures at c.in_ok-may_seal.ensures.number) _ (rw c.sizes_of-q.ensures at c.seal_into.ensures)).1
