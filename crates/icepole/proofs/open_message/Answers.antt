-- `icepole::open_message` meets its contract: by the answer of `open_verified`; where nothing is turned down, the message is written.
-- Assumes nothing.
use mathlib.Core.Path.{refl}
use mathlib.Core.List.{◌++◌}
use native.Mathlib.Omega.{arith}
use lib.ListN.{length}
use Rattle.icepole.specs.Answers.{fits_output}
use Rattle.refusals.proofs.Laws.{positive}
use Rattle.icepole.proofs.Answers.{answer-by, decrypted, has_room, open_stays, to-decrypt}
use Rattle.icepole.proofs.Bounds.{bounded-by}
use Rattle.icepole.proofs.open_message.Goals as goal

pub returns-in_err-released-clause-output : goal.returns-in_err-released-clause-output
returns-in_err-released-clause-output c =
    let a = c.args in
    let e = answer-by a.v _ c.sizes_of-q.ensures a.x.key.now a.x.nonce.now (a.x.first.now ++ a.x.second.now) a.sealed.now a.out.now _ c.message_fits-fits.ensures
    _ c.in_err-released.ensures.answer in
    open_stays a.v a.x.key.now a.x.nonce.now (a.x.first.now ++ a.x.second.now) a.sealed.now (fits_output a.v a.sealed.now a.out.now) _ e
    (λ z. let h = positive c.in_err-released.field-0.0 in omega (arith, h, z)) a.out.now

pub decrypt_message-requires : goal.decrypt_message-requires
decrypt_message-requires c =
    let a = c.args in
    let q = c.sizes_of-q in
    let h = bounded-by a.v _ q.ensures in
    let e = answer-by a.v _ q.ensures a.x.key.now a.x.nonce.now (a.x.first.now ++ a.x.second.now) a.sealed.now a.out.now _ c.message_fits-fits.ensures
    _ c.in_ok-released.ensures.answer in
    let w = to-decrypt a.v _ q.ensures h _ _ _ a.sealed.now _ _ e refl in
    (w.0, w.1, w.2, has_room a.v _ q.ensures h _ _ _ a.sealed.now _ _ e refl (length a.out.now) refl)

pub returns-clause-output : goal.returns-clause-output
returns-clause-output c =
    let a = c.args in
    let q = c.sizes_of-q in
    let e = answer-by a.v _ q.ensures a.x.key.now a.x.nonce.now (a.x.first.now ++ a.x.second.now) a.sealed.now a.out.now _ c.message_fits-fits.ensures
    _ c.in_ok-released.ensures.answer in
    decrypted a.v _ q.ensures (bounded-by a.v _ q.ensures) _ _ _ a.sealed.now _ _ e refl _ a.out.now _ (c.in_ok-released.ensures.ready refl) c.decrypt_message.ensures
