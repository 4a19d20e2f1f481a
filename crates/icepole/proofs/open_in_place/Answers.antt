-- `icepole::open_in_place` meets its contract: by the answer of `open_verified`; where nothing is turned down, the message is written.
-- Assumes nothing.
use mathlib.Core.Bool.{true}
use mathlib.Core.Path.{refl}
use mathlib.Core.List.{◌++◌}
use native.Mathlib.Omega.{arith}
use Rattle.refusals.proofs.Laws.{positive}
use Rattle.icepole.proofs.Answers.{decrypted, open_stays, to-decrypt}
use Rattle.icepole.proofs.Bounds.{bounded-by}
use Rattle.icepole.proofs.open_in_place.Goals as goal

pub returns-in_err-released-clause-output : goal.returns-in_err-released-clause-output
returns-in_err-released-clause-output c =
    let a = c.args in
    open_stays a.v a.x.key.now a.x.nonce.now (a.x.first.now ++ a.x.second.now) a.buffer.now true _ c.in_err-released.ensures.answer
    (λ z. let h = positive c.in_err-released.field-0.0 in omega (arith, h, z)) a.buffer.now

pub decrypt_in_place-requires : goal.decrypt_in_place-requires
decrypt_in_place-requires c =
    let a = c.args in
    let q = c.sizes_of-q in
    to-decrypt a.v _ q.ensures (bounded-by a.v _ q.ensures) _ _ _ a.buffer.now true _ c.in_ok-released.ensures.answer refl

pub returns-clause-output : goal.returns-clause-output
returns-clause-output c =
    let a = c.args in
    let q = c.sizes_of-q in
    let o = c.in_ok-released.ensures in
    decrypted a.v _ q.ensures (bounded-by a.v _ q.ensures) _ _ _ a.buffer.now true _ o.answer refl _ a.buffer.now _ (o.ready refl) c.decrypt_in_place.ensures
