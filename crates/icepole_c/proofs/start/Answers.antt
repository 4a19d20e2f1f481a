-- `icepole_c::start` meets its contract: by what start answers, where the state is long enough.
-- Assumes nothing.
use mathlib.Core.Path.{refl}
use mathlib.Core.List.{◌++◌}
use Rattle.strips.proofs.Answers.{nonzero, start-number-of}
use Rattle.icepole_c.proofs.StripCalls.{start-called, start-short, start-short-refused}
use Rattle.icepole_c.proofs.start.Goals as goal

pub returns-in-Err : goal.returns-in-Err
returns-in-Err c =
    let a = c.args in
    rw c.number.ensures
    (start-short-refused a.key.now a.nonce.now a.secret.now (a.first.now ++ a.second.now) a.out.now a.state.now
    c.if-state-lt-STRIP_STATE_LENGTH.true _
    (start-number-of a.key.now a.nonce.now a.secret.now a.first.now a.second.now a.out.now _ (rw c.lengths.ensures at c.in-Err.ensures.number)) (nonzero c.in-Err.refusal))

pub returns-then-state-lt-STRIP_STATE_LENGTH : goal.returns-then-state-lt-STRIP_STATE_LENGTH
returns-then-state-lt-STRIP_STATE_LENGTH c =
    let a = c.args in
    rw c.number-then-state-lt-STRIP_STATE_LENGTH.ensures
    (start-short a.key.now a.nonce.now a.secret.now (a.first.now ++ a.second.now) a.out.now a.state.now
    c.if-state-lt-STRIP_STATE_LENGTH.true 0
    (start-number-of a.key.now a.nonce.now a.secret.now a.first.now a.second.now a.out.now 0 (rw c.lengths.ensures at c.in_default.ensures.number)) refl)

pub returns : goal.returns
returns c =
    let a = c.args in
    let e = c.start-started.ensures in
    rw c.number_of.ensures
    (start-called a.key.now a.nonce.now a.secret.now (a.first.now ++ a.second.now) a.out.now a.state.now c.if-state-lt-STRIP_STATE_LENGTH.false
    _ e.answer _ e.output _ c.put_strip_state.ensures)
