-- `icepole_c::strip` meets its contract: by what a strip in place leaves of the lent bytes, where the state is long enough.
-- Assumes nothing.
use mathlib.Core.Path.{refl, sym}
use native.Mathlib.Omega.{arith}
use Rattle.strips.proofs.Answers.{nonzero}
use Rattle.strips.proofs.Numbers.{strip-fits}
use Rattle.icepole_c.proofs.StripCalls.{strip-done, strip-refused, strip-short}
use Rattle.icepole_c.proofs.strip.Goals as goal

pub returns-then-state-lt-STRIP_STATE_LENGTH : goal.returns-then-state-lt-STRIP_STATE_LENGTH
returns-then-state-lt-STRIP_STATE_LENGTH c =
    let a = c.args in
    rw c.number.ensures (strip-short a.state.now a.message.now a.out.now c.if-state-lt-STRIP_STATE_LENGTH.true)

pub returns-in-Err : goal.returns-in-Err
returns-in-Err c =
    let a = c.args in
    let q = c.in-Err.ensures in
    let f = c.in-Some.ensures.cases.same in
    rw c.number-in-Err.ensures
    (strip-refused a.state.now a.message.now a.out.now c.if-state-lt-STRIP_STATE_LENGTH.false _ c.load_u64-count.ensures.0 _ q.number _ _ _ (rw f at q.state) refl
    (rw f at q.output) (nonzero c.in-Err.refusal))

pub overflow_add-count : goal.overflow_add-count
overflow_add-count c = let w = strip-fits _ _ _ _ (sym c.in_default-fed.ensures.number) in omega (arith, w.sum)

pub returns : goal.returns
returns c =
    let a = c.args in
    let q = c.in_default-fed.ensures in
    let f = c.in-Some.ensures.cases.same in
    strip-done a.state.now a.message.now a.out.now c.if-state-lt-STRIP_STATE_LENGTH.false _ c.load_u64-count.ensures.0 _ q.number _ _ _ (rw f at q.state) refl
    (rw f at q.output) refl _ c.store_u64.ensures.1
