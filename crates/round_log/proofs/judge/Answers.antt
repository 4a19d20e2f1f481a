-- `round_log::judge` meets its contract. The loop's invariant: the verdict on the rounds from i on is the verdict on all.
-- Assumes nothing.
use mathlib.Core.Path.{◌≡◌, sym, ap₂, ◌∙◌}
use mathlib.Core.Bool.{Bool, true, false, cond}
use Prim.Native.Nat.{◌+◌, ◌-◌}
use native.Mathlib.Omega.{arith}
use Rattle.round_log.specs.RoundLog.{judged, Differs}
use Rattle.round_log.proofs.Judging.{judged-by}
use Rattle.round_log.proofs.judge.Goals as goal
use Rattle.round_log.proofs.judge.Goals.{After-ne}

-- the verdict on all, once round i is compared
compared : (c : After-ne) → let a = c.args in
    (d : Bool) → c.ne.result ≡ d
    → cond d (Differs c.loop-i.i) (judged a.log.now (c.loop-i.i + 1) (a.r - (c.loop-i.i + 1))) ≡ judged a.log.now 0 a.r
compared c d e =
    let a = c.args in
    judged-by a.log.now a.r c.loop-i.i (omega arith) _ _ _
    c.state_at-before.ensures c.round_at-expected.ensures c.state_at-after.ensures d (sym e ∙ c.ne.ensures)
    ∙ c.loop-i.invariant.1

pub loop-i-preserved : goal.loop-i-preserved
loop-i-preserved c = (omega arith, compared (goal.at.loop-i-preserved c).After-ne false c.if-ne.false)

pub returns-then-ne : goal.returns-then-ne
returns-then-ne c = compared (goal.at.returns-then-ne c).After-ne true c.if-ne.true

pub returns : goal.returns
unfolding judged
returns c =
    let a = c.args in
    let e : c.loop-i.i ≡ a.r = omega arith in
    let z : a.r - c.loop-i.i ≡ 0 = omega arith in
    sym (ap₂ (judged a.log.now) e z) ∙ c.loop-i.invariant.1
