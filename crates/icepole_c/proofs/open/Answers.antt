-- `icepole_c::open` meets its contract: where the further slice is long enough, by what opening answers.
-- Assumes nothing.
use mathlib.Core.List.{◌++◌}
use native.Mathlib.Omega.{arith}
use Rattle.icepole_c.proofs.Returned.{long-call, short-call}
use Rattle.icepole_c.proofs.open.Goals as goal

pub returns-then-info-n : goal.returns-then-info-n
returns-then-info-n c =
    let a = c.args in
    let h = rw c.sizes_of-n.ensures at c.if-info-n.true in
    let m = c.may_open.ensures in
    rw c.number_of.ensures
    (short-call a.v a.key.now a.nonce.now a.first.now a.second.now a.sealed.now a.out.now a.info.now _ (omega (arith, h)) (rw c.lengths.ensures at m.number) m.mark)

pub returns : goal.returns
returns c =
    let m = c.open_message-opened.ensures in
    let a = c.args in
    long-call a.v _ c.sizes_of-n.ensures a.key.now a.nonce.now (a.first.now ++ a.second.now) a.sealed.now a.out.now a.info.now
    c.if-info-n.false _ m.answer _ m.output _ c.number_of-2.ensures _ c.put_info.ensures
