-- `strips::end_into` meets its contract: what `may_end` turns down is the answer; else the tag fits.
-- Assumes nothing.
use mathlib.Core.Path.{◌≡◌, refl, sym, ap, ◌∙◌}
use Prim.Native.Nat.{ℕ}
use native.Mathlib.Omega.{arith}
use lib.ListN.{length}
use borrow.Author.Rules.{rules}
use Rattle.bytes_le.specs.Bytes.{Bytes, put_bytes}
use Rattle.blocks.specs.Sealing.{tag}
use Rattle.strips.specs.Machine.{held, ended}
use Rattle.strips.proofs.Answers.{end-done, end_refused, nonzero, passed}
use Rattle.strips.proofs.Numbers.{end-room}
use Rattle.strips.proofs.Turns.{loaded}
use Rattle.strips.proofs.end_into.Goals as goal

pub returns-in_err-may_end-clause-answer : goal.returns-in_err-may_end-clause-answer
returns-in_err-may_end-clause-answer c =
    let a = c.args in
    let m = c.in_err-may_end.ensures in
    passed _ _ a.state.now c.from_residual.ensures.1 m.mark ∙ (end_refused a.state.now a.out.now _ m.number (nonzero _)).0

pub returns-in_err-may_end-clause-output : goal.returns-in_err-may_end-clause-output
returns-in_err-may_end-clause-output c =
    let a = c.args in
    let m = c.in_err-may_end.ensures in
    (end_refused a.state.now a.out.now _ m.number (nonzero c.in_err-may_end.field-0.0)).1

pub put_tag-requires : goal.put_tag-requires
put_tag-requires c =
    let h = end-room _ _ _ (sym c.in_ok-may_end.ensures.number) in
    omega (arith, h)

pub returns-clause-answer : goal.returns-clause-answer
returns-clause-answer c = let a = c.args in (end-done a.state.now a.out.now c.in_ok-may_end.ensures.number _ refl).0

pub returns-clause-output : goal.returns-clause-output
returns-clause-output c =
    let a = c.args in
    let b = a.state.now.bytes in
    let h : length b ≡ 160 = search rules in
    (end-done a.state.now a.out.now c.in_ok-may_end.ensures.number _
    (c.put_tag.ensures
    ∙ ap (λ (t : Bytes). put_bytes a.out.now 0 (tag t)) c.finish.ensures
    ∙ ap (λ (b : Bytes). put_bytes a.out.now 0 (ended (held b c.fill_of.result))) (loaded b _ c.load_state.ensures h)
    ∙ ap (λ (n : ℕ). put_bytes a.out.now 0 (ended (held b n))) c.fill_of.ensures.0)).1
