-- `strips::start_into` meets its contract: what `may_start` turns down is the answer; else all that `seal_ready` wants is so.
-- Assumes nothing.
use mathlib.Core.Path.{sym, ap, ◌∙◌}
use native.Mathlib.Omega.{arith}
use borrow.Author.Rules.{rules}
use mathlib.Core.Bool.{false}
use Prim.Native.Nat.{ℕ}
use Rattle.strips.specs.declared.StripState.{StripState}
use Rattle.state_bytes.proofs.Lengths.{length-bytes}
use Rattle.icepole.specs.declared.Variant.TheVariants.{Icepole128}
use Rattle.icepole.proofs.Bounds.{bounded-by}
use Rattle.strips.proofs.Answers.{nonzero, passed, start-done, start-refused, told}
use Rattle.strips.proofs.Numbers.{start-fits-by}
use Rattle.strips.specs.Answers.{call_as, not_started}
use Rattle.strips.proofs.Turns.{stored}
use Rattle.strips.proofs.start_into.Goals as goal

pub returns-in_err-may_start-clause-answer : goal.returns-in_err-may_start-clause-answer
returns-in_err-may_start-clause-answer c =
    let a = c.args in
    let m = c.in_err-may_start.ensures in
    ap (call_as c.from_residual.result) c.requires ∙ passed _ _ not_started c.from_residual.ensures.1 m.mark
    ∙ (start-refused a.x.key.now a.x.nonce.now a.secret.now a.x.first.now a.x.second.now a.out.now _ (rw c.lengths.ensures at m.number) (nonzero _)).0

pub returns-in_err-may_start-clause-output : goal.returns-in_err-may_start-clause-output
returns-in_err-may_start-clause-output c =
    let a = c.args in
    let m = c.in_err-may_start.ensures in
    (start-refused a.x.key.now a.x.nonce.now a.secret.now a.x.first.now a.x.second.now a.out.now _ (rw c.lengths.ensures at m.number) (nonzero c.in_err-may_start.field-0.0)).1

pub seal_ready-requires : goal.seal_ready-requires
seal_ready-requires c =
    let q = c.sizes_of-q in
    let w = start-fits-by _ _ q.ensures _ _ _ _ _ (sym (rw c.lengths.ensures at c.in_ok-may_start.ensures.number)) in
    (bounded-by Icepole128 _ q.ensures, w.key, w.nonce, w.secret, w.associated, omega (arith, w.out))

pub returns-clause-answer : goal.returns-clause-answer
returns-clause-answer c =
    let a = c.args in
    ap (λ (n : ℕ). told 0 c.sizes_of-q.result.secret (record { bytes = c.store_state.new.b; count = n; finished = false }))
    (ap (λ (s : StripState). s.count) c.requires)
    ∙ (start-done a.x.key.now a.x.nonce.now a.secret.now a.x.first.now a.x.second.now a.out.now (rw c.lengths.ensures at c.in_ok-may_start.ensures.number) _ c.sizes_of-q.ensures
    _ _ (stored _ _ _ c.store_state.ensures (length-bytes _) (search rules) ∙ c.seal_ready.ensures.0) c.seal_ready.ensures.1).0

pub returns-clause-output : goal.returns-clause-output
returns-clause-output c =
    let a = c.args in
    (start-done a.x.key.now a.x.nonce.now a.secret.now a.x.first.now a.x.second.now a.out.now (rw c.lengths.ensures at c.in_ok-may_start.ensures.number) _ c.sizes_of-q.ensures
    _ _ (stored _ _ _ c.store_state.ensures (length-bytes _) (search rules) ∙ c.seal_ready.ensures.0) c.seal_ready.ensures.1).1
