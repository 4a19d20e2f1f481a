-- `replay::first_call` meets its contract.
-- Assumes nothing.
use mathlib.Core.Path.{sym, ap, ◌∙◌}
use native.Mathlib.Omega.{arith}
use Rattle.replay.specs.Replay.{first_as}
use Rattle.replay.proofs.Scripts.{no-byte, first-byte, first-end, first-drop, first-close, first-other}
use Rattle.replay.proofs.first_call.Goals as goal

pub returns-in_err-first : goal.returns-in_err-first
returns-in_err-first c = ap first_as c.from_residual.ensures ∙ sym (first-end c.args.script.now (no-byte c.args.script.now c.in_err-first.ensures.value))

pub first_keep-requires : goal.first_keep-requires
first_keep-requires c = let b = first-byte c.args.script.now _ c.in_ok-first.ensures.value in (let n = b.0 in omega (arith, n), b.1 ∙ c.in-2.is)

pub returns-in-0 : goal.returns-in-0
returns-in-0 c =
    let b = first-byte c.args.script.now _ c.in_ok-first.ensures.value in sym (first-drop c.args.script.now b.0 (b.1 ∙ c.in-0.is))

pub returns-in-1 : goal.returns-in-1
returns-in-1 c =
    let b = first-byte c.args.script.now _ c.in_ok-first.ensures.value in sym (first-close c.args.script.now b.0 (b.1 ∙ c.in-1.is))

pub returns-in_default : goal.returns-in_default
returns-in_default c =
    let b = first-byte c.args.script.now _ c.in_ok-first.ensures.value in
    sym (first-other c.args.script.now b.0 (λ z. omega (arith, z, b.1, c.in_default)) (λ z. omega (arith, z, b.1, c.in_default)) (λ z. omega (arith, z, b.1, c.in_default)))
