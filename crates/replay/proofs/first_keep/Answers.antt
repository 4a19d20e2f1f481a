-- `replay::first_keep` meets its contract.
-- Assumes nothing.
use mathlib.Core.Path.{sym}
use native.Mathlib.Omega.{arith}
use Rattle.replay.proofs.Scripts.{first-cut, keep-first}
use Rattle.replay.proofs.first_keep.Goals as goal

pub returns-then-script-lt-KEEP_FRONT : goal.returns-then-script-lt-KEEP_FRONT
returns-then-script-lt-KEEP_FRONT c = sym (first-cut c.args.script.now (λ z. omega (arith, z, c.requires)) c.requires.1 (omega arith))

pub returns-then-script-end : goal.returns-then-script-end
returns-then-script-end c =
    sym (first-cut c.args.script.now (λ z. omega (arith, z, c.requires)) c.requires.1 (omega (arith, c.load_le.ensures.0, c.load_le-2.ensures.0)))

pub returns : goal.returns
returns c =
    keep-first c.args.script.now (λ z. omega (arith, z, c.requires)) c.requires.1 _ _ _ _ c.load_le.ensures.0 c.load_le-2.ensures.0 (omega arith) (omega arith)
    c.if-script-end.false
