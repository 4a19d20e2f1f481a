-- `burst::verify_part` meets its contract.
-- Assumes nothing.
use mathlib.Core.List.{◌++◌}
use mathlib.Core.Path.{◌∙◌}
use native.Mathlib.Omega.{arith}
use lib.ListN.{length-append}
use Rattle.burst.proofs.Parts.{part-verified}
use Rattle.burst.proofs.verify_part.Goals as goal

pub returns : goal.returns
returns c =
    let a = c.args in
    let p = c.requires in
    c.verify.ensures
    ∙ part-verified a.e a.key.now a.name a.shot.0 p.0 _ c.nonce_of-nonce.ensures (a.first.now ++ a.second.now)
    (rw length-append (omega (arith, p))) a.sealed.now p.2 p.3
