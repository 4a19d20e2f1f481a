-- `burst::seal_part` meets its contract: every length is right, so that the cipher's call is done.
-- Assumes nothing.
use mathlib.Core.List.{◌++◌}
use mathlib.Core.Path.{◌∙◌}
use native.Mathlib.Omega.{arith}
use lib.ListN.{length-append}
use Rattle.burst.proofs.Parts.{part-done, part-put}
use Rattle.burst.proofs.seal_part.Goals as goal

pub unwrap-requires : goal.unwrap-requires
unwrap-requires c =
    let a = c.args in
    let p = c.requires in
    part-done a.e a.key.now a.name a.shot.0 (omega arith) _ c.nonce_of-nonce.ensures (a.first.now ++ a.second.now)
    (rw length-append (omega (arith, p))) a.mark.now a.body.now a.out.now p.0 p.2 p.3 _ c.seal.ensures.answer

pub returns : goal.returns
returns c =
    let a = c.args in
    let p = c.requires in
    c.seal.ensures.output
    ∙ part-put a.e a.key.now a.name a.shot.0 (omega arith) _ c.nonce_of-nonce.ensures (a.first.now ++ a.second.now)
    (rw length-append (omega (arith, p))) a.mark.now a.body.now a.out.now p.0 p.2 p.3
