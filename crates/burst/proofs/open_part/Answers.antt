-- `burst::open_part` meets its contract.
-- Assumes nothing.
use mathlib.Core.List.{◌++◌}
use mathlib.Core.Path.{◌∙◌}
use native.Mathlib.Omega.{arith}
use lib.ListN.{length-append}
use Rattle.burst.proofs.Parts.{part-opened, part-written}
use Rattle.burst.proofs.open_part.Goals as goal

pub returns-clause-answer : goal.returns-clause-answer
returns-clause-answer c =
    let a = c.args in
    let p = c.requires in
    c.open_message.ensures.answer
    ∙ part-opened a.e a.key.now a.name a.shot.0 p.0 _ c.nonce_of-nonce.ensures (a.first.now ++ a.second.now)
    (rw length-append (omega (arith, p))) a.sealed.now p.2 p.3 a.out.now p.4

pub returns-clause-output : goal.returns-clause-output
returns-clause-output c =
    let a = c.args in
    let p = c.requires in
    c.open_message.ensures.output
    ∙ part-written a.e a.key.now a.name a.shot.0 p.0 _ c.nonce_of-nonce.ensures (a.first.now ++ a.second.now)
    (rw length-append (omega (arith, p))) a.sealed.now p.2 p.3 a.out.now p.4
