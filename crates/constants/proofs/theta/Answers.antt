-- `constants::theta` meets its contract. The loop's invariant: the sheets before x are done.
-- Assumes nothing.
use mathlib.Core.Path.{ap, ap₂, ◌∙◌}
use mathlib.Core.List.{[]}
use Prim.Native.Nat.{ℕ}
use lib.ListN.{get_or}
use borrow.Author.Rules.{rules}
use Rattle.permutation.specs.Permutation.{rotl}
use Rattle.permutation.specs.Words.{◌⊻◌}
use Rattle.permutation.proofs.Bounds.{words}
use Rattle.constants.specs.Keccak.{StateArray}
use Rattle.constants.specs.Words.{xor_each}
use Rattle.constants.proofs.Lists.{filled_next, filled-all}
use Rattle.constants.proofs.Lanes.{theta-sheet, theta-agrees}
use Rattle.constants.proofs.theta.Goals as goal

pub loop-x-preserved : goal.loop-x-preserved
loop-x-preserved c =
    let a : StateArray = c.args.a in
    let sheet = c.xor_each.ensures
    ∙ ap₂ (λ (p q : ℕ). xor_each (get_or a c.loop-x.x []) (p ⊻ q)) c.parity.ensures
    (c.rotate.ensures ∙ ap (λ (w : ℕ). rotl w 1) c.parity-in-loop-x.ensures) in
    filled_next 5 (theta-sheet a) _ _ _ _ (search rules) sheet c.loop-x.invariant

pub returns : goal.returns
returns c =
    let a : StateArray = c.args.a in
    filled-all 5 (theta-sheet a) _ _ _ c.loop-x-test.false c.loop-x.invariant ∙ theta-agrees a (words a _ c.well_formed.0)
