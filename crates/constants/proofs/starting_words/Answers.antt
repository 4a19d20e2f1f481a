-- `constants::starting_words` meets its contract. The loop's invariant: the columns before x are done.
-- Assumes nothing.
use mathlib.Core.Path.{sym, ap, ◌∙◌}
use mathlib.Core.List.{[], ◌∷◌}
use Prim.Native.Nat.{ℕ, ◌+◌, ◌*◌}
use native.Mathlib.Nat.{add-zero}
use borrow.Author.Rules.{rules}
use Rattle.bits.specs.Bits.{number}
use Rattle.constants.specs.Keccak.{StateArray}
use Rattle.constants.specs.Tables.{lane, words_from_lanes, starting_words}
use Rattle.constants.proofs.Lists.{filled_next, filled-all}
use Rattle.constants.proofs.starting_words.Invariants.{column}
use Rattle.constants.proofs.starting_words.Goals as goal

pub loop-x-preserved : goal.loop-x-preserved
loop-x-preserved c =
    let a : StateArray = c.keccak_f-a.result in
    let x : ℕ = c.loop-x.x in
    let first = c.lane.ensures ∙ ap (lane a) (sym (add-zero (5 * (x + 1)))) in
    filled_next 4 (column a) _ x _ _ (search rules)
    (λ i.
    first i
    ∷ c.lane-in-loop-x.ensures i
    ∷ c.lane-in-loop-x-2.ensures i
    ∷ c.lane-in-loop-x-3.ensures i
    ∷ c.lane-in-loop-x-4.ensures i
    ∷ [])
    c.loop-x.invariant

pub returns : goal.returns
unfolding number starting_words
returns c =
    filled-all 4 (column c.keccak_f-a.result) _ _ _ c.loop-x-test.false c.loop-x.invariant
    ∙ ap words_from_lanes c.keccak_f-a.ensures
