-- `permutation::mu` meets its contract: each row is what the calls on its line ensure, and the rows agree with the matrix.
-- Assumes nothing.
use mathlib.Core.Path.{ap, ap₂, ◌∙◌}
use mathlib.Core.List.{[], ◌∷◌}
use lib.ListN.{get_or}
use Rattle.permutation.specs.State.{State}
use Rattle.permutation.specs.Words.{Column, sum_words}
use Rattle.permutation.proofs.Bounds.{words}
use Rattle.permutation.proofs.Matrix.{mu-agrees}
use Rattle.permutation.proofs.mu.Goals as goal

pub returns : goal.returns
returns c =
    let s : State = c.args.s in
    let z₀ : Column = get_or s 0 [] in
    let z₁ : Column = get_or s 1 [] in
    let z₂ : Column = get_or s 2 [] in
    let z₃ : Column = get_or s 3 [] in
    let row0 = c.sum-row0.ensures ∙ ap (λ (p : Column). sum_words p z₁ z₂ z₃) c.twice.ensures in
    let row1 = c.sum-row1.ensures
    ∙ ap₂ (λ (p q : Column). sum_words z₀ z₁ p q) c.times18.ensures c.twice-2.ensures in
    let row2 = c.sum-row2.ensures
    ∙ ap₂ (λ (p q : Column). sum_words z₀ p z₂ q) c.twice-3.ensures c.times18-2.ensures in
    let row3 = c.sum-row3.ensures ∙ ap₂ (λ (p q : Column). sum_words z₀ p q z₃) c.times18-3.ensures c.twice-4.ensures in
    (λ i. row0 i ∷ row1 i ∷ row2 i ∷ row3 i ∷ []) ∙ mu-agrees s (words s _ c.well_formed.0)
