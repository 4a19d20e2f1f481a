-- `rounds_back::rho_back` meets its contract: each column is what `rotate_column` ensures, at the rests; that of the first word is 0 in place of 64.
-- Assumes nothing.
use mathlib.Core.List.{[], ◌∷◌}
use mathlib.Core.Path.{ap, ◌∙◌}
use Prim.Native.Nat.{ℕ}
use Rattle.permutation.specs.State.{State, at, set_word}
use Rattle.rounds_back.specs.Inverse.{ρ⁻¹}
use Rattle.rounds_back.proofs.Turning.{whole-circle}
use Rattle.rounds_back.proofs.rho_back.Goals as goal

pub returns : goal.returns
returns c =
    let s : State = c.args.s in
    (λ i. c.rotate_column.ensures i ∷ c.rotate_column-2.ensures i ∷ c.rotate_column-3.ensures i ∷ c.rotate_column-4.ensures i ∷ [])
    ∙ ap (λ (w : ℕ). set_word (ρ⁻¹ s) 0 0 w) (whole-circle (at s 0 0))
