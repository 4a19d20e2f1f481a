-- The rows that the code makes, times the state, are mu undone.
-- Assumes nothing.
use mathlib.Core.Path.{◌≡◌}
use mathlib.Core.List.{[], ◌∷◌}
use Rattle.permutation.specs.State.{State}
use Rattle.permutation.specs.Words.{Column}
use Rattle.rounds_back.specs.Inverse.{μ⁻¹}
use Rattle.rounds_back.specs.Words.{row_words}

pub mu-back-agrees : (s : State) (a b c d : Column)
    → a ≡ row_words (21 ∷ 14 ∷ 14 ∷ 14 ∷ []) s → b ≡ row_words (14 ∷ 4 ∷ 20 ∷ 12 ∷ []) s
    → c ≡ row_words (14 ∷ 12 ∷ 4 ∷ 20 ∷ []) s → d ≡ row_words (14 ∷ 20 ∷ 12 ∷ 4 ∷ []) s
    → (a ∷ b ∷ c ∷ d ∷ []) ≡ μ⁻¹ s
unfolding μ⁻¹
mu-back-agrees s a b c d ea eb ec ed i = ea i ∷ eb i ∷ ec i ∷ ed i ∷ []
