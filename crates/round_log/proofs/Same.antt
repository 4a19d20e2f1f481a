-- The library's equality of arrays is the test of the definitions: word by word, and column by column.
-- Assumes nothing.
use mathlib.Core.Path.{◌≡◌, refl, ◌∙◌}
use mathlib.Core.Bool.{Bool, true, false, cond, ◌&&◌}
use mathlib.Core.List.{List, [], ◌∷◌}
use Prim.Native.Nat.{ℕ}
use lib.Dec.{eqb}
use lib.Pointwise.{pointwise}
use Rattle.bytes_le.specs.Bytes.{same}
use Rattle.permutation.specs.State.{State}
use Rattle.round_log.specs.RoundLog.{same_state}

both : (b c d : Bool) → c ≡ d → (b && c) ≡ cond b d false
both true c d e = e
both false c d e = refl

columns-same : (a b : List ℕ) → pointwise eqb a b ≡ same a b
columns-same [] [] = refl
columns-same [] (y ∷ b) = refl
columns-same (x ∷ a) [] = refl
columns-same (x ∷ a) (y ∷ b) = both (eqb x y) (pointwise eqb a b) (same a b) (columns-same a b)

pub states-same : (s t : State) → pointwise (pointwise eqb) s t ≡ same_state s t
states-same [] [] = refl
states-same [] (b ∷ t) = refl
states-same (a ∷ s) [] = refl
states-same (a ∷ s) (b ∷ t) = (λ i. columns-same a b i && pointwise (pointwise eqb) s t) ∙ both (same a b) (pointwise (pointwise eqb) s t) (same_state s t) (states-same s t)
