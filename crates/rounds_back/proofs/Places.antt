-- π undone: every word comes back to its place, by computing.
-- Assumes nothing.
use mathlib.Core.Path.{sym, ap, ◌∙◌}
use Prim.Native.Nat.{ℕ, ◌+◌, ◌*◌, ◌%◌}
use Rattle.permutation.specs.State.{State}
use Rattle.permutation.specs.Permutation.{x', y', π}
use Rattle.rounds_back.specs.Inverse.{π⁻¹}
use Rattle.rounds_back.specs.Inverses.{Inverses}

-- where the word that π brings to the place (x, y) comes from: y = (y' - x' - 1) mod 5, and x = (x' - y) mod 4
abbrev from-y : ℕ → ℕ → ℕ
from-y x y = (y + 4 * (x + 1)) % 5

abbrev from-x : ℕ → ℕ → ℕ
from-x x y = (x + 3 * from-y x y) % 4

pub pi-inverse : Inverses π π⁻¹
pi-inverse =
    record {
      done = λ s w. (λ x y. w.0 (from-x x y) (from-y x y), λ x y. w.1 (from-x x y) (from-y x y), ap π w.2);
      undone = λ s w. (λ x y. w.0 (x' x y) (y' x y), λ x y. w.1 (x' x y) (y' x y), ap π⁻¹ w.2);
      back = λ s w. ap (λ (t : State). π⁻¹ (π t)) w.2 ∙ sym w.2;
      forth = λ s w. ap (λ (t : State). π (π⁻¹ t)) w.2 ∙ sym w.2;
    }
