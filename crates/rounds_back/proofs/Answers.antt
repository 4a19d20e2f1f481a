-- The answers by cases.
-- Assumes nothing.
use mathlib.Core.Bool.{Bool, cond}
use mathlib.Core.Path.{◌≡◌, ap}
use Prim.Native.Nat.{ℕ, ◌≤◌, ◌<◌}
use borrow.Author.Tests.{le-ltb, lt-ltb}
use Rattle.permutation.specs.State.{State}
use Rattle.permutation.specs.Permutation.{max_rounds}
use Rattle.rounds_back.specs.Driven.{driven, driven_to, not_driven, ran}
use Rattle.rounds_back.specs.declared.Direction.{Direction}

module _ (direction : Direction) (s : State) (r : ℕ) where
  pub driven-within : r ≤ max_rounds → driven direction s r ≡ driven_to (ran direction r s)
  unfolding driven
  driven-within h = ap (λ (b : Bool). cond b not_driven (driven_to (ran direction r s))) (le-ltb max_rounds r h)

  pub driven-above : max_rounds < r → driven direction s r ≡ not_driven
  unfolding driven
  driven-above h = ap (λ (b : Bool). cond b not_driven (driven_to (ran direction r s))) (lt-ltb max_rounds r h)
