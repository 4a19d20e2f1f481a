-- What it means that a step can be undone.
-- Assumes nothing.
use Rattle.std.specs.Prelude.{◌≡◌}
use Rattle.permutation.specs.State.{State, IsState}

-- on the states of the core f and g undo each other
pub record Inverses (f g : State → State) : Type 0 where
  -- both lead from states to states
  pub done : (s : State) → IsState s → IsState (f s)
  pub undone : (s : State) → IsState s → IsState (g s)
  -- undone after done
  pub back : (s : State) → IsState s → g (f s) ≡ s
  -- done after undone
  pub forth : (s : State) → IsState s → f (g s) ≡ s
