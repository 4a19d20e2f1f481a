-- The permutation, many times over.
-- Assumes nothing.
use Rattle.std.specs.Prelude.{ℕ, zero, suc}
use Rattle.permutation.specs.State.{State}
use Rattle.permutation.specs.Permutation.{P}

-- r rounds, n times over
unfoldable pub repeated : ℕ → ℕ → State → State
repeated r zero s = s
repeated r (suc n) s = P r (repeated r n s)
