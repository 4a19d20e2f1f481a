-- `constants::round_constants` meets its contract. The loop's invariant: r is the number after n steps, and the constants before n stand in the table.
-- Assumes nothing.
use mathlib.Core.Path.{◌≡◌}
use Prim.Native.Nat.{suc}
use Rattle.constants.specs.Tables.{after_steps}
use Rattle.constants.proofs.Lists.{Filled}
use Rattle.constants.proofs.round_constants.Given as goal

abbrev pub invariant-loop-constant : goal.invariant-loop-constant
invariant-loop-constant l = (l.r ≡ after_steps l.constant-index) × Filled 12 (λ k. after_steps (suc k)) l.initial.constant-items l.constant-index l.constant-items
