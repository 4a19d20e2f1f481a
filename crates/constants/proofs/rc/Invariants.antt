-- `constants::rc` meets its contract. The loop's invariant: r is the register after as many turns.
-- Assumes nothing.
use mathlib.Core.Path.{◌≡◌}
use Prim.Native.Nat.{◌≤◌}
use Rattle.constants.specs.Keccak.{register}
use Rattle.constants.proofs.rc.Given as goal

abbrev pub invariant-loop : goal.invariant-loop
invariant-loop l = (l.counter ≤ l.end) × (l.r ≡ register l.counter)
