-- `constants::rho` meets its contract. The loop's invariant: x, y and b are those of the standard's loop after t turns.
-- Assumes nothing.
use mathlib.Core.Path.{◌≡◌}
use Prim.Native.Nat.{◌≤◌, ◌<◌}
use Rattle.constants.specs.Keccak.{walk}
use Rattle.constants.proofs.rho.Given as goal

abbrev pub invariant-loop-t : goal.invariant-loop-t
invariant-loop-t l = (l.t ≤ 24) × (l.x < 5) × (l.y < 5) × (record { x = l.x; y = l.y; lanes = l.b } ≡ walk l.a l.t)
