-- `constants::keccak_f` meets its contract. The loop's invariant: b is the state array after i rounds.
-- Assumes nothing.
use mathlib.Core.Path.{◌≡◌}
use Prim.Native.Nat.{◌≤◌}
use Rattle.constants.specs.Keccak.{rounds}
use Rattle.constants.proofs.keccak_f.Given as goal

abbrev pub invariant-loop-i : goal.invariant-loop-i
invariant-loop-i l = (l.i ≤ 24) × (l.b ≡ rounds l.i l.initial.b)
