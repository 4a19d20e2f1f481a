-- `constants::iota_constant` meets its contract. The loop's invariant: the bits of the first j turns are set.
-- Assumes nothing.
use mathlib.Core.Path.{◌≡◌}
use Prim.Native.Nat.{◌≤◌}
use Rattle.bits.specs.Bits.{word}
use Rattle.constants.specs.Keccak.{RC}
use Rattle.constants.proofs.iota_constant.Given as goal

abbrev pub invariant-loop-j : goal.invariant-loop-j
invariant-loop-j l = (l.j ≤ 7) × (l.constant ≡ word (RC l.j l.i))
