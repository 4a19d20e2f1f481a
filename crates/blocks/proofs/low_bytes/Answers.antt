-- `blocks::low_bytes` meets its contract: a shift by l bytes is a power of 256.
-- Assumes nothing.
use mathlib.Core.Path.{ap}
use Prim.Native.Nat.{ℕ, ◌%◌}
use native.Mathlib.Omega.{arith}
use Rattle.blocks.proofs.Words.{shift-bytes}
use Rattle.blocks.proofs.low_bytes.Goals as goal

pub returns : goal.returns
returns c = let a = c.args in ap (λ (n : ℕ). a.x % n) (shift-bytes a.l (omega arith))
