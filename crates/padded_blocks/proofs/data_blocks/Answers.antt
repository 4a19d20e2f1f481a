-- `padded_blocks::data_blocks` meets its contract: a quotient is at most what is divided.
-- Assumes nothing.
use mathlib.Core.Path.{◌≡◌}
use Prim.Native.Nat.{◌-◌}
use native.Mathlib.Nat.{zero-div, div-le_self}
use native.Mathlib.Omega.{arith}
use Rattle.blocks.specs.Sealing.{blocks_before}
use Rattle.padded_blocks.proofs.data_blocks.Goals as goal

pub returns-then-n-eq0 : goal.returns-then-n-eq0
unfolding blocks_before
returns-then-n-eq0 c =
    let a = c.args in
    let z : a.n - 1 ≡ 0 = omega arith in
    (rw z (rw zero-div (omega arith)), omega arith)

pub overflow_add-result : goal.overflow_add-result
overflow_add-result c = let a = c.args in omega (arith, div-le_self (a.n - 1) a.block)

pub returns : goal.returns
unfolding blocks_before
returns c = let a = c.args in (omega arith, omega (arith, div-le_self (a.n - 1) a.block))
