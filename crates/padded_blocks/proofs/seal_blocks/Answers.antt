-- `padded_blocks::seal_blocks` meets its contract.
-- Assumes nothing.
use mathlib.Core.Path.{ap}
use native.Mathlib.Omega.{arith}
use Rattle.blocks.specs.Sealing.{blocks_before}
use Rattle.padded_blocks.proofs.Counts.{seal-blocks}
use Rattle.padded_blocks.proofs.seal_blocks.Goals as goal

pub returns : goal.returns
returns c = (
  λ secret ad m ea em.
      let a = c.args in
      let e₁ = ap (blocks_before a.block) ea in
      let e₂ = ap (blocks_before a.block) em in
      omega (arith, seal-blocks a.block secret ad m, c.data_blocks.ensures.0, c.data_blocks-2.ensures.0),
  omega (arith, c.data_blocks.ensures.1, c.data_blocks-2.ensures.1),
)
