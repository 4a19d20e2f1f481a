-- `burst::part_blocks` meets its contract.
-- Assumes nothing.
use mathlib.Core.Path.{◌≡◌, ap, ◌∙◌}
use Prim.Native.Nat.{ℕ}
use Rattle.blocks.specs.declared.Sizes.{Sizes}
use Rattle.padded_blocks.specs.PaddedBlocks.{seal_blocks}
use Rattle.burst.specs.Parts.{part_blocks}
use Rattle.burst.proofs.part_blocks.Goals as goal
use Rattle.burst.proofs.part_blocks.Goals.{After-sizes_of-q}

block : (c : After-sizes_of-q) → c.sizes_of-q.result.block ≡ 128
block c = ap (λ (q : Sizes). q.block) c.sizes_of-q.ensures

pub returns : goal.returns
unfolding part_blocks
returns c = (
  λ mark ad m ea em. c.seal_blocks.ensures.0 mark ad m ea em ∙ ap (λ (k : ℕ). seal_blocks k mark ad m) (block (goal.at.returns c).After-sizes_of-q),
  c.seal_blocks.ensures.1,
)
