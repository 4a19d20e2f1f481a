-- `constants::iota` meets its contract.
-- Assumes nothing.
use mathlib.Core.Path.{ap, ◌∙◌}
use Prim.Native.Nat.{ℕ}
use Rattle.permutation.specs.State.{at, set_word}
use Rattle.permutation.specs.Words.{◌⊻◌}
use Rattle.permutation.proofs.Bounds.{words}
use Rattle.constants.specs.Keccak.{StateArray}
use Rattle.constants.proofs.Lanes.{iota-agrees}
use Rattle.constants.proofs.iota.Goals as goal

pub returns : goal.returns
returns c =
    let a : StateArray = c.args.a in
    ap (λ (w : ℕ). set_word a 0 0 (at a 0 0 ⊻ w)) c.iota_constant.ensures ∙ iota-agrees a (words a _ c.well_formed.0) c.args.i
