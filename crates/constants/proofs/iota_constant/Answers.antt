-- `constants::iota_constant` meets its contract. The loop's invariant: the bits of the first j turns are set.
-- Assumes nothing.
use mathlib.Core.Path.{refl, ap₂, ◌∙◌}
use mathlib.Core.Bool.{Bool}
use Prim.Native.Nat.{ℕ, ◌-◌, ◌*◌, ◌%◌, ◌^◌}
use native.Mathlib.Omega.{arith}
use borrow.Author.Rules.{rules}
use Rattle.bits.specs.Bits.{number}
use Rattle.constants.specs.Words.{with_bit}
use Rattle.constants.proofs.IotaConstant.{one-to-64, next_bit}
use Rattle.constants.proofs.iota_constant.Goals as goal

pub loop-j-init : goal.loop-j-init
unfolding number
loop-j-init c = (search rules, refl)

pub with_bit-constant-requires : goal.with_bit-constant-requires
with_bit-constant-requires c = let h = one-to-64 c.loop-j.j (search rules) in omega (arith, h)

pub loop-j-preserved : goal.loop-j-preserved
loop-j-preserved c =
    let j : ℕ = c.loop-j.j in (
      omega arith,
      c.with_bit-constant.ensures
          ∙ ap₂ (λ (w : ℕ) (b : Bool). with_bit w (1 * 2 ^ j % 2 ^ 32 - 1) b) c.loop-j.invariant.1 c.rc.ensures
          ∙ next_bit j c.args.i (search rules),
    )
