-- `constants::rho` meets its contract. The loop's invariant: x, y and b are those of the standard's loop after t turns.
-- Assumes nothing.
use mathlib.Core.Path.{◌≡◌, sym, ap, ◌∙◌}
use Prim.Native.Nat.{ℕ, ◌+◌, ◌*◌, ◌%◌}
use native.Mathlib.Omega.{arith}
use native.Mathlib.Numerals.{add-one}
use Rattle.permutation.specs.State.{set_word}
use Rattle.permutation.specs.Permutation.{rotl}
use Rattle.constants.specs.Keccak.{StateArray, Walk, rho_turn, walk, ρ}
use Rattle.constants.proofs.rho.Goals as goal

pub loop-t-preserved : goal.loop-t-preserved
unfolding rotl
loop-t-preserved c =
    let a : StateArray = c.args.a in
    let x : ℕ = c.loop-t.x in
    let y : ℕ = c.loop-t.y in
    let t : ℕ = c.loop-t.t in
    let next : ℕ = (2 * x + 3 * y) % 5 in (
      omega arith,
      c.loop-t.invariant.2,
      omega arith,
      ap (λ (w : ℕ). record { x = y; y = next; lanes = set_word c.loop-t.b x y w }) c.rotate.ensures
          ∙ ap (rho_turn a t) c.loop-t.invariant.3
          ∙ ap (walk a) (sym (add-one t)),
    )

pub returns : goal.returns
unfolding ρ
returns c =
    let e : c.loop-t.t ≡ 24 = omega arith in
    ap (λ (w : Walk). w.lanes) (c.loop-t.invariant.3 ∙ ap (walk c.args.a) e)
