-- `rounds_back::row` meets its contract. The loop's invariant: t is the row times the vector, by the coefficients from a^k on.
-- Assumes nothing.
use mathlib.Core.List.{[], ◌∷◌}
use mathlib.Core.Path.{◌≡◌, refl, ap, ◌∙◌}
use Prim.Native.Nat.{ℕ, ◌-◌}
use native.Mathlib.Omega.{arith}
use mir.Syntax.{w64}
use borrow.Author.Rules.{elem_Fits}
use Rattle.bits.specs.Bits.{number}
use Rattle.rounds_back.proofs.Horner.{turn, upper_words}
use Rattle.rounds_back.proofs.row.Goals as goal

pub loop-k-init : goal.loop-k-init
unfolding number
loop-k-init g c = refl

pub loop-k-preserved : goal.loop-k-preserved
loop-k-preserved g c =
    let u = c.times_a_plus-u in
    turn (g.row.N0 ∷ g.row.N1 ∷ g.row.N2 ∷ g.row.N3 ∷ []) c.args.s c.loop-k.k (omega arith) (omega arith)
    c.loop-k.invariant
    c.digit_times.ensures c.digit_times-in-loop-k.ensures c.digit_times-in-loop-k-2.ensures c.digit_times-in-loop-k-3.ensures c.sum-q.ensures
    u.ensures
    (λ y. (elem_Fits w64 w64 u.result u.type_inv.0 y u.type_inv.1.1 tt).fits)

pub returns : goal.returns
returns g c =
    let r = g.row.N0 ∷ g.row.N1 ∷ g.row.N2 ∷ g.row.N3 ∷ [] in
    let end : c.loop-k.k ≡ 0 = omega arith in
    c.loop-k.invariant ∙ ap (λ (k : ℕ). upper_words r c.args.s (5 - k) k) end
