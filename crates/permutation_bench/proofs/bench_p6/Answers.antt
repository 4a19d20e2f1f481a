-- `permutation_bench::bench_p6` meets its contract. The loop's invariant: after i turns the state is P6 of the seeded state, i times over.
-- Assumes nothing.
use mathlib.Core.Path.{sym, ap, ◌∙◌}
use Prim.Native.Nat.{ℕ}
use native.Mathlib.Omega.{arith}
use native.Mathlib.Numerals.{add-one}
use borrow.Author.Rules.{rules}
use Rattle.permutation.specs.State.{State}
use Rattle.permutation.specs.Permutation.{start, add_constant, P}
use Rattle.permutation_bench.specs.Repeated.{repeated}
use Rattle.permutation_bench.proofs.bench_p6.Goals as goal

pub loop-i-init : goal.loop-i-init
unfolding repeated
loop-i-init c = (search rules, ap (λ (s : State). add_constant s c.args.seed) c.start_state-s.ensures)

pub loop-i-preserved : goal.loop-i-preserved
unfolding repeated
loop-i-preserved c =
    let n = c.loop-i.i in
    let s = add_constant start c.args.seed in
    (omega arith, c.p-t.ensures ∙ ap (P 6) c.loop-i.invariant.1 ∙ ap (λ (k : ℕ). repeated 6 k s) (sym (add-one n)))
