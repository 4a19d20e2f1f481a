-- `permutation_bench::bench_p6` meets its contract. The loop's invariant: after i turns the state is P6 of the seeded state, i times over.
-- Assumes nothing.
use mathlib.Core.Path.{◌≡◌}
use Prim.Native.Nat.{◌≤◌}
use Rattle.permutation.specs.Permutation.{start, add_constant}
use Rattle.permutation_bench.specs.Repeated.{repeated}
use Rattle.permutation_bench.proofs.bench_p6.Given as goal

abbrev pub invariant-loop-i : goal.invariant-loop-i
invariant-loop-i l = (l.i ≤ l.times) × (l.s ≡ repeated 6 l.i (add_constant start l.seed))
