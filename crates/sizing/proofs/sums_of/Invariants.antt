-- `sizing::sums_of` meets its contract. The loop's invariant: the shots that are left, added to the sums of those before, make the sums of all.
-- Assumes nothing.
use mathlib.Core.Path.{◌≡◌}
use mathlib.Core.Bool.{false}
use lib.ListN.{drop}
use Rattle.sizing.specs.Sizing.{too_long}
use Rattle.sizing.specs.Sums.{with_shots, After}
use Rattle.sizing.proofs.sums_of.Given as goal

abbrev pub invariant-loop-n : goal.invariant-loop-n
invariant-loop-n l = record {
  short : too_long (drop l.n-index l.lengths) ≡ false;
  bounds : After l.n-index l.s;
  sums : with_shots l.e l.s (drop l.n-index l.lengths) ≡ with_shots l.e l.initial.s l.lengths;
}
