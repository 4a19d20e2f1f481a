-- `constants::starting_words` meets its contract. The loop's invariant: the columns before x are done.
-- Assumes nothing.
use mathlib.Core.List.{List}
use Prim.Native.Nat.{ℕ, ◌+◌, ◌*◌}
use Rattle.permutation.specs.State.{tabulate}
use Rattle.constants.specs.Keccak.{StateArray}
use Rattle.constants.specs.Tables.{lane}
use Rattle.constants.proofs.Lists.{Filled}
use Rattle.constants.proofs.starting_words.Given as goal

abbrev pub column : StateArray → ℕ → List ℕ
column a x = tabulate 5 (λ y. lane a (5 * (x + 1) + y))

abbrev pub invariant-loop-x : goal.invariant-loop-x
invariant-loop-x l = Filled 4 (column l.a) l.initial.s l.x l.s
