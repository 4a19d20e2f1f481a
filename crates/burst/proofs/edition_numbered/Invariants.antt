-- `burst::edition_numbered` meets its contract. The loop's invariant: the row among all is the row among those from e on.
-- Assumes nothing.
use mathlib.Core.Path.{◌≡◌}
use lib.ListN.{drop}
use Rattle.burst.specs.Editions.{editions, row_in, numbered}
use Rattle.burst.proofs.edition_numbered.Given as goal

abbrev pub invariant-loop-e : goal.invariant-loop-e
invariant-loop-e l = numbered l.number ≡ row_in l.number (drop l.e-index editions)
