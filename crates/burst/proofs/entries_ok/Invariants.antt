-- `burst::entries_ok` meets its contract. The loop's invariant: the rules of all entries come to those of the entries that are left.
-- Assumes nothing.
use mathlib.Core.Path.{◌≡◌}
use Prim.Native.Nat.{◌+◌, ◌*◌, ◌≤◌}
use lib.ListN.{drop}
use Rattle.burst.specs.Index.{index_rules}
use Rattle.burst.proofs.entries_ok.Given as goal

abbrev pub invariant-loop-x : goal.invariant-loop-x
invariant-loop-x l =
    (l.offset ≤ l.start + 1048608 * l.x-index)
    × (index_rules 0 l.start l.taken.0 l.end l.entries ≡ index_rules l.last.0 l.offset l.taken.0 l.end (drop l.x-index l.entries))
