-- `reader::read_entries` meets its contract. The loop's invariant: the first i entries are read.
-- Assumes nothing.
use mathlib.Core.Path.{◌≡◌}
use lib.ListN.{take}
use Rattle.reader.specs.Front.{entries_at}
use Rattle.reader.proofs.read_entries.Given as goal

abbrev pub invariant-loop-i : goal.invariant-loop-i
invariant-loop-i l = take l.i l.entries ≡ entries_at l.i l.start l.f
