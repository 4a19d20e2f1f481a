-- `listing::Text::shots` meets its contract. The loop's invariant: the lines that are left, behind the text, make what was to be made.
-- Assumes nothing.
use mathlib.Core.List.{◌++◌}
use mathlib.Core.Path.{◌≡◌}
use Prim.Native.Nat.{◌+◌, ◌-◌, ◌*◌, ◌≤◌}
use lib.ListN.{length}
use Rattle.reader.specs.Front.{entries_at}
use Rattle.listing.specs.Listing.{text_room, shot_lines}
use Rattle.listing.proofs.Text.shots.Given as goal

abbrev pub invariant-loop-place : goal.invariant-loop-place
invariant-loop-place l =
    (length l.self + 78 * (l.place-end - l.place) ≤ text_room)
    × (l.self ++ shot_lines (entries_at (l.place-end - l.place) (l.start + 12 * l.place) l.f) ≡ l.initial.self ++ shot_lines (entries_at l.place-end l.start l.f))
