use Rattle.std.proofs.Common.{arith, sym, refl, length, ◌≡◌, ◌≤◌, ℕ, Result, Ok, Err}
use Rattle.std.specs.Result.{result_unwrap_or}
use Rattle.std.proofs.lemmas.List.{length-take-le}
use Rattle.refusals.specs.declared.Refusal.{Refusal}
use Rattle.listing.specs.Listing.{listed_as}
use Rattle.listing.proofs.Lines.{told-length}
use Rattle.lister.proofs.main.Goals as goal
use Rattle.lister.proofs.main.Goals.{After-unwrap_or-count}

answered : (r : Result ℕ Refusal) → result_unwrap_or r 0 ≡ (listed_as r).length
answered (Ok n) = refl
answered (Err e) = refl

-- The text is not longer than the room for it.
fits : (c : After-unwrap_or-count) → c.unwrap_or-count.result ≤ length c.list_front.new.out
fits c =
    let h = told-length _ _ _ c.list_front.ensures.0 in
    let n = answered c.list_front.result in
    omega (arith, h, n, c.unwrap_or-count.ensures, c.list_front.auto)

pub slice_bounds-text-end : goal.slice_bounds-text-end
slice_bounds-text-end c = fits (goal.at.slice_bounds-text-end c).After-unwrap_or-count

pub slice_bounds-write_all-end : goal.slice_bounds-write_all-end
slice_bounds-write_all-end c =
    sym (length-take-le c.unwrap_or-count.result c.list_front.new.out (fits (goal.at.slice_bounds-write_all-end c).After-unwrap_or-count))
