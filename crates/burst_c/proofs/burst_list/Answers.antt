-- `burst_c::burst_list` meets its contract: by what the listing answers.
-- Assumes nothing.
use mathlib.Core.Path.{ap, ◌∙◌}
use native.Mathlib.Omega.{arith}
use Rattle.listing.specs.Listing.{Listed}
use Rattle.listing.proofs.Lines.{told-length, told-refusal}
use Rattle.burst_c.proofs.burst_list.Goals as goal

pub overflow_cast-size : goal.overflow_cast-size
overflow_cast-size c = let h = told-length _ _ _ c.in-Ok.ensures.0 in omega (arith, h)

pub returns-in-Ok : goal.returns-in-Ok
returns-in-Ok c =
    let e = c.in-Ok.ensures in
    (told-refusal _ _ _ e.0, e.1, ap (λ (r : Listed). r.length) e.0)

pub returns-in-Err : goal.returns-in-Err
returns-in-Err c =
    let e = c.in-Err.ensures in
    (c.number.ensures ∙ told-refusal _ _ _ e.0, e.1, ap (λ (r : Listed). r.length) e.0)
