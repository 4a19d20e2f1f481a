-- `strips::strip_in` meets its contract: what `may_strip` lets through fits.
-- Assumes nothing.
use mathlib.Core.Path.{sym}
use Rattle.strips.proofs.Numbers.{strip-fits}
use Rattle.strips.proofs.strip_in.Goals as goal

pub feed-requires : goal.feed-requires
feed-requires c =
    let w = strip-fits _ _ _ _ (sym c.in_ok-may_strip.ensures.number) in
    (c.fill_of.ensures.1, w.out)
