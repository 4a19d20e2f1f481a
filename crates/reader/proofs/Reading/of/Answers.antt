-- `reader::Reading::of` meets its contract.
-- Assumes nothing.
use native.Mathlib.Omega.{arith}
use Rattle.reader.proofs.Rules.{front}
use Rattle.reader.proofs.Reading.of.Goals as goal

pub header_in-requires : goal.header_in-requires
header_in-requires c = let w = front _ c.requires.1 in omega (arith, w)

pub edition_in-requires : goal.edition_in-requires
edition_in-requires c = let w = front _ c.requires.1 in omega (arith, w)

pub name_in-requires : goal.name_in-requires
name_in-requires c = let w = front _ c.requires.1 in omega (arith, w)
