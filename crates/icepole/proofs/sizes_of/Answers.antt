-- `icepole::sizes_of` meets its contract, by cases on the variant.
-- Assumes nothing.
use mathlib.Core.Path.{sym, ap}
use borrow.Author.Rules.{rules}
use Rattle.icepole.specs.Variants.{sizes}
use Rattle.icepole.proofs.sizes_of.Goals as goal

pub enum_told-1 : goal.enum_told-1
enum_told-1 c = search rules

pub enum_told-in-Icepole128a : goal.enum_told-in-Icepole128a
enum_told-in-Icepole128a c = search rules

pub enum_told-in-Icepole256a : goal.enum_told-in-Icepole256a
enum_told-in-Icepole256a c = search rules

pub returns-in-Icepole128 : goal.returns-in-Icepole128
returns-in-Icepole128 c = sym (ap sizes c.in-Icepole128.is)

pub returns-in-Icepole128a : goal.returns-in-Icepole128a
returns-in-Icepole128a c = sym (ap sizes c.in-Icepole128a.is)

pub returns-in-Icepole256a : goal.returns-in-Icepole256a
returns-in-Icepole256a c = sym (ap sizes c.in-Icepole256a.is)
