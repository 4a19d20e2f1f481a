-- `icepole::message_fits` meets its contract.
-- Assumes nothing.
use native.Mathlib.Omega.{arith}
use mathlib.Core.Path.{sym}
use borrow.Author.Tests.{le-leb}
use borrow.Author.Rules.{rules}
use Prim.Native.Nat.{◌+◌, ◌-◌}
use Rattle.icepole.proofs.message_fits.Goals as goal

pub overflow_add-over : goal.overflow_add-over
overflow_add-over c = search rules

pub returns-then-sealed-over : goal.returns-then-sealed-over
returns-then-sealed-over c = let a = c.args in sym (le-leb (a.sealed - (a.q.secret + 16)) a.out (omega arith))

pub returns : goal.returns
returns c = search rules
