-- `burst::edition_numbered` meets its contract. The loop's invariant: the row among all is the row among those from e on.
-- Assumes nothing.
use mathlib.Core.Path.{sym, subst, ◌∙◌}
use native.Mathlib.Omega.{arith}
use Rattle.burst.specs.declared.Edition.{Edition}
use Rattle.burst.specs.Editions.{Known}
use Rattle.burst.proofs.Rows.{numbered-known, search-starts, row_here, row-nowhere}
use Rattle.burst.proofs.edition_numbered.Goals as goal

abbrev zeros : Edition
zeros = record { number = 0; header = 0; shots = 0; camera = 0 }

pub loop-e-init : goal.loop-e-init
loop-e-init c = search-starts _

-- what the search finds alone too, written out so that a wrong row shows as a value that differs
pub returns-then-e-number : goal.returns-then-e-number
returns-then-e-number c =
    let e = sym (c.loop-e.invariant ∙ row_here c.args.number c.loop-e.e-index zeros (omega arith) c.if-e-number.true) in
    (e, subst Known (sym e) (numbered-known _))

pub returns : goal.returns
returns c =
    let e = sym (c.loop-e.invariant ∙ row-nowhere _ c.loop-e.e-index (omega arith)) in
    (e, subst Known (sym e) (numbered-known _))
