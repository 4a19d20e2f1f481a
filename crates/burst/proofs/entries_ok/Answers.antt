-- `burst::entries_ok` meets its contract. The loop's invariant: the rules of all entries come to those of the entries that are left.
-- Assumes nothing.
use mathlib.Core.Path.{sym, ◌∙◌}
use native.Mathlib.Omega.{arith}
use Rattle.burst.specs.declared.Entry.{Entry}
use Rattle.burst.proofs.Rules.{obeys, turn, fault, ended}
use Rattle.burst.proofs.entries_ok.Goals as goal

abbrev nothing : Entry
nothing = record { shot = record { 0 = 0 }; zeros = 0; offset = 0; length = 0 }

pub returns-then-not-entry_ok : goal.returns-then-not-entry_ok
returns-then-not-entry_ok c =
    let l = c.loop-x in
    let a = c.args in
    sym
    (l.invariant.1
    ∙ fault a.entries.now l.x-index nothing c.loop-x-test.true l.last.0 l.offset a.taken.0 a.end
    (sym c.entry_ok.ensures ∙ c.if-not-entry_ok.true))

pub overflow_add-offset : goal.overflow_add-offset
overflow_add-offset c = let w = obeys _ _ _ _ (sym c.entry_ok.ensures ∙ c.if-not-entry_ok.false) in omega (arith, w)

pub overflow_add-offset-in-loop-x : goal.overflow_add-offset-in-loop-x
overflow_add-offset-in-loop-x c = let w = obeys _ _ _ _ (sym c.entry_ok.ensures ∙ c.if-not-entry_ok.false) in omega (arith, w)

pub loop-x-preserved : goal.loop-x-preserved
loop-x-preserved c =
    let l = c.loop-x in
    let a = c.args in
    let e = sym c.entry_ok.ensures ∙ c.if-not-entry_ok.false in
    let w = obeys _ _ _ _ e in (
      omega (arith, w),
      l.invariant.1 ∙ turn a.entries.now l.x-index nothing c.loop-x-test.true l.last.0 l.offset a.taken.0 a.end e,
    )

pub returns : goal.returns
returns c =
    let l = c.loop-x in
    let a = c.args in
    sym (l.invariant.1 ∙ ended a.entries.now l.x-index l.last.0 l.offset a.taken.0 a.end (omega arith))
