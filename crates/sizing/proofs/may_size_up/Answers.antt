-- `sizing::may_size_up` meets its contract.
-- Assumes nothing.
use mathlib.Core.Path.{◌≡◌, sym, ◌∙◌}
use native.Mathlib.Omega.{arith}
use lib.Dec.{ltb}
use Rattle.std.proofs.Common.{rules, tests}
use Rattle.std.proofs.lemmas.Iterator.{YieldsList-from_slice}
use Rattle.std.proofs.lemmas.Iterator.Search.{any_from_yields_List}
use Rattle.burst.specs.Layout.{max_picture}
use Rattle.sizing.specs.Sizing.{too_long}
use Rattle.sizing.proofs.Numbers.{long-any, size-9, size-10, size-0}
use Rattle.sizing.proofs.may_size_up.Goals as goal
use Rattle.sizing.proofs.may_size_up.Goals.{After-any}

-- what the search finds
found : (c : After-any) → c.any.result ≡ too_long c.args.lengths.now
found c =
    any_from_yields_List (λ n. ltb max_picture n) _ _ _ c.any.ensures.ran (YieldsList-from_slice c.args.lengths.now cc) (λ x b q k. search (rules, tests))
    ∙ long-any c.args.lengths.now

pub returns-then-lengths-e-clause-number : goal.returns-then-lengths-e-clause-number
returns-then-lengths-e-clause-number c = size-9 _ _ (omega arith)

pub returns-then-any-clause-number : goal.returns-then-any-clause-number
returns-then-any-clause-number c =
    size-10 _ _ (omega arith) (sym (found (goal.at.returns-then-any-clause-number c).After-any) ∙ c.if-any.true)

pub returns-clause-number : goal.returns-clause-number
returns-clause-number c = size-0 _ _ (omega arith) (sym (found (goal.at.returns-clause-number c).After-any) ∙ c.if-any.false)
