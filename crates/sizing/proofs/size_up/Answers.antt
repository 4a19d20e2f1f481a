-- `sizing::size_up` meets its contract: the sums of a list within bounds fit, and come to the answer.
-- Assumes nothing.
use mathlib.Core.Path.{sym, ap, ◌∙◌}
use Prim.Native.Nat.{ℕ, ◌+◌}
use native.Mathlib.Omega.{arith}
use Rattle.std.specs.Prelude.{Ok}
use Rattle.refusals.proofs.Laws.{passed-on}
use Rattle.sizing.specs.Sizing.{estimate_as}
use Rattle.sizing.proofs.Numbers.{sized}
use Rattle.sizing.proofs.Plans.{After60, after-60, estimate, size-refused, size-done}
use Rattle.sizing.proofs.size_up.Goals as goal
use Rattle.sizing.proofs.size_up.Goals.{After-sums_of-s}

few : (c : After-sums_of-s) → After60 c.edition_written-e.result c.sums_of-s.result
few c =
    after-60 _ _ _ c.edition_written-e.ensures.1 (sized _ _ (sym c.in_ok-may_size_up.ensures.number)).0 c.sums_of-s.ensures.1

pub returns-in_err-may_size_up : goal.returns-in_err-may_size_up
returns-in_err-may_size_up c =
    let m = c.in_err-may_size_up.ensures in
    ap estimate_as (passed-on _ _ c.from_residual.ensures.1) ∙ size-refused _ c.edition_written-e.ensures.0 c.args.lengths.now _ m.number m.mark

-- what is known of edition and sums, once the list is within bounds
pub sums_of-s-requires : goal.sums_of-s-requires
sums_of-s-requires c =
    let h = sized _ _ (sym c.in_ok-may_size_up.ensures.number) in (c.edition_written-e.ensures.1, h.0, h.1)

pub part_blocks-closing-requires : goal.part_blocks-closing-requires
part_blocks-closing-requires c = let f = few (goal.at.part_blocks-closing-requires c).After-sums_of-s in (omega (arith, f, c.index_length-index.ensures), omega arith)

pub overflow_add-result : goal.overflow_add-result
overflow_add-result c = let f = few (goal.at.overflow_add-result c).After-sums_of-s in omega (arith, f, c.index_length-index.ensures)

pub overflow_add-result-2 : goal.overflow_add-result-2
overflow_add-result-2 c = let f = few (goal.at.overflow_add-result-2 c).After-sums_of-s in omega (arith, f, c.index_length-index.ensures)

pub overflow_add-result-4 : goal.overflow_add-result-4
overflow_add-result-4 c =
    let f = few (goal.at.overflow_add-result-4 c).After-sums_of-s in
    omega (arith, f, c.part_blocks-closing.ensures.1, c.index_length-index.ensures)

pub returns : goal.returns
returns c =
    let w = c.edition_written-e.ensures in
    let s = c.sums_of-s.result in
    let i = c.index_length-index.ensures in
    ap (λ (n : ℕ). estimate_as (Ok (estimate (s.used + n + 32) (s.kept.0 + 1) (s.blocks + c.part_blocks-closing.result)))) i
    ∙ size-done _ w.0 c.args.lengths.now w.1 c.in_ok-may_size_up.ensures.number s c.sums_of-s.ensures.0 _
    (λ mark ad m ea em. c.part_blocks-closing.ensures.0 mark ad m (ea ∙ ap (λ (n : ℕ). c.edition_written-e.result.header + n) (sym i)) em)
