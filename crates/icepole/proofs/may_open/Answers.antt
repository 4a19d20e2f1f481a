-- `icepole::may_open` meets its contract: each answer from the tests that led to it, at the sizes that the code has.
-- Assumes nothing.
use mathlib.Core.Path.{◌≡◌, ap, ◌∙◌}
use mathlib.Core.Bool.{true}
use Prim.Native.Nat.{ℕ, ◌+◌}
use Rattle.blocks.specs.declared.Sizes.{Sizes}
use Rattle.icepole.specs.Variants.{sizes}
use Rattle.icepole.specs.Answers.{open_number}
use native.Mathlib.Omega.{arith}
use borrow.Author.Rules.{rules}
use Rattle.icepole.proofs.Numbers.{open-0, open-1, open-2, open-4, open-4', open-5, open-6}
use Rattle.icepole.proofs.may_open.Goals as goal
use Rattle.icepole.proofs.may_open.Goals.{After-sizes_of-q}

-- the sizes that the code has are the variant's
by-sizes : (c : After-sizes_of-q) {num : ℕ} → let a = c.args in num ≡ open_number c.sizes_of-q.result a.l.key a.l.nonce (a.l.first + a.l.second) a.sealed a.fits true → num ≡ open_number (sizes a.v) a.l.key a.l.nonce (a.l.first + a.l.second) a.sealed a.fits true
by-sizes c e = let a = c.args in e ∙ ap (λ (q : Sizes). open_number q a.l.key a.l.nonce (a.l.first + a.l.second) a.sealed a.fits true) c.sizes_of-q.ensures

pub returns-then-l-q-clause-number : goal.returns-then-l-q-clause-number
returns-then-l-q-clause-number c = by-sizes (goal.at.returns-then-l-q-clause-number c).After-sizes_of-q (open-1 _ _ _ _ _ _ (λ e. omega arith))

pub returns-then-l-q-2-clause-number : goal.returns-then-l-q-2-clause-number
returns-then-l-q-2-clause-number c = by-sizes (goal.at.returns-then-l-q-2-clause-number c).After-sizes_of-q (open-2 _ _ _ _ _ _ (omega arith) (λ e. omega arith))

pub returns-then-l-gt-MAX_LENGTH-clause-number : goal.returns-then-l-gt-MAX_LENGTH-clause-number
returns-then-l-gt-MAX_LENGTH-clause-number c = by-sizes (goal.at.returns-then-l-gt-MAX_LENGTH-clause-number c).After-sizes_of-q (open-4 _ _ _ _ _ _ (omega arith) (omega arith) (omega arith))

pub returns-then-l-clause-number : goal.returns-then-l-clause-number
returns-then-l-clause-number c = by-sizes (goal.at.returns-then-l-clause-number c).After-sizes_of-q (open-4 _ _ _ _ _ _ (omega arith) (omega arith) (omega arith))

pub overflow_add-over : goal.overflow_add-over
overflow_add-over c = search rules

pub overflow_add-over-2 : goal.overflow_add-over-2
overflow_add-over-2 c = search rules

pub returns-then-sealed-over-clause-number : goal.returns-then-sealed-over-clause-number
returns-then-sealed-over-clause-number c = by-sizes (goal.at.returns-then-sealed-over-clause-number c).After-sizes_of-q (open-4' _ _ _ _ _ _ (omega arith) (omega arith) (omega arith) (omega arith))

pub returns-then-sealed-over-2-clause-number : goal.returns-then-sealed-over-2-clause-number
returns-then-sealed-over-2-clause-number c = by-sizes (goal.at.returns-then-sealed-over-2-clause-number c).After-sizes_of-q (open-6 _ _ _ _ _ _ (omega arith) (omega arith) (omega arith) (omega arith) (omega arith))

pub returns-then-not-fits-clause-number : goal.returns-then-not-fits-clause-number
returns-then-not-fits-clause-number c = by-sizes (goal.at.returns-then-not-fits-clause-number c).After-sizes_of-q (open-5 _ _ _ _ _ _ (omega arith) (omega arith) (omega arith) (omega arith) (omega arith) c.if-not-fits.true)

pub returns-clause-number : goal.returns-clause-number
returns-clause-number c = by-sizes (goal.at.returns-clause-number c).After-sizes_of-q (open-0 _ _ _ _ _ _ (omega arith) (omega arith) (omega arith) (omega arith) (omega arith) c.if-not-fits.false)
