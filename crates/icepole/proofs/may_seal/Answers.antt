-- `icepole::may_seal` meets its contract: each answer from the tests that led to it, at the sizes that the code has.
-- Assumes nothing.
use mathlib.Core.Path.{◌≡◌, ap, ◌∙◌}
use Prim.Native.Nat.{ℕ, ◌+◌}
use Rattle.blocks.specs.declared.Sizes.{Sizes}
use Rattle.icepole.specs.Variants.{sizes}
use Rattle.icepole.specs.Answers.{seal_number}
use native.Mathlib.Omega.{arith}
use borrow.Author.Rules.{rules}
use Rattle.icepole.proofs.Numbers.{seal-0, seal-1, seal-2, seal-3, seal-4, seal-4', seal-5}
use Rattle.icepole.proofs.may_seal.Goals as goal
use Rattle.icepole.proofs.may_seal.Goals.{After-sizes_of-q}

-- the sizes that the code has are the variant's
by-sizes : (c : After-sizes_of-q) {num : ℕ} → let a = c.args in num ≡ seal_number c.sizes_of-q.result a.l.key a.l.nonce a.secret (a.l.first + a.l.second) a.message a.out → num ≡ seal_number (sizes a.v) a.l.key a.l.nonce a.secret (a.l.first + a.l.second) a.message a.out
by-sizes c e = let a = c.args in e ∙ ap (λ (q : Sizes). seal_number q a.l.key a.l.nonce a.secret (a.l.first + a.l.second) a.message a.out) c.sizes_of-q.ensures

pub returns-then-l-q-clause-number : goal.returns-then-l-q-clause-number
returns-then-l-q-clause-number c = by-sizes (goal.at.returns-then-l-q-clause-number c).After-sizes_of-q (seal-1 _ _ _ _ _ _ _ (λ e. omega arith))

pub returns-then-l-q-2-clause-number : goal.returns-then-l-q-2-clause-number
returns-then-l-q-2-clause-number c = by-sizes (goal.at.returns-then-l-q-2-clause-number c).After-sizes_of-q (seal-2 _ _ _ _ _ _ _ (omega arith) (λ e. omega arith))

pub returns-then-secret-q-clause-number : goal.returns-then-secret-q-clause-number
returns-then-secret-q-clause-number c = by-sizes (goal.at.returns-then-secret-q-clause-number c).After-sizes_of-q (seal-3 _ _ _ _ _ _ _ (omega arith) (omega arith) (λ e. omega arith))

pub returns-then-l-gt-MAX_LENGTH-clause-number : goal.returns-then-l-gt-MAX_LENGTH-clause-number
returns-then-l-gt-MAX_LENGTH-clause-number c = by-sizes (goal.at.returns-then-l-gt-MAX_LENGTH-clause-number c).After-sizes_of-q (seal-4 _ _ _ _ _ _ _ (omega arith) (omega arith) (omega arith) (omega arith))

pub returns-then-l-clause-number : goal.returns-then-l-clause-number
returns-then-l-clause-number c = by-sizes (goal.at.returns-then-l-clause-number c).After-sizes_of-q (seal-4 _ _ _ _ _ _ _ (omega arith) (omega arith) (omega arith) (omega arith))

pub returns-then-message-gt-MAX_LENGTH-clause-number : goal.returns-then-message-gt-MAX_LENGTH-clause-number
returns-then-message-gt-MAX_LENGTH-clause-number c = by-sizes (goal.at.returns-then-message-gt-MAX_LENGTH-clause-number c).After-sizes_of-q (seal-4' _ _ _ _ _ _ _ (omega arith) (omega arith) (omega arith) (omega arith) (omega arith))

pub overflow_add-message : goal.overflow_add-message
overflow_add-message c = search rules

pub overflow_add-q : goal.overflow_add-q
overflow_add-q c = search rules

pub returns-then-out-q-clause-number : goal.returns-then-out-q-clause-number
returns-then-out-q-clause-number c = by-sizes (goal.at.returns-then-out-q-clause-number c).After-sizes_of-q (seal-5 _ _ _ _ _ _ _ (omega arith) (omega arith) (omega arith) (omega arith) (omega arith) (omega arith))

pub returns-clause-number : goal.returns-clause-number
returns-clause-number c = by-sizes (goal.at.returns-clause-number c).After-sizes_of-q (seal-0 _ _ _ _ _ _ _ (omega arith) (omega arith) (omega arith) (omega arith) (omega arith) (omega arith))
