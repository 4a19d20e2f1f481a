-- `rounds_back::drive` meets its contract, within the limit and above it. The bytes of the state that is reached fill the array; what owning the
-- parameter tells of it is the second clause.
-- Assumes nothing.
use mathlib.Core.Path.{◌≡◌, sym, ap, ◌∙◌}
use native.Mathlib.Omega.{arith}
use lib.ListN.{length, replicate}
use Rattle.bytes_le.specs.Bytes.{Bytes}
use Rattle.bytes_le.proofs.Laws.{put_whole}
use Rattle.state_bytes.specs.StateBytes.{bytes_of}
use Rattle.state_bytes.proofs.Lengths.{length-bytes}
use Rattle.state_bytes.proofs.View.{told}
use Rattle.rounds_back.specs.Driven.{driven_to}
use Rattle.rounds_back.proofs.Answers.{driven-within, driven-above}
use Rattle.rounds_back.proofs.drive.Goals as goal

pub returns-then-r-gt-MAX_ROUNDS-clause-answer : goal.returns-then-r-gt-MAX_ROUNDS-clause-answer
returns-then-r-gt-MAX_ROUNDS-clause-answer c = sym (driven-above c.args.direction c.args.s c.args.r (omega arith))

pub returns-then-r-gt-MAX_ROUNDS-clause-held : goal.returns-then-r-gt-MAX_ROUNDS-clause-held
returns-then-r-gt-MAX_ROUNDS-clause-held c = told c.args.s _ c.well_formed.0

pub returns-clause-answer : goal.returns-clause-answer
returns-clause-answer c =
    let a = c.args in
    let e : length (bytes_of c.run-t.result) ≡ 160 = length-bytes c.run-t.result in
    ap (λ (b : Bytes). record { refusal = 0; state = b }) (c.store_state.ensures ∙ put_whole (replicate 160 0) (bytes_of c.run-t.result) (omega arith))
    ∙ ap driven_to c.run-t.ensures
    ∙ sym (driven-within a.direction a.s a.r (omega arith))

pub returns-clause-held : goal.returns-clause-held
returns-clause-held c = told c.args.s _ c.well_formed.0
