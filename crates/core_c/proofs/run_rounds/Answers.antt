-- `core_c::run_rounds` meets its contract: refused or done.
-- Assumes nothing.
use mathlib.Core.Path.{◌≡◌, refl, sym, ap, ◌∙◌}
use native.Mathlib.Omega.{arith}
use Prim.Native.Nat.{◌≤◌}
use lib.ListN.{length}
use Rattle.std.proofs.lemmas.Result.{err_from_is_err_and}
use Rattle.refusals.specs.Numbers.{number, number_of}
use Rattle.refusals.proofs.Laws.{positive}
use Rattle.permutation.specs.Permutation.{max_rounds}
use Rattle.bytes_le.specs.Bytes.{put_bytes}
use Rattle.state_bytes.specs.StateBytes.{bytes_of, state_length}
use Rattle.rounds_back.specs.Driven.{Driven, ran}
use Rattle.rounds_back.proofs.Answers.{driven-within}
use Rattle.core_c.specs.Calls.{rounds_refusal}
use Rattle.core_c.proofs.Rounds.{done-leaves, refused-leaves, within}
use Rattle.core_c.proofs.run_rounds.Goals as goal
use Rattle.core_c.proofs.run_rounds.Goals.{In_ok-rounds_refusal, In_ok-reached}

-- not refused
none : (c : In_ok-rounds_refusal) → let a = c.args in rounds_refusal a.rounds (length a.state.now) ≡ 0
none c = sym (c.in_ok-rounds_refusal.ensures)

room : (c : In_ok-rounds_refusal) → let a = c.args in (a.rounds ≤ max_rounds) × (state_length ≤ length a.state.now)
room c = let a = c.args in within a.rounds (length a.state.now) (none c)

pub returns-in_err-rounds_refusal : goal.returns-in_err-rounds_refusal
returns-in_err-rounds_refusal c =
    let a = c.args in
    let p = err_from_is_err_and c.from_residual.result c.from_residual.ensures.1 in
    let told : number p.0 ≡ rounds_refusal a.rounds (length a.state.now) = ap number p.2 ∙ c.in_err-rounds_refusal.ensures in
    (ap number_of p.1 ∙ told, refused-leaves a.direction a.rounds a.state.now (number p.0) told (λ z. let q = positive p.0 in omega arith))

-- not so, once the number of rounds has been looked at
pub returns-in_err-reached : goal.returns-in_err-reached
returns-in_err-reached c =
    let h = room (goal.at.returns-in_err-reached c).In_ok-rounds_refusal in
    let a = c.args in
    let e = ap (λ (d : Driven). d.refusal) (c.in_err-reached.ensures.answer ∙ driven-within a.direction c.state_in-s.result a.rounds h.0) in
    let q = positive c.in_err-reached.field-0.0 in
    absurd (omega arith)

-- the bytes that it answers
reached : (c : In_ok-reached) → c.args.rounds ≤ max_rounds → let a = c.args in
    c.in_ok-reached.reached ≡ bytes_of (ran a.direction a.rounds c.state_in-s.result)
reached c h = ap (λ (d : Driven). d.state) (c.in_ok-reached.ensures.answer ∙ driven-within c.args.direction c.state_in-s.result c.args.rounds h)

pub returns : goal.returns
returns c =
    let a = c.args in
    let o = (goal.at.returns c).In_ok-rounds_refusal in
    let e = none o in (
      sym e,
      done-leaves a.direction a.rounds a.state.now e c.state_in-s.result _ _ c.state_in-s.ensures refl
          (c.put_bytes.ensures.1 ∙ ap (put_bytes a.state.now 0) (reached (goal.at.returns c).In_ok-reached (room o).0)),
    )
