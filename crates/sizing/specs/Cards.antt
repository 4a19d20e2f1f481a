-- The card line on the carton (02, N2): "From card bytes, shots per burst (all kept, edition 2) and one picture length, give the whole number of full bursts and the
-- exact bytes left". A full burst is one of which all shots are kept, with pictures of one length. Its file's length is that of sizing up (N4): of the plan that has
-- this picture length once for each shot. `CardHolds` of the claims says that every full burst has it, and what the two numbers mean for the card.
-- Assumes nothing.
use Rattle.std.specs.Prelude.{◌||◌, [], ◌∷◌, ℕ, ◌/◌, ◌%◌, eqb, ltb, replicate, Result}
use Rattle.refusals.specs.declared.Refusal.{Refusal}
use Rattle.refusals.specs.Numbers.{number_of, mark_of, value_or}
use Rattle.icepole.specs.Answers.{refusal, ◌when◌, given}
use Rattle.burst.specs.declared.Edition.{Edition}
use Rattle.burst.specs.Layout.{max_picture}
use Rattle.trace.specs.Plain.{total_of}
use Rattle.sizing.specs.declared.Capacity.{Capacity}
use Rattle.sizing.specs.Sizing.{planned_burst, sized_edition}

-- ---- bytes of the file of a full burst
unfoldable pub full_length : Edition → (shots picture : ℕ) → ℕ
full_length e shots picture = total_of e (planned_burst (replicate shots picture))

-- ---- what is refused: shots of 0 or above the edition's with 16, then a picture length out of range with 10
unfoldable pub card_number : Edition → (shots picture : ℕ) → ℕ
card_number e shots picture =
    refusal ((16 when (eqb shots 0 || ltb e.shots shots)) ∷ (10 when (ltb picture 1 || ltb max_picture picture)) ∷ [])

-- ---- the answer: a refusal number, 0 when done, its mark, how many files of so many bytes the card holds, and the bytes left
pub record CardLine : Type 0 where
  pub refusal : ℕ
  pub mark : ℕ
  pub bursts : ℕ
  pub left : ℕ

-- what the call returns, as such an answer
abbrev pub capacity_as : Result Capacity Refusal → CardLine
capacity_as r = record {
  refusal = number_of r;
  mark = mark_of r;
  bursts = value_or (λ x. x.bursts) 0 r;
  left = value_or (λ x. x.left) 0 r;
}

abbrev pub card_as : (num card each : ℕ) → CardLine
card_as num card each = record { refusal = num; mark = 0; bursts = given num (card / each); left = given num (card % each) }

unfoldable pub card_answer : (card shots picture : ℕ) → CardLine
card_answer card shots picture = card_as (card_number sized_edition shots picture) card (full_length sized_edition shots picture)
