-- Sizing up a burst before the trigger (02, N4): "From a list of up to 60 lengths, 0 for a dropped shot, work out the file length and the numbers of P12 and P6
-- calls, without sealing." The three numbers are those of a plain burst with shots of these lengths, in the edition that is written. The burst here has zeros for
-- key, pictures, stamps and site mark; `SizeUp` of the claims says that every burst with shots of these lengths has the same.
-- Assumes nothing.
use Rattle.std.specs.Prelude.{Bool, true, false, cond, ◌||◌, List, [], ◌∷◌, map, ℕ, eqb, ltb, length, replicate, Result}
use Rattle.refusals.specs.declared.Refusal.{Refusal}
use Rattle.refusals.specs.Numbers.{number_of, mark_of, value_or}
use Rattle.icepole.specs.Answers.{refusal, ◌when◌, given}
use Rattle.padded_blocks.specs.PaddedBlocks.{calls_of}
use Rattle.burst.specs.declared.Edition.{Edition}
use Rattle.burst.specs.Editions.{written}
use Rattle.burst.specs.Parts.{key_length, no_mark}
use Rattle.burst.specs.Layout.{identified, max_picture}
use Rattle.trace.specs.Plain.{Firing, kept, gap, Plain, total_of}
use Rattle.trace.specs.Seals.{burst_calls}
use Rattle.sizing.specs.declared.Estimate.{Estimate}

-- ---- the length of each shot, 0 of a gap
abbrev pub lengths_of : List Firing → List ℕ
lengths_of [] = []
lengths_of (kept s p ∷ xs) = length p ∷ lengths_of xs
lengths_of (gap ∷ xs) = 0 ∷ lengths_of xs

-- ---- a planned burst
abbrev pub planned_shot : ℕ → Firing
planned_shot n = cond (eqb n 0) gap (kept no_mark (replicate n 0))

abbrev pub planned_burst : List ℕ → Plain
planned_burst lengths = record { key = replicate key_length 0; identity = identified 1 1 no_mark; shots = map planned_shot lengths; closed = true }

-- the edition that is written
abbrev pub sized_edition : Edition
sized_edition = written key_length

-- ---- what is refused: a list above the edition's shots with 9, then a length above that of a picture with 10
abbrev pub too_long : List ℕ → Bool
too_long [] = false
too_long (n ∷ ns) = ltb max_picture n || too_long ns

unfoldable pub size_number : Edition → List ℕ → ℕ
size_number e lengths = refusal ((9 when ltb e.shots (length lengths)) ∷ (10 when too_long lengths) ∷ [])

-- ---- the answer: a refusal number, 0 when done, its mark, the file's length, and how often the permutation is called with twelve and with six rounds
pub record Size : Type 0 where
  pub refusal : ℕ
  pub mark : ℕ
  pub file_length : ℕ
  pub p12 : ℕ
  pub p6 : ℕ

-- what the call returns, as such an answer
abbrev pub estimate_as : Result Estimate Refusal → Size
estimate_as r = record {
  refusal = number_of r;
  mark = mark_of r;
  file_length = value_or (λ x. x.file_length) 0 r;
  p12 = value_or (λ x. x.p12) 0 r;
  p6 = value_or (λ x. x.p6) 0 r;
}

abbrev pub sized_as : Edition → ℕ → Plain → Size
sized_as e num p = record {
  refusal = num;
  mark = 0;
  file_length = given num (total_of e p);
  p12 = given num (calls_of 12 (burst_calls e p));
  p6 = given num (calls_of 6 (burst_calls e p));
}

unfoldable pub size_answer : List ℕ → Size
size_answer lengths = sized_as sized_edition (size_number sized_edition lengths) (planned_burst lengths)
