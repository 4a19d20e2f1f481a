-- The cases of a verdict on sealed parts: for each its refusal number and its mark, and what a call answers (01, "Turned down, by example").
-- Assumes nothing.
use Rattle.std.specs.Prelude.{ℕ, Result, Ok, Err}
use Rattle.refusals.specs.declared.Refusal.{Refusal}
use Rattle.refusals.specs.declared.Refusal.TheVariants.{TagDiffers}
use Rattle.burst.specs.declared.Shot.{Shot}

-- whether their tags agree, or the first shot whose tag differs, 0 for the closing seal
pub data Verdict : Type 0 where
  Agree : Verdict
  Differs : Shot → Verdict

abbrev pub verdict_number : Verdict → ℕ
verdict_number Agree = 0
verdict_number (Differs shot) = 7

-- 0 for the closing seal, which has shot number 0, else the shot number
abbrev pub verdict_mark : Verdict → ℕ
verdict_mark Agree = 0
verdict_mark (Differs shot) = shot.0

-- what verifying the parts answers
abbrev pub tested : Verdict → Result (Unit {0}) Refusal
tested Agree = Ok tt
tested (Differs shot) = Err (TagDiffers shot.0)
