-- The verdict on a log that an answer of the code stands for.
-- Assumes nothing.
use Rattle.std.specs.Prelude.{Result, Ok, Err}
use Rattle.refusals.specs.declared.Refusal.{Refusal}
use Rattle.refusals.specs.Numbers.{number}
use Rattle.round_log.specs.declared.Finding.{Finding}
use Rattle.round_log.specs.declared.Finding.TheVariants.{AllAgree, FirstDiffers}
use Rattle.round_log.specs.RoundLog.{Verdict, Agrees, Differs, Refused}

abbrev pub found : Finding → Verdict
found (AllAgree r) = Agrees r
found (FirstDiffers i) = Differs i

abbrev pub answered : Result Finding Refusal → Verdict
answered (Ok f) = found f
answered (Err e) = Refused (number e)
