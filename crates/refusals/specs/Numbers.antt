-- The refusals as document 01 numbers them ("Turned down, by example"), with what document 02 adds: for every case its number and its mark.
-- Assumes nothing.
use Rattle.std.specs.Prelude.{ℕ, Result, Ok, Err}
use Rattle.refusals.specs.declared.Refusal.{Refusal}
use Rattle.refusals.specs.declared.Refusal.TheVariants.{KeyLength, NonceLength, SecretLength, DataTooLong, OutputTooShort, SealedTooShort, TagDiffers, NotSound, BurstFull, PictureLength, BufferTooShort, FrontBroken, NoSuchPlace, StripState, NoCameraNumber, ShotCount, LogLength, TooManyRounds}

-- "No." of the table
abbrev pub number : Refusal → ℕ
number KeyLength = 1
number NonceLength = 2
number SecretLength = 3
number DataTooLong = 4
number OutputTooShort = 5
number SealedTooShort = 6
number (TagDiffers shot) = 7
number NotSound = 8
number BurstFull = 9
number PictureLength = 10
number BufferTooShort = 11
number FrontBroken = 12
number NoSuchPlace = 13
number StripState = 14
number NoCameraNumber = 15
number ShotCount = 16
number LogLength = 19
number TooManyRounds = 20

-- "With it goes a mark, 0 except under 7."
abbrev pub mark : Refusal → ℕ
mark KeyLength = 0
mark NonceLength = 0
mark SecretLength = 0
mark DataTooLong = 0
mark OutputTooShort = 0
mark SealedTooShort = 0
mark (TagDiffers shot) = shot
mark NotSound = 0
mark BurstFull = 0
mark PictureLength = 0
mark BufferTooShort = 0
mark FrontBroken = 0
mark NoSuchPlace = 0
mark StripState = 0
mark NoCameraNumber = 0
mark ShotCount = 0
mark LogLength = 0
mark TooManyRounds = 0

-- ---- of what a call answered: both are 0 when it was done
abbrev pub number_of : {A : Type 0} → Result A Refusal → ℕ
number_of (Ok x) = 0
number_of (Err e) = number e

abbrev pub mark_of : {A : Type 0} → Result A Refusal → ℕ
mark_of (Ok x) = 0
mark_of (Err e) = mark e

-- what goes with it: the value, or with a refusal the one that stands for none
abbrev pub value_or : {A B : Type 0} → (A → B) → B → Result A Refusal → B
value_or f none (Ok x) = f x
value_or f none (Err e) = none
