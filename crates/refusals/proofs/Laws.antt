-- Number and mark tell a refusal from every other and from a call that was done: a contract that gives both gives the answer.
-- Assumes nothing.
use native.Mathlib.Omega.{arith}
use borrow.Author.Tests.{ne_eqb}
use Rattle.std.specs.Prelude.{◌≡◌, false, eqb, refl, List, [], ◌∷◌, ℕ, ◌<◌, get_or, Result, Err}
use Rattle.std.specs.Result.{IsErrAnd}
use Rattle.std.proofs.lemmas.Result.{err_from_is_err_and}
use Rattle.std.proofs.Common.{◌∙◌, sym, ap, ap₂, rules}
use Rattle.refusals.specs.declared.Refusal.{Refusal}
use Rattle.refusals.specs.declared.Refusal.TheVariants.{KeyLength, NonceLength, SecretLength, DataTooLong, OutputTooShort, SealedTooShort, TagDiffers, NotSound, BurstFull, PictureLength, BufferTooShort, FrontBroken, NoSuchPlace, StripState, NoCameraNumber, ShotCount, LogLength, TooManyRounds}
use Rattle.refusals.specs.Numbers.{number, mark}

pub positive : (e : Refusal) → 0 < number e
positive KeyLength = search rules
positive NonceLength = search rules
positive SecretLength = search rules
positive DataTooLong = search rules
positive OutputTooShort = search rules
positive SealedTooShort = search rules
positive (TagDiffers shot) = search rules
positive NotSound = search rules
positive BurstFull = search rules
positive PictureLength = search rules
positive BufferTooShort = search rules
positive FrontBroken = search rules
positive NoSuchPlace = search rules
positive StripState = search rules
positive NoCameraNumber = search rules
positive ShotCount = search rules
positive LogLength = search rules
positive TooManyRounds = search rules

-- a refusal's number is not that of a call that was done
pub not-done : (e : Refusal) → number e ≡ 0 → ⊥
not-done e h = let p = positive e in omega (arith, p, h)

pub some : (e : Refusal) → eqb (number e) 0 ≡ false
some e = ne_eqb (number e) 0 (not-done e)

-- ---- number and mark tell the refusal
-- the refusals by their numbers; a number that none has gives the first
abbrev by-number : ℕ → List Refusal
by-number m =
    KeyLength
    ∷ KeyLength
    ∷ NonceLength
    ∷ SecretLength
    ∷ DataTooLong
    ∷ OutputTooShort
    ∷ SealedTooShort
    ∷ TagDiffers m
    ∷ NotSound
    ∷ BurstFull
    ∷ PictureLength
    ∷ BufferTooShort
    ∷ FrontBroken
    ∷ NoSuchPlace
    ∷ StripState
    ∷ NoCameraNumber
    ∷ ShotCount
    ∷ KeyLength
    ∷ KeyLength
    ∷ LogLength
    ∷ TooManyRounds
    ∷ []

abbrev refusal_of : ℕ → ℕ → Refusal
refusal_of n m = get_or (by-number m) n KeyLength

back : (e : Refusal) → refusal_of (number e) (mark e) ≡ e
back KeyLength = refl
back NonceLength = refl
back SecretLength = refl
back DataTooLong = refl
back OutputTooShort = refl
back SealedTooShort = refl
back (TagDiffers shot) = refl
back NotSound = refl
back BurstFull = refl
back PictureLength = refl
back BufferTooShort = refl
back FrontBroken = refl
back NoSuchPlace = refl
back StripState = refl
back NoCameraNumber = refl
back ShotCount = refl
back LogLength = refl
back TooManyRounds = refl

pub told : (e f : Refusal) → number e ≡ number f → mark e ≡ mark f → e ≡ f
told e f p q = sym (back e) ∙ ap₂ refusal_of p q ∙ back f

-- ---- an answer that `?` passes on
pub passed-on : {A : Type 0} (r : Result A Refusal) (e : Refusal) → IsErrAnd r (λ y. y ≡ e) → r ≡ Err e
passed-on r e h = let p = err_from_is_err_and r h in p.1 ∙ ap Err p.2
