-- The answers of the calls, and what they leave in the output, from the number that the code found.
-- Assumes nothing.
use mathlib.Core.Path.{◌≡◌, sym, ap, ap₂, ◌∙◌}
use mathlib.Core.Bool.{false}
use mathlib.Core.List.{◌++◌}
use Prim.Native.Nat.{ℕ, ◌+◌}
use native.Mathlib.Omega.{arith}
use borrow.Author.Tests.{ne_eqb}
use lib.ListN.{length, length-append}
use Rattle.std.specs.Prelude.{Result}
use Rattle.std.specs.Result.{IsErrAnd}
use Rattle.refusals.specs.declared.Refusal.{Refusal}
use Rattle.refusals.specs.Numbers.{number, mark}
use Rattle.refusals.proofs.Laws.{passed-on, positive}
use Rattle.bytes_le.specs.Bytes.{Bytes, put_bytes}
use Rattle.blocks.specs.declared.Sizes.{Sizes}
use Rattle.icepole.specs.declared.Variant.TheVariants.{Icepole128}
use Rattle.icepole.specs.Variants.{sizes}
use Rattle.blocks.specs.Sealing.{◌⊕₈◌, keyed, ready}
use Rattle.icepole.specs.Answers.{unless}
use Rattle.strips.specs.declared.StripState.{StripState}
use Rattle.strips.specs.Machine.{ended, fed, fed_bytes}
use Rattle.strips.specs.Answers.{StripAnswer, answered, block, call_as, held_in, not_started, started, start_answer, start_number, start_output, start_refusal}
use Rattle.strips.specs.Answers.{after_end, after_strip, end_answer, end_number, end_output, end_refusal, strip_answer, strip_number, strip_output, strip_refusal}

-- what was stays under a number that is not 0, and under no other
pub kept : {A : Type 0} (num : ℕ) (was is : A) → (num ≡ 0 → ⊥) → unless num was is ≡ was
kept num was is h = simp (ne_eqb num 0 h)

pub changed : {A : Type 0} (num : ℕ) (was is : A) → num ≡ 0 → unless num was is ≡ is
changed num was is h = simp h

pub nonzero : (e : Refusal) → number e ≡ 0 → ⊥
nonzero e z = let h = positive e in omega (arith, h, z)

abbrev pub told : ℕ → ℕ → StripState → StripAnswer
told num count s = record { refusal = num; mark = 0; count = count; state = s }

-- what `?` passes on, told with the state in s
pub passed : (r : Result ℕ Refusal) (e : Refusal) (s : StripState) → IsErrAnd r (λ y. y ≡ e) → mark e ≡ 0 → call_as r s ≡ told (number e) 0 s
passed r e s h em =
    ap (λ (r : Result ℕ Refusal). call_as r s) (passed-on r e h) ∙ ap (λ (m : ℕ). record { refusal = number e; mark = m; count = 0; state = s }) em

module _ (num : ℕ) (was is : StripState) (count : ℕ) (o o' : Bytes) where
  refused : (n : ℕ) → n ≡ num → (n ≡ 0 → ⊥) → (told n 0 was ≡ answered num was is count) × (o ≡ unless num o o')
  refused n e h = let z = ne_eqb num 0 (λ i. h (e ∙ i)) in (ap (λ (n : ℕ). told n 0 was) e ∙ sym (simp z), sym (simp z))

  done : 0 ≡ num → (told 0 count is ≡ answered num was is count) × (o' ≡ unless num o o')
  done e = let z = sym e in (sym (simp z), sym (simp z))

-- ---- start
-- the number, from the lengths of what is lent
pub start-number-of : (k n s f g o : Bytes) (num : ℕ) → num ≡ start_number (sizes Icepole128) (length k) (length n) (length s) (length f + length g) (length o)
    → num ≡ start_refusal k n s (f ++ g) o
unfolding start_refusal
start-number-of k n s f g o num e =
    e ∙ ap (λ (a : ℕ). start_number (sizes Icepole128) (length k) (length n) (length s) a (length o)) (sym (length-append f g))

module _ (k n s f g o : Bytes) where
  abbrev number-of-start : ℕ
  number-of-start = start_number (sizes Icepole128) (length k) (length n) (length s) (length f + length g) (length o)

  pub start-refused : (num : ℕ) → num ≡ number-of-start → (num ≡ 0 → ⊥)
      → (told num 0 not_started ≡ start_answer k n s (f ++ g) o) × (o ≡ start_output k n s (f ++ g) o)
  unfolding start_answer start_output
  start-refused num e =
      refused (start_refusal k n s (f ++ g) o) not_started (started k n s (f ++ g) o) 16 o (put_bytes o 0 (keyed k n ⊕₈ s)) num
      (start-number-of k n s f g o num e)

  -- q is what the code has for the sizes
  pub start-done : 0 ≡ number-of-start → (q : Sizes) → q ≡ sizes Icepole128 → (b o' : Bytes) → b ≡ ready q.block (keyed k n) s (f ++ g)
      → o' ≡ put_bytes o 0 (keyed k n ⊕₈ s)
      → (told 0 q.secret (record { bytes = b; count = 0; finished = false }) ≡ start_answer k n s (f ++ g) o) × (o' ≡ start_output k n s (f ++ g) o)
  unfolding start_answer start_output
  start-done e q eq b o' eb eo =
      let d = done (start_refusal k n s (f ++ g) o) not_started (started k n s (f ++ g) o) 16 o (put_bytes o 0 (keyed k n ⊕₈ s))
      (start-number-of k n s f g o 0 e) in (
        ap₂ (λ (c : ℕ) (b : Bytes). told 0 c (record { bytes = b; count = 0; finished = false })) (ap (λ (q : Sizes). q.secret) eq)
            (eb ∙ ap (λ (q : Sizes). ready q.block (keyed k n) s (f ++ g)) eq)
            ∙ d.0,
        eo ∙ d.1,
      )

-- ---- strip
module _ (s : StripState) (m o : Bytes) where
  pub strip-refused : (num : ℕ) → num ≡ strip_number s.finished s.count (length m) (length o) → (num ≡ 0 → ⊥)
      → (told num 0 s ≡ strip_answer s m o) × (o ≡ strip_output s m o)
  unfolding strip_refusal strip_answer strip_output
  strip-refused = refused (strip_refusal s m o) s (after_strip s m o) (length m) o (put_bytes o 0 (fed_bytes block (held_in s) m))

  pub strip-done : 0 ≡ strip_number s.finished s.count (length m) (length o)
      → (b o' : Bytes) → b ≡ (fed block (held_in s) m).state → o' ≡ put_bytes o 0 (fed_bytes block (held_in s) m)
      → (told 0 (length m) (record { bytes = b; count = s.count + length m; finished = false }) ≡ strip_answer s m o) × (o' ≡ strip_output s m o)
  unfolding strip_refusal strip_answer strip_output
  strip-done e b o' eb eo =
      let d = done (strip_refusal s m o) s (after_strip s m o) (length m) o (put_bytes o 0 (fed_bytes block (held_in s) m)) e in
      (ap (λ (b : Bytes). told 0 (length m) (record { bytes = b; count = s.count + length m; finished = false })) eb ∙ d.0, eo ∙ d.1)

-- ---- end
module _ (s : StripState) (o : Bytes) where
  pub end_refused : (num : ℕ) → num ≡ end_number s.finished s.count (length o) → (num ≡ 0 → ⊥)
      → (told num 0 s ≡ end_answer s o) × (o ≡ end_output s o)
  unfolding end_refusal end_answer end_output
  end_refused = refused (end_refusal s o) s (after_end s o) 16 o (put_bytes o 0 (ended (held_in s)))

  pub end-done : 0 ≡ end_number s.finished s.count (length o) → (o' : Bytes) → o' ≡ put_bytes o 0 (ended (held_in s))
      → (told 0 16 (after_end s o) ≡ end_answer s o) × (o' ≡ end_output s o)
  unfolding end_refusal end_answer end_output
  end-done e o' eo = let d = done (end_refusal s o) s (after_end s o) 16 o (put_bytes o 0 (ended (held_in s))) e in (d.0, eo ∙ d.1)
