-- A place that 16 bits do not hold is answered like the largest that they hold: neither is below kept.
-- Assumes nothing.
use mathlib.Core.Bool.{Bool, true, false, cond}
use mathlib.Core.Path.{◌≡◌, refl, sym, ap, ◌∙◌}
use Prim.Native.Nat.{ℕ, zero, suc, ◌≤◌, ◌<◌}
use native.Mathlib.Omega.{arith}
use borrow.Author.Tests.{ne_eqb, le-leb, ltb-true}
use lib.Dec.{eqb, ltb}
use Rattle.bytes_le.specs.Bytes.{Bytes}
use Rattle.reader.specs.Front.{kept_in}
use Rattle.reader.specs.Reader.{check_refusal, record_refusal, locate_answer, fetch_answer, fetch_output}
use Rattle.reader.proofs.Answers.{accepted, fetch-refused}
use Rattle.burst_c.specs.Calls.{last_place, place_of}

module _ (key f : Bytes) where
  -- check's number, else 13
  far : (place : ℕ) → last_place ≤ place → (n : ℕ) → check_refusal key f ≡ n → record_refusal key f place ≡ cond (eqb n 0) 13 n
  unfolding record_refusal
  far place h zero e =
      let w = (accepted key f e).front in
      simp (e, le-leb (kept_in f) place (omega (arith, w.known, w.most, w.counts)))
  far place h (suc n) e = simp (e, ne_eqb (suc n) 0 (λ i. omega arith))

  not-zero : (n : ℕ) → cond (eqb n 0) 13 n ≡ 0 → ⊥
  not-zero zero h = omega arith
  not-zero (suc n) h = let z : suc n ≡ 0 = simp (ne_eqb (suc n) 0 (λ i. omega arith)) at h in omega arith

  module _ (place : ℕ) where
    module _ (h : last_place < place) where
      same_number : record_refusal key f place ≡ record_refusal key f last_place
      same_number = far place (omega arith) (check_refusal key f) refl ∙ sym (far last_place (omega arith) (check_refusal key f) refl)

      refused : record_refusal key f place ≡ 0 → ⊥
      refused z = not-zero (check_refusal key f) (sym (far place (omega arith) (check_refusal key f) refl) ∙ z)

      far-located : locate_answer key f last_place ≡ locate_answer key f place
      unfolding locate_answer
      far-located = simp (sym same_number, ne_eqb (record_refusal key f place) 0 refused)

    -- an answer for the place in 16 bits is the answer for the place
    module _ (q : ℕ) (is : q ≡ place_of place) where
      by : {A : Type 0} (answer : ℕ → A) (b : Bool) → ltb last_place place ≡ b → (last_place < place → answer last_place ≡ answer place)
          → answer (cond b last_place place) ≡ answer place
      by answer true t h = h (ltb-true _ _ t)
      by answer false t h = refl

      pub at-located : locate_answer key f q ≡ locate_answer key f place
      at-located = ap (locate_answer key f) is ∙ by (locate_answer key f) (ltb last_place place) refl far-located

      module _ (out : Bytes) where
        pub at-fetched : fetch_answer key f q out ≡ fetch_answer key f place out
        at-fetched =
            ap (λ (i : ℕ). fetch_answer key f i out) is
            ∙ by (λ (i : ℕ). fetch_answer key f i out) (ltb last_place place) refl
            (λ h. sym (fetch-refused key f last_place out _ _ (same_number h) refl (refused h)).0 ∙ (fetch-refused key f place out _ _ refl refl (refused h)).0)

        pub at-output : fetch_output key f q out ≡ fetch_output key f place out
        at-output =
            ap (λ (i : ℕ). fetch_output key f i out) is
            ∙ by (λ (i : ℕ). fetch_output key f i out) (ltb last_place place) refl
            (λ h. sym (fetch-refused key f last_place out _ _ (same_number h) refl (refused h)).1 ∙ (fetch-refused key f place out _ _ refl refl (refused h)).1)
