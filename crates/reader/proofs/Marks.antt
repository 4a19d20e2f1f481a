-- Where a tag differs, and the mark of the first that does: at the closing seal, or at the record of a place.
-- Assumes nothing.
use mathlib.Core.Bool.{Bool, true, false}
use mathlib.Core.Logic.{◌⊎◌, inl, inr}
use mathlib.Core.Path.{◌≡◌, refl, sym, ap, ◌∙◌}
use Prim.Native.Nat.{ℕ, zero, suc, ◌+◌, ◌*◌, ◌<◌}
use native.Mathlib.Omega.{arith}
use Rattle.bytes_le.specs.Bytes.{Bytes}
use Rattle.burst.proofs.Rules.{clash}
use Rattle.reader.specs.Verdicts.{Verdict, Agree, Differs, verdict_number, verdict_mark}
use Rattle.reader.specs.Front.{kept_in, index_offset_in, entry_at, position_of}
use Rattle.reader.specs.Reader.{closing_part, record_part, record_parts, agrees, verdict_on, verdict}
use Rattle.reader.proofs.Parts.{agree, parts-end, parts_next, parts-differ, all-agree, first-agrees}

pub seven : (v : Verdict) → (verdict_number v ≡ 0 → ⊥) → verdict_number v ≡ 7
seven Agree h = absurd (h refl)
seven (Differs s) h = refl

module _ (key f : Bytes) where
  abbrev at : ℕ → Bool
  at position = agrees key f (record_part f position)

  abbrev number : ℕ → ℕ → ℕ
  number n position = verdict_number (verdict_on key f (record_parts n position f))

  -- ---- the records of n entries from a position on
  abbrev Somewhere : ℕ → ℕ → Type 0
  Somewhere n position = (j : ℕ) × (j < n) × (at (position + 12 * j) ≡ false)

  next_place : (position j : ℕ) → position + 12 + 12 * j ≡ position + 12 * suc j
  next_place position j = omega arith

  differs-step : (n position : ℕ) (b : Bool) → at position ≡ b → ((number n (position + 12) ≡ 0 → ⊥) → Somewhere n (position + 12)) → (number (suc n) position ≡ 0 → ⊥)
      → Somewhere (suc n) position
  differs-step n position true e more h =
      let r = more (λ z. h (ap verdict_number (parts_next key f n position e) ∙ z)) in
      let l = r.1 in
      (suc r.0, omega arith, ap at (sym (next_place position r.0)) ∙ r.2)
  differs-step n position false e more h = (0, omega arith, ap at (let z : position + 12 * 0 ≡ position = omega arith in z) ∙ e)

  differs : (n position : ℕ) → (number n position ≡ 0 → ⊥) → Somewhere n position
  differs zero position h = absurd (h (ap verdict_number (parts-end key f position)))
  differs (suc n) position h = differs-step n position (at position) refl (differs n (position + 12)) h

  -- the mark is the shot number of the first that differs
  first-mark : (n position j : ℕ) → j < n → at (position + 12 * j) ≡ false → ((i : ℕ) → i < j → at (position + 12 * i) ≡ true)
      → verdict_mark (verdict_on key f (record_parts n position f)) ≡ (entry_at f (position + 12 * j)).shot.0
  first-mark zero position j l d g = absurd (omega arith)
  first-mark (suc n) position zero l d g =
      let z : position + 12 * 0 ≡ position = omega arith in
      ap verdict_mark (parts-differ key f n position (ap at (sym z) ∙ d)) ∙ ap (λ (p : ℕ). (entry_at f p).shot.0) (sym z)
  first-mark (suc n) position (suc j) l d g =
      let z : position + 12 * 0 ≡ position = omega arith in
      ap verdict_mark (parts_next key f n position (ap at (sym z) ∙ g 0 (omega arith)))
      ∙ first-mark n (position + 12) j (omega arith) (ap at (next_place position j) ∙ d) (λ i h. ap at (next_place position i) ∙ g (suc i) (omega arith))
      ∙ ap (λ (p : ℕ). (entry_at f p).shot.0) (next_place position j)

  -- ---- the whole file
  abbrev closing : Bool
  closing = agrees key f (closing_part f)

  abbrev record_at : ℕ → Bool
  record_at place = at (position_of f place)

  abbrev pub SomeDiffers : Type 0
  SomeDiffers = (closing ≡ false) ⊎ ((place : ℕ) × (place < kept_in f) × (record_at place ≡ false))

  closing-differs : closing ≡ false → verdict key f ≡ Differs (record { 0 = 0 })
  unfolding verdict verdict_on
  closing-differs h = simp h

  closing-agrees : closing ≡ true → verdict key f ≡ verdict_on key f (record_parts (kept_in f) (index_offset_in f) f)
  unfolding verdict verdict_on
  closing-agrees h = simp h

  by-closing : (b : Bool) → closing ≡ b → (verdict_number (verdict key f) ≡ 0 → ⊥) → SomeDiffers
  by-closing true e h = inr (differs (kept_in f) (index_offset_in f) (λ z. h (ap verdict_number (closing-agrees e) ∙ z)))
  by-closing false e h = inl e

  pub differing : (verdict_number (verdict key f) ≡ 0 → ⊥) → SomeDiffers
  differing h = by-closing closing refl h

  all-as-said : verdict_number (verdict key f) ≡ 0 → (closing ≡ true) × (verdict_on key f (record_parts (kept_in f) (index_offset_in f) f) ≡ Agree)
  unfolding verdict
  all-as-said h = first-agrees key f (closing_part f) (record_parts (kept_in f) (index_offset_in f) f) (agree (verdict key f) h)

  pub agreeing : verdict_number (verdict key f) ≡ 0 → SomeDiffers → ⊥
  agreeing h (inl d) = clash closing (all-as-said h).0 d
  agreeing h (inr d) = clash (record_at d.0) (all-agree key f (kept_in f) (index_offset_in f) d.0 (all-as-said h).1 d.1) d.2

  pub mark-closing : closing ≡ false → verdict_mark (verdict key f) ≡ 0
  mark-closing h = ap verdict_mark (closing-differs h)

  pub mark-record : closing ≡ true → (place : ℕ) → place < kept_in f → record_at place ≡ false → ((before : ℕ) → before < place → record_at before ≡ true)
      → verdict_mark (verdict key f) ≡ (entry_at f (position_of f place)).shot.0
  mark-record h place l d g = ap verdict_mark (closing-agrees h) ∙ first-mark (kept_in f) (index_offset_in f) place l d g
