-- The verdict on sealed parts, turn by turn, and at a place.
-- Assumes nothing.
use mathlib.Core.Bool.{Bool, true, false, cond}
use mathlib.Core.List.{List, [], ◌∷◌}
use mathlib.Core.Path.{◌≡◌, refl, sym, ap, ◌∙◌}
use Prim.Native.Nat.{ℕ, zero, suc, ◌+◌, ◌*◌, ◌<◌}
use native.Mathlib.Omega.{arith}
use Rattle.bytes_le.specs.Bytes.{Bytes}
use Rattle.std.specs.Prelude.{Result, Ok, Err}
use Rattle.refusals.specs.declared.Refusal.{Refusal}
use Rattle.refusals.specs.declared.Refusal.TheVariants.{TagDiffers}
use Rattle.refusals.specs.Numbers.{number, mark}
use Rattle.burst.specs.declared.Entry.{Entry}
use Rattle.burst.specs.declared.Shot.{Shot}
use Rattle.reader.specs.Front.{entry_at}
use Rattle.reader.specs.Verdicts.{Verdict, Agree, Differs, verdict_number, verdict_mark, tested}
use Rattle.reader.specs.Reader.{Part, record_part, record_parts, agrees, verdict_on}

pub agree : (v : Verdict) → verdict_number v ≡ 0 → v ≡ Agree
agree Agree h = refl
agree (Differs shot) h = absurd (omega arith)

-- what verifying a list of parts answers, of the verdict on them
pub all-tested : (v : Verdict) → Ok tt ≡ tested v → v ≡ Agree
all-tested Agree h = refl
all-tested (Differs s) h = let z : ◌≡◌ {A = ℕ} 0 1 = cc in absurd (omega arith)

pub refused-by : (v : Verdict) (e : Refusal) → ◌≡◌ {A = Result (Unit {0}) Refusal} (Err e) (tested v) → (verdict_number v ≡ number e) × (verdict_mark v ≡ mark e)
refused-by Agree e h = let z : ◌≡◌ {A = ℕ} 0 1 = cc in absurd (omega arith)
refused-by (Differs s) e h = let i : e ≡ TagDiffers s.0 = cc in (ap number (sym i), ap mark (sym i))

first-tested : (b : Bool) (v : Verdict) (s : Shot) → Ok tt ≡ tested (cond b Agree (Differs s)) → cond b v (Differs s) ≡ v
first-tested true v s h = refl
first-tested false v s h = let z : ◌≡◌ {A = ℕ} 0 1 = cc in absurd (omega arith)

first-error : (b : Bool) (v : Verdict) (s : Shot) (e : Refusal) → ◌≡◌ {A = Result (Unit {0}) Refusal} (Err e) (tested (cond b Agree (Differs s)))
    → ◌≡◌ {A = Result (Unit {0}) Refusal} (Err e) (tested (cond b v (Differs s)))
first-error true v s e h = let z : ◌≡◌ {A = ℕ} 0 1 = cc in absurd (omega arith)
first-error false v s e h = h

module _ (key f : Bytes) where
  pub parts-end : (position : ℕ) → verdict_on key f (record_parts 0 position f) ≡ Agree
  unfolding verdict_on record_parts
  parts-end position = refl

  module _ (left position : ℕ) where
    pub parts_next : agrees key f (record_part f position) ≡ true
        → verdict_on key f (record_parts (suc left) position f) ≡ verdict_on key f (record_parts left (position + 12) f)
    unfolding verdict_on record_parts
    parts_next h = simp h

    pub parts-differ : agrees key f (record_part f position) ≡ false → verdict_on key f (record_parts (suc left) position f) ≡ Differs (record { 0 = (record_part f position).shot })
    unfolding verdict_on record_parts
    parts-differ h = simp h

  -- verifying one record, and the records behind it
  module _ (position : ℕ) where
    pub record-agrees : agrees key f (record_part f position) ≡ true → Ok tt ≡ tested (verdict_on key f (record_part f position ∷ []))
    unfolding verdict_on
    record-agrees h = sym (simp h)

    pub record-differs : (x : Entry) → x ≡ entry_at f position → (e : Refusal) → e ≡ TagDiffers x.shot.0 → agrees key f (record_part f position) ≡ false
        → ◌≡◌ {A = Result (Unit {0}) Refusal} (Err e) (tested (verdict_on key f (record_part f position ∷ [])))
    unfolding verdict_on
    record-differs x is e told h =
        ap (λ (y : Refusal). let r : Result (Unit {0}) Refusal = Err y in r) (told ∙ ap (λ (y : Entry). TagDiffers y.shot.0) is) ∙ sym (simp h)

    module _ (left : ℕ) where
      pub first-verified : Ok tt ≡ tested (verdict_on key f (record_part f position ∷ []))
          → verdict_on key f (record_parts (suc left) position f) ≡ verdict_on key f (record_parts left (position + 12) f)
      unfolding verdict_on record_parts
      first-verified h = first-tested (agrees key f (record_part f position)) _ _ h

      pub first-refused : (e : Refusal) → ◌≡◌ {A = Result (Unit {0}) Refusal} (Err e) (tested (verdict_on key f (record_part f position ∷ [])))
          → ◌≡◌ {A = Result (Unit {0}) Refusal} (Err e) (tested (verdict_on key f (record_parts (suc left) position f)))
      unfolding verdict_on record_parts
      first-refused e h = first-error (agrees key f (record_part f position)) _ _ e h

  passed : (b : Bool) (v : Verdict) (s : Shot) → cond b v (Differs s) ≡ Agree → (b ≡ true) × (v ≡ Agree)
  passed true v s h = (refl, h)
  passed false v s h = let z : ◌≡◌ {A = ℕ} 0 1 = cc in absurd (omega arith)

  pub first-agrees : (p : Part) (ps : List Part) → verdict_on key f (p ∷ ps) ≡ Agree → (agrees key f p ≡ true) × (verdict_on key f ps ≡ Agree)
  unfolding verdict_on
  first-agrees p ps h = passed (agrees key f p) (verdict_on key f ps) (record { 0 = p.shot }) h

  -- every record agrees
  pub all-agree : (n position j : ℕ) → verdict_on key f (record_parts n position f) ≡ Agree → j < n → agrees key f (record_part f (position + 12 * j)) ≡ true
  unfolding record_parts
  all-agree zero position j h g = absurd (omega arith)
  all-agree (suc n) position zero h g =
      let e : position ≡ position + 12 * 0 = omega arith in
      ap (λ (i : ℕ). agrees key f (record_part f i)) (sym e) ∙ (first-agrees (record_part f position) (record_parts n (position + 12) f) h).0
  all-agree (suc n) position (suc j) h g =
      let e : position + 12 + 12 * j ≡ position + 12 * suc j = omega arith in
      ap (λ (i : ℕ). agrees key f (record_part f i)) (sym e)
      ∙ all-agree n (position + 12) j (first-agrees (record_part f position) (record_parts n (position + 12) f) h).1 (omega arith)
