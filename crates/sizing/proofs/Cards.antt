-- The card line: its refusal numbers, the bytes of a full burst's file, and the answer.
-- Assumes nothing.
use mathlib.Core.Bool.{◌||◌}
use mathlib.Core.List.{◌∷◌, map}
use mathlib.Core.Logic.{◌↔◌}
use mathlib.Core.Path.{◌≡◌, refl, sym, ap, subst, ◌∙◌}
use Prim.Native.Nat.{ℕ, zero, suc, ◌+◌, ◌*◌, ◌/◌, ◌%◌, ◌≤◌, ◌<◌}
use native.Mathlib.Nat.{mul-le-mul, div-add-mod', mod-lt, le-div_iff_mul-le, mul-add-div_right, mul-add-mod_self_right, div-eq_of_lt, mod-eq_of_lt}
use native.Mathlib.Omega.{arith}
use borrow.Author.Tests.{eq-eqb, ne_eqb, lt-ltb, le-ltb, eqb-false, ltb-false}
use lib.Dec.{eqb, ltb}
use lib.ListN.{length, replicate, length-replicate}
use Rattle.std.specs.Prelude.{Ok, Err}
use Rattle.refusals.specs.declared.Refusal.{Refusal}
use Rattle.refusals.specs.Numbers.{number, mark}
use Rattle.icepole.proofs.Numbers.{passed, neither}
use Rattle.burst.specs.declared.Edition.{Edition}
use Rattle.burst.specs.Editions.{Known, max_entries}
use Rattle.burst.specs.Fields.{entry_length}
use Rattle.burst.specs.Parts.{seal_length}
use Rattle.burst.specs.Layout.{max_picture}
use Rattle.trace.specs.Plain.{Firing, pictures, used_by, total_of}
use Rattle.sizing.specs.Sizing.{planned_shot, sized_edition}
use Rattle.sizing.specs.Cards.{CardLine, full_length, card_number, capacity_as, card_as, card_answer}
use Rattle.sizing.specs.Sums.{max_record}
use Rattle.refusals.proofs.Laws.{some}
use Rattle.sizing.proofs.Plans.{planned}

-- ---- the numbers, of n shots with pictures of q bytes
module _ (e : Edition) (n q : ℕ) where
  abbrev N : ℕ
  N = card_number e n q

  pub card-16 : n ≡ 0 → 16 ≡ N
  unfolding card_number
  card-16 h = sym (simp (eq-eqb n 0 h))

  module _ (h₁ : n ≡ 0 → ⊥) where
    pub card-16' : e.shots < n → 16 ≡ N
    unfolding card_number
    card-16' h = sym (simp (ne_eqb n 0 h₁, lt-ltb e.shots n h))

    module _ (h₂ : n ≤ e.shots) where
      pub card-10 : q < 1 → 10 ≡ N
      unfolding card_number
      card-10 h = sym (simp (ne_eqb n 0 h₁, le-ltb e.shots n h₂, lt-ltb q 1 h))

      module _ (h₃ : 1 ≤ q) where
        pub card-10' : max_picture < q → 10 ≡ N
        unfolding card_number
        card-10' h = sym (simp (ne_eqb n 0 h₁, le-ltb e.shots n h₂, le-ltb q 1 h₃, lt-ltb max_picture q h))

        pub card-0 : q ≤ max_picture → 0 ≡ N
        unfolding card_number
        card-0 h = sym (simp (ne_eqb n 0 h₁, le-ltb e.shots n h₂, le-ltb q 1 h₃, le-ltb max_picture q h))

pub record InRange (e : Edition) (n q : ℕ) : Type 0 where
  pub some : n ≡ 0 → ⊥
  pub most : n ≤ e.shots
  pub least : 1 ≤ q
  pub longest : q ≤ max_picture

pub in-range : (e : Edition) (n q : ℕ) → card_number e n q ≡ 0 → InRange e n q
unfolding card_number
in-range e n q h =
    let p₁₆ = passed (eqb n 0 || ltb e.shots n) _ _ h in
    let p₁₀ = passed (ltb q 1 || ltb max_picture q) _ _ p₁₆.1 in
    let d₁ = neither (eqb n 0) (ltb e.shots n) p₁₆.0 in
    let d₂ = neither (ltb q 1) (ltb max_picture q) p₁₀.0 in
    record { some = eqb-false _ _ d₁.0; most = ltb-false _ _ d₁.1; least = ltb-false _ _ d₂.0; longest = ltb-false _ _ d₂.1 }

-- ---- the bytes of a full burst's file
-- the shots of its plan, where `at` bytes were used before
planned-full : (q : ℕ) → 1 ≤ q → (n at : ℕ)
    → let xs = map planned_shot (replicate n q) in
    (used_by at xs ≡ at + n * (q + seal_length)) × (pictures xs ≡ n)
planned-full q h zero at = (omega arith, refl)
planned-full q h (suc n) at =
    let xs = map planned_shot (replicate n q) in
    let g = planned-full q h n (at + length {A = ℕ} (replicate q 0) + seal_length) in
    planned (λ (x : Firing). (used_by at (x ∷ xs) ≡ at + suc n * (q + seal_length)) × (pictures (x ∷ xs) ≡ suc n)) q (λ z. absurd (omega arith))
    (λ z. (omega (arith, g.0, length-replicate {A = ℕ} q 0), ap suc g.1))

pub full-bytes : (e : Edition) (n q : ℕ) → 1 ≤ q → e.header + n * (q + seal_length) + entry_length * n + seal_length ≡ full_length e n q
unfolding full_length total_of
full-bytes e n q h = omega (arith, planned-full q h n e.header)

-- the records fit 64 bits
pub records-bound : (e : Edition) (n q : ℕ) → Known e → InRange e n q → n * (q + seal_length) ≤ max_entries * max_record
records-bound e n q known h = mul-le-mul {n₁ = n} {m₁ = q + seal_length} {n₂ = max_entries} {m₂ = max_record} (omega (arith, known, h)) (omega (arith, h))

-- ---- the answer
module _ (e : Edition) (row : e ≡ sized_edition) (card n q : ℕ) where
  carded-by : card_as (card_number e n q) card (full_length e n q) ≡ card_answer card n q
  unfolding card_answer
  carded-by = ap (λ (x : Edition). card_as (card_number x n q) card (full_length x n q)) row

  pub card-refused : (x : Refusal) → number x ≡ card_number e n q → mark x ≡ 0 → capacity_as (Err x) ≡ card_answer card n q
  card-refused x is m = sym (simp (some x, m)) ∙ ap (λ (k : ℕ). card_as k card (full_length e n q)) is ∙ carded-by

  pub card-done : 0 ≡ card_number e n q → (each : ℕ) → each ≡ full_length e n q
      → let line = card_as 0 card each in capacity_as (Ok (record { bursts = line.bursts; left = line.left })) ≡ card_answer card n q
  card-done z each is = ap (card_as 0 card) is ∙ ap (λ (k : ℕ). card_as k card (full_length e n q)) z ∙ carded-by

-- ---- what the two numbers are to a card cut into files of so many bytes
pub record Cut (card each bursts left : ℕ) : Type 0 where
  pub below : left < each
  pub split : card ≡ bursts * each + left
  pub most : (k : ℕ) → (k * each ≤ card) ↔ (k ≤ bursts)
  pub only : (b l : ℕ) → card ≡ b * each + l → l < each → (b ≡ bursts) × (l ≡ left)

pub cut : (card each : ℕ) → 0 < each → Cut card each (card_as 0 card each).bursts (card_as 0 card each).left
cut card each some = record {
  below = omega (arith, mod-lt card some);
  split = sym (div-add-mod' card each);
  most = λ k. let w = le-div_iff_mul-le {k = each} {x = k} {y = card} some in (w.1, w.0);
  only = λ b l is less.
      let d = ap (λ (c : ℕ). c / each) is ∙ mul-add-div_right some b l in
      let m = ap (λ (c : ℕ). c % each) is ∙ mul-add-mod_self_right b each l in
      (omega (arith, d, div-eq_of_lt less), omega (arith, m, mod-eq_of_lt less));
}

pub accepted : (card n q : ℕ) → InRange sized_edition n q → (card_answer card n q).refusal ≡ 0
unfolding card_answer
accepted card n q h = sym (card-0 sized_edition n q h.some h.most h.least h.longest)

pub line-cut : (card n q : ℕ) → (card_answer card n q).refusal ≡ 0 → Cut card (full_length sized_edition n q) (card_answer card n q).bursts (card_answer card n q).left
unfolding card_answer
line-cut card n q z =
    let h = in-range sized_edition n q z in
    let each = full_length sized_edition n q in
    subst (λ (c : CardLine). Cut card each c.bursts c.left) (ap (λ (k : ℕ). card_as k card each) (sym z))
    (cut card each (omega (arith, full-bytes sized_edition n q h.least)))
