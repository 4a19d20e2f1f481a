-- Scripts, call by call: what stands first, and what is left behind it.
-- Assumes nothing.
use mathlib.Core.Bool.{Bool, true, false, cond}
use mathlib.Core.List.{List, [], ◌∷◌, ◌++◌}
use mathlib.Core.Logic.{◌⊎◌, inl, inr}
use mathlib.Core.Option.{Option, some, none, some-injective}
use mathlib.Core.Path.{◌≡◌, refl, sym, ap, ap₂, ◌∙◌}
use Prim.Native.Nat.{ℕ, zero, suc, ◌+◌, ◌*◌, ◌≤◌, ◌<◌}
use native.Mathlib.Omega.{arith}
use borrow.Author.Tests.{eq-eqb, ne_eqb, lt-ltb, le-ltb, eqb-false, ltb-false}
use lib.Dec.{eqb, ltb}
use lib.ListN.{length, take, drop}
use Rattle.std.specs.Prelude.{Result, Ok, Err, Some, None, slice_get}
use Rattle.std.specs.Result.{result_unwrap_or}
use Rattle.refusals.specs.declared.Refusal.{Refusal}
use Rattle.refusals.specs.Numbers.{value_or}
use Rattle.bytes_le.specs.Bytes.{Bytes, put_bytes, le, le_at}
use Rattle.bytes_le.proofs.Laws.{put-put}
use Rattle.burst.specs.declared.Recorder.{Recorder}
use Rattle.trace.specs.Plain.{by_value, Call, keep_shot, drop_shot, close_burst, Answer}
use Rattle.trace.specs.Trace.{next_recorder, next_buffer, answers_from}
use Rattle.replay.specs.Replay.{stamp_length, picture_length, keep_length, keep_in, first_call, following, script_calls, leaving, script_rest, answers_bytes}

-- ---- the first byte
pub no-byte : (s : Bytes) → None ≡ slice_get s 0 → length s ≡ 0
no-byte [] h = refl
no-byte (x ∷ s) h = let z : ◌≡◌ {A = ℕ} 0 1 = cc in absurd (omega arith)

pub first-byte : (s : Bytes) (x : ℕ) → Some x ≡ slice_get s 0 → (length s ≡ 0 → ⊥) × (le_at 1 s 0 ≡ x)
unfolding le_at
first-byte [] x h = let z : ◌≡◌ {A = ℕ} 0 1 = cc in absurd (omega arith)
first-byte (y ∷ s) x h = let e : x ≡ y = cc in (λ z. omega arith, omega arith)

-- ---- the first call
module _ (s : Bytes) where
  pub first-end : length s ≡ 0 → first_call s ≡ none
  unfolding first_call
  first-end h = simp (eq-eqb (length s) 0 h)

  module _ (hs : length s ≡ 0 → ⊥) where
    pub first-drop : le_at 1 s 0 ≡ 0 → first_call s ≡ some (drop_shot by_value, 1)
    unfolding first_call
    first-drop h = simp (ne_eqb (length s) 0 hs, eq-eqb (le_at 1 s 0) 0 h)

    pub first-close : le_at 1 s 0 ≡ 1 → first_call s ≡ some (close_burst, 1)
    unfolding first_call
    first-close h = simp (ne_eqb (length s) 0 hs, h)

    pub first-other : (le_at 1 s 0 ≡ 0 → ⊥) → (le_at 1 s 0 ≡ 1 → ⊥) → (le_at 1 s 0 ≡ 2 → ⊥) → first_call s ≡ none
    unfolding first_call
    first-other h₀ h₁ h₂ = simp (ne_eqb (length s) 0 hs, ne_eqb (le_at 1 s 0) 0 h₀, ne_eqb (le_at 1 s 0) 1 h₁, ne_eqb (le_at 1 s 0) 2 h₂)

    module _ (h₂ : le_at 1 s 0 ≡ 2) where
      pub first-cut : length s < keep_length s → first_call s ≡ none
      unfolding first_call
      first-cut h = simp (ne_eqb (length s) 0 hs, h₂, lt-ltb (length s) (keep_length s) h)

      pub first-keep : keep_length s ≤ length s → first_call s ≡ some (keep_in s, keep_length s)
      unfolding first_call
      first-keep h = simp (ne_eqb (length s) 0 hs, h₂, le-ltb (length s) (keep_length s) h)

      -- as the code has stamp and picture
      pub keep-first : (m p n₁ n₂ : ℕ) → m ≡ stamp_length s → p ≡ picture_length s → n₁ ≡ m → n₂ ≡ p → 6 + m + p ≤ length s
          → some (keep_shot (take n₁ (drop 6 s)) (take n₂ (drop (6 + m) s)), 6 + m + p) ≡ first_call s
      keep-first m p n₁ n₂ em ep e₁ e₂ h =
          let l : 6 + m + p ≡ keep_length s = omega arith in
          let c : keep_shot (take n₁ (drop 6 s)) (take n₂ (drop (6 + m) s)) ≡ keep_in s =
          ap₂ keep_shot (ap (λ (n : ℕ). take n (drop 6 s)) (e₁ ∙ em)) (ap₂ (λ (n k : ℕ). take n (drop (6 + k) s)) (e₂ ∙ ep) em) in
          ap₂ (λ (c : Call) (n : ℕ). some (c, n)) c l ∙ sym (first-keep (omega arith))

not_none : (b : Bool) (o : Option (Call × ℕ)) (x : Call × ℕ) → cond b none o ≡ some x → (b ≡ false) × (o ≡ some x)
not_none true o x h = let z : ◌≡◌ {A = ℕ} 0 1 = cc in absurd (omega arith)
not_none false o x h = (refl, h)

or-none : (b : Bool) (o : Option (Call × ℕ)) (x : Call × ℕ) → cond b o none ≡ some x → o ≡ some x
or-none true o x h = h
or-none false o x h = let z : ◌≡◌ {A = ℕ} 0 1 = cc in absurd (omega arith)

this-or : (b : Bool) (y : Call × ℕ) (o : Option (Call × ℕ)) (x : Call × ℕ) → cond b (some y) o ≡ some x → (y ≡ x) ⊎ (o ≡ some x)
this-or true y o x h = inl (some-injective _ _ h)
this-or false y o x h = inr h

-- a call lies within its script
pub first_fits : (s : Bytes) (x : Call × ℕ) → first_call s ≡ some x → x.1 ≤ length s
unfolding first_call
first_fits s x h =
    let h₁ = not_none (eqb (length s) 0) _ x h in
    let l : length s ≡ 0 → ⊥ = eqb-false _ _ h₁.0 in
    second l (this-or (eqb (le_at 1 s 0) 0) (drop_shot by_value, 1) _ x h₁.1)
  where
    keep : Option (Call × ℕ)
    keep = cond (ltb (length s) (keep_length s)) none (some (keep_in s, keep_length s))

    fourth : cond (eqb (le_at 1 s 0) 2) keep none ≡ some x → x.1 ≤ length s
    fourth g =
        let g₁ = not_none (ltb (length s) (keep_length s)) _ x (or-none (eqb (le_at 1 s 0) 2) _ x g) in
        let e : keep_length s ≡ x.1 = ap (λ (y : Call × ℕ). y.1) (some-injective _ _ g₁.1) in
        let m : keep_length s ≤ length s = ltb-false _ _ g₁.0 in
        omega arith

    third : (length s ≡ 0 → ⊥) → (◌≡◌ {A = Call × ℕ} (close_burst, 1) x) ⊎ (cond (eqb (le_at 1 s 0) 2) keep none ≡ some x) → x.1 ≤ length s
    third l (inl e) = let m : 1 ≡ x.1 = ap (λ (y : Call × ℕ). y.1) e in omega arith
    third l (inr g) = fourth g

    second : (length s ≡ 0 → ⊥) → (◌≡◌ {A = Call × ℕ} (drop_shot by_value, 1) x) ⊎ (cond (eqb (le_at 1 s 0) 1) (some (close_burst, 1)) (cond (eqb (le_at 1 s 0) 2) keep none) ≡ some x)
        → x.1 ≤ length s
    second l (inl e) = let m : 1 ≡ x.1 = ap (λ (y : Call × ℕ). y.1) e in omega arith
    second l (inr g) = third l (this-or (eqb (le_at 1 s 0) 1) (close_burst, 1) _ x g)

-- ---- lengths
pub calls-most : (n : ℕ) (s : Bytes) → length (script_calls n s) ≤ n
calls-most zero s = omega arith
calls-most (suc n) s = by (first_call s) (λ m. calls-most n (drop m s))
  where
    by : (o : Option (Call × ℕ)) → ((m : ℕ) → length (script_calls n (drop m s)) ≤ n) → length (following o (λ m. script_calls n (drop m s))) ≤ suc n
    by none f = omega arith
    by (some x) f = let h = f x.1 in omega arith

pub answers-length : (r : Recorder) (b : Bytes) (cs : List Call) → length (answers_from r b cs) ≡ length cs
answers-length r b [] = refl
answers-length r b (c ∷ cs) = ap suc (answers-length (next_recorder r b c) (next_buffer r b c) cs)

pub bytes-length : (ts : List Answer) → length (answers_bytes ts) ≡ 8 * length ts
bytes-length [] = refl
bytes-length (t ∷ ts) = let h = bytes-length ts in omega arith

-- ---- what is left of the calls and of the script s behind its first call, or where there is none
module _ (n : ℕ) (s : Bytes) where
  pub left-none : first_call s ≡ none → (script_calls (suc n) s ≡ []) × (script_rest (suc n) s ≡ s)
  left-none e =
      (ap (λ (o : Option (Call × ℕ)). following o (λ m. script_calls n (drop m s))) e, ap (λ (o : Option (Call × ℕ)). leaving o s (λ m. script_rest n (drop m s))) e)

  pub left-some : (x : Call × ℕ) → first_call s ≡ some x
      → (script_calls (suc n) s ≡ x.0 ∷ script_calls n (drop x.1 s)) × (script_rest (suc n) s ≡ script_rest n (drop x.1 s))
  left-some x e =
      (ap (λ (o : Option (Call × ℕ)). following o (λ m. script_calls n (drop m s))) e, ap (λ (o : Option (Call × ℕ)). leaving o s (λ m. script_rest n (drop m s))) e)

-- ---- an answer's two numbers, and the value as the code works it out
pub put-two : (a a₁ a₂ : Bytes) (at i₁ num value : ℕ) → i₁ ≡ at + 4 → a₁ ≡ put_bytes a at (le 4 num) → a₂ ≡ put_bytes a₁ i₁ (le 4 value) → at + 8 ≤ length a
    → a₂ ≡ put_bytes a at (le 4 num ++ le 4 value)
put-two a a₁ a₂ at i₁ num value e e₁ e₂ h =
    e₂ ∙ ap₂ (λ (x : Bytes) (i : ℕ). put_bytes x i (le 4 value)) e₁ e ∙ put-put a at (le 4 num) (le 4 value) (at + 4) refl (omega arith)

pub value-is : (r : Result ℕ Refusal) → result_unwrap_or r 0 ≡ value_or (λ n. n) 0 r
value-is (Ok n) = refl
value-is (Err e) = refl
