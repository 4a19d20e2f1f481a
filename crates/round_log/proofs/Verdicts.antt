-- What each verdict says of a log, both ways: every log has one verdict whose words hold, and no two hold of one log.
-- Assumes nothing.
use mathlib.Core.Path.{◌≡◌, refl, sym, ap, ap₂, ◌∙◌, subst, subst⁻¹}
use mathlib.Core.Bool.{Bool, true, false, cond}
use mathlib.Core.List.{[], ◌∷◌}
use mathlib.Core.Logic.{◌↔◌, ◌⊎◌, inl, inr, ⊎_elim}
use Prim.Native.Nat.{ℕ, zero, suc, ◌+◌, ◌≤◌, ◌<◌}
use native.Mathlib.Nat.{zero-add}
use native.Mathlib.Omega.{arith}
use lib.ListN.{length}
use Rattle.bits.proofs.Cases.{le-or-lt}
use Rattle.bytes_le.specs.Bytes.{Bytes, same}
use Rattle.bytes_le.proofs.Same.{same_self, same_true, cond-test}
use Rattle.permutation.specs.State.{State}
use Rattle.permutation.specs.Permutation.{R}
use Rattle.round_log.specs.RoundLog.{state_at, same_state, round_agrees, is_log_length, rounds_in, judged, verdict, Verdict, Agrees, Differs, Refused}
use Rattle.round_log.proofs.Lengths.{LogOf, length-right, length-told, verdict-judged, verdict-refused}

-- ---- the test is equality
same-state-self : (s : State) → same_state s s ≡ true
same-state-self [] = refl
same-state-self (a ∷ s) = ap (λ (b : Bool). cond b (same_state s s) false) (same_self a) ∙ same-state-self s

same-state-true : (s t : State) → same_state s t ≡ true → s ≡ t
same-state-true [] [] e = refl
same-state-true [] (b ∷ t) e = let z : ◌≡◌ {A = ℕ} 0 1 = cc in absurd (omega arith)
same-state-true (a ∷ s) [] e = let z : ◌≡◌ {A = ℕ} 0 1 = cc in absurd (omega arith)
same-state-true (a ∷ s) (b ∷ t) e =
    let p = cond-test (same a b) (same_state s t) e in
    ap₂ (λ (c : Bytes) (u : State). c ∷ u) (same_true a b p.0) (same-state-true s t p.1)

module _ (log : Bytes) where
  abbrev pub Right : ℕ → Type 0
  Right i = state_at log (suc i) ≡ R (state_at log i) i

  agrees-right : (i : ℕ) → round_agrees log i ≡ true → Right i
  unfolding round_agrees
  agrees-right i e = sym (same-state-true (R (state_at log i) i) (state_at log (suc i)) e)

  right-agrees : (i : ℕ) → Right i → round_agrees log i ≡ true
  unfolding round_agrees
  right-agrees i e = ap (same_state (R (state_at log i) i)) e ∙ same-state-self (R (state_at log i) i)

  -- ---- all n rounds from i on are right, or one is the first that is not
  abbrev RightFrom : ℕ → ℕ → Type 0
  RightFrom i k = (j : ℕ) → i ≤ j → j < k → Right j

  abbrev First : ℕ → ℕ → ℕ → Type 0
  First i n k = (i ≤ k) × (k < i + n) × RightFrom i k × (Right k → ⊥) × (judged log i n ≡ Differs k)

  abbrev Judged : ℕ → ℕ → Type 0
  Judged i n = (RightFrom i (i + n) × (judged log i n ≡ Agrees (i + n))) ⊎ ((k : ℕ) × First i n k)

  one_more : (i k : ℕ) → Right i → RightFrom (suc i) k → RightFrom i k
  one_more i k r f j h l =
      ⊎_elim (λ (p : suc i ≤ j). f j p l) (λ (q : j < suc i). let e : i ≡ j = omega arith in subst Right e r) (le-or-lt (suc i) j)

  judging : (i n : ℕ) → Judged i n
  unfolding judged
  judging i zero = let e : i ≡ i + 0 = omega arith in inl (λ j h l. absurd (omega arith), ap Agrees e)
  judging i (suc n) = by (round_agrees log i) refl (judging (suc i) n)
    where
      sum : suc i + n ≡ i + suc n
      sum = omega arith

      by : (t : Bool) → round_agrees log i ≡ t → Judged (suc i) n → Judged i (suc n)
      by false e rest =
          let differs : Right i → ⊥ = λ z. let w : false ≡ true = sym e ∙ right-agrees i z in let q : ◌≡◌ {A = ℕ} 0 1 = cc in absurd (omega arith) in
          inr (i, (omega arith, omega arith, λ j h l. absurd (omega arith), differs, ap (λ (b : Bool). cond b (judged log (suc i) n) (Differs i)) e))
      by true e rest =
          let r : Right i = agrees-right i e in
          let goes_on : judged log i (suc n) ≡ judged log (suc i) n = ap (λ (b : Bool). cond b (judged log (suc i) n) (Differs i)) e in
          ⊎_elim
          (λ (p : RightFrom (suc i) (suc i + n) × (judged log (suc i) n ≡ Agrees (suc i + n))).
          inl (one_more i (i + suc n) r (λ j h l. p.0 j h (rw sum l)), goes_on ∙ p.1 ∙ ap Agrees sum))
          (λ (p : (k : ℕ) × First (suc i) n k).
          let q = p.1 in
          inr (p.0, (omega (arith, q.0), omega (arith, q.1), one_more i p.0 r q.2, q.3, goes_on ∙ q.4)))
          rest

  -- ---- what each verdict says
  abbrev pub RightBelow : ℕ → Type 0
  RightBelow n = (i : ℕ) → i < n → Right i

  abbrev pub NoLog : Type 0
  NoLog = (r : ℕ) → LogOf r (length log) → ⊥

  abbrev pub Says : Verdict → Type 0
  Says (Agrees r) = LogOf r (length log) × RightBelow r
  Says (Differs n) = RightBelow n × (Right n → ⊥) × ((r : ℕ) × (n < r) × LogOf r (length log))
  Says (Refused k) = (k ≡ 19) × NoLog

  judged-says : (r : ℕ) → LogOf r (length log) → Says (judged log 0 r)
  judged-says r h =
      ⊎_elim
      (λ (p : RightFrom 0 (0 + r) × (judged log 0 r ≡ Agrees (0 + r))).
      subst⁻¹ Says (p.1 ∙ ap Agrees (zero-add r)) (h, λ i l. p.0 i (omega arith) (omega arith)))
      (λ (p : (k : ℕ) × First 0 r k).
      let q = p.1 in
      subst⁻¹ Says q.4 (λ i l. q.2 i (omega arith) l, q.3, (r, omega (arith, q.1), h)))
      (judging 0 r)

  pub says : Says (verdict log)
  says = by (is_log_length (length log)) refl
    where
      by : (b : Bool) → is_log_length (length log) ≡ b → Says (verdict log)
      by true e = let h = length-told (length log) e in subst⁻¹ Says (verdict-judged log (rounds_in (length log)) h) (judged-says (rounds_in (length log)) h)
      by false e =
          let none : NoLog = λ r h. let w : false ≡ true = sym e ∙ length-right (length log) r h in let q : ◌≡◌ {A = ℕ} 0 1 = cc in absurd (omega arith) in
          subst⁻¹ Says (verdict-refused log none) (refl, none)

  -- ---- and no two say the same of a log
  rounds-one : (r s : ℕ) → LogOf r (length log) → LogOf s (length log) → r ≡ s
  rounds-one r s h k = omega (arith, h.2, k.2)

  not-both : (r n : ℕ) → Says (Agrees r) → Says (Differs n) → ⊥
  not-both r n p q = let e = rounds-one r q.2.0 p.0 q.2.2 in q.1 (p.1 n (omega (arith, e, q.2.1)))

  pub one-verdict : (v w : Verdict) → Says v → Says w → v ≡ w
  one-verdict (Agrees r) (Agrees s) p q = ap Agrees (rounds-one r s p.0 q.0)
  one-verdict (Agrees r) (Differs n) p q = absurd (not-both r n p q)
  one-verdict (Agrees r) (Refused k) p q = absurd (q.1 r p.0)
  one-verdict (Differs n) (Agrees r) p q = absurd (not-both r n q p)
  one-verdict (Differs m) (Differs n) p q =
      ⊎_elim
      (λ (h : suc m ≤ n). absurd (p.1 (q.0 m h)))
      (λ (h : n < suc m).
      ⊎_elim
      (λ (l : suc n ≤ m). absurd (q.1 (p.0 n l)))
      (λ (l : m < suc n). let e : m ≡ n = omega arith in ap Differs e)
      (le-or-lt (suc n) m))
      (le-or-lt (suc m) n)
  one-verdict (Differs n) (Refused k) p q = absurd (q.1 p.2.0 p.2.2)
  one-verdict (Refused k) (Agrees r) p q = absurd (p.1 r q.0)
  one-verdict (Refused k) (Differs n) p q = absurd (p.1 q.2.0 q.2.2)
  one-verdict (Refused k) (Refused l) p q = ap Refused (p.0 ∙ sym q.0)

  pub verdict-says : (v : Verdict) → (verdict log ≡ v) ↔ Says v
  verdict-says v = (λ e. subst Says e says, λ h. one-verdict (verdict log) v says h)
