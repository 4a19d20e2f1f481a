-- What the C calls of the reader return and write, from the answers of the calls below them.
-- Assumes nothing.
use mathlib.Core.Bool.{cond, not}
use mathlib.Core.List.{◌++◌, append_assoc}
use mathlib.Core.Path.{◌≡◌, refl, sym, ap, ◌∙◌}
use Prim.Native.Nat.{ℕ, zero, suc, ◌+◌, ◌-◌, ◌≤◌, ◌<◌}
use native.Mathlib.Omega.{arith}
use borrow.Author.Tests.{ne_eqb, lt-ltb, le-ltb}
use lib.Dec.{eqb}
use lib.ListN.{length, drop, length-append, length-drop}
use lib.Seq.{length-take-le}
use Rattle.bytes_le.specs.Bytes.{Bytes, put_bytes, le}
use Rattle.burst.specs.Parts.{mark_length}
use Rattle.burst.proofs.Puts.{grow}
use Rattle.reader.specs.Front.{entry_at, position_of}
use Rattle.reader.specs.Reader.{Checked, Fetched, check_answer, record_refusal, record_offset, record_bytes_in, fetch_refusal, fetch_answer, fetch_output}
use Rattle.reader.proofs.Answers.{Found, record-refused, record-done, fetch-stands, fetched-refusal}
use Rattle.burst_c.specs.Calls.{check_info_length, checked_bytes, fetch_info_length, fetched_bytes, check_call_refusal}
use Rattle.burst_c.specs.Calls.{check_call_info, fetch_call_refusal, fetch_call_output, fetch_call_info}

-- ---- the info's fields, one behind the other
pub check-put : (l h₁ h₂ h₃ h₄ h₅ h₆ s : Bytes) (i₁ i₂ i₃ i₄ i₅ b t k d n : ℕ) → check_info_length ≤ length l → length s ≡ mark_length
    → h₁ ≡ put_bytes l 0 (le 8 b) → i₁ ≡ 0 + 8 → h₂ ≡ put_bytes h₁ i₁ s → i₂ ≡ i₁ + length s → h₃ ≡ put_bytes h₂ i₂ (le 2 t) → i₃ ≡ i₂ + 2
    → h₄ ≡ put_bytes h₃ i₃ (le 2 k) → i₄ ≡ i₃ + 2 → h₅ ≡ put_bytes h₄ i₄ (le 2 d) → i₅ ≡ i₄ + 2 → h₆ ≡ put_bytes h₅ i₅ (le 4 n)
    → h₆ ≡ put_bytes l 0 (le 8 b ++ (s ++ (le 2 t ++ (le 2 k ++ (le 2 d ++ le 4 n)))))
check-put l h₁ h₂ h₃ h₄ h₅ h₆ s i₁ i₂ i₃ i₄ i₅ b t k d n h hs e₁ g₁ e₂ g₂ e₃ g₃ e₄ g₄ e₅ g₅ e₆ =
    let a₁ = length-append (le 8 b) s in
    let a₂ = length-append (le 8 b ++ s) (le 2 t) in
    let a₃ = length-append ((le 8 b ++ s) ++ le 2 t) (le 2 k) in
    let a₄ = length-append (((le 8 b ++ s) ++ le 2 t) ++ le 2 k) (le 2 d) in
    grow l h₅ h₆ ((((le 8 b ++ s) ++ le 2 t) ++ le 2 k) ++ le 2 d) (le 4 n) 0 i₅
    (grow l h₄ h₅ (((le 8 b ++ s) ++ le 2 t) ++ le 2 k) (le 2 d) 0 i₄
    (grow l h₃ h₄ ((le 8 b ++ s) ++ le 2 t) (le 2 k) 0 i₃
    (grow l h₂ h₃ (le 8 b ++ s) (le 2 t) 0 i₂
    (grow l h₁ h₂ (le 8 b) s 0 i₁ e₁ e₂ g₁ (omega arith)) e₃ (omega arith) (omega arith)) e₄ (omega arith) (omega arith)) e₅ (omega arith) (omega arith))
    e₆ (omega arith) (omega arith)
    ∙ ap (put_bytes l 0)
    (append_assoc (((le 8 b ++ s) ++ le 2 t) ++ le 2 k) (le 2 d) (le 4 n)
    ∙ append_assoc ((le 8 b ++ s) ++ le 2 t) (le 2 k) (le 2 d ++ le 4 n)
    ∙ append_assoc (le 8 b ++ s) (le 2 t) (le 2 k ++ (le 2 d ++ le 4 n))
    ∙ append_assoc (le 8 b) s (le 2 t ++ (le 2 k ++ (le 2 d ++ le 4 n))))

pub fetch-put : (l h₁ h₂ h₃ s : Bytes) (i₁ i₂ n m : ℕ) → fetch_info_length ≤ length l → length s ≡ mark_length
    → h₁ ≡ put_bytes l 0 (le 2 n) → i₁ ≡ 0 + 2 → h₂ ≡ put_bytes h₁ i₁ (le 4 m) → i₂ ≡ i₁ + 4 → h₃ ≡ put_bytes h₂ i₂ s
    → h₃ ≡ put_bytes l 0 (le 2 n ++ (le 4 m ++ s))
fetch-put l h₁ h₂ h₃ s i₁ i₂ n m h hs e₁ g₁ e₂ g₂ e₃ =
    grow l h₂ h₃ (le 2 n ++ le 4 m) s 0 i₂ (grow l h₁ h₂ (le 2 n) (le 4 m) 0 i₁ e₁ e₂ g₁ (omega arith)) e₃ (omega arith) (omega arith)

-- ---- check
module _ (key f info : Bytes) (c : Checked) (is : c ≡ check_answer key f) where
  number_is : (check_answer key f).refusal ≡ c.refusal
  number_is = ap (λ (x : Checked). x.refusal) (sym is)

  pub check-refused : (c.refusal ≡ 0 → ⊥) → (c.refusal ≡ check_call_refusal key f info) × (info ≡ check_call_info key f info)
  unfolding check_call_info check_call_refusal
  check-refused h = let w = ne_eqb c.refusal 0 h in (sym (simp (number_is, w)), sym (simp (number_is, w)))

  module _ (z : c.refusal ≡ 0) where
    none : (check_answer key f).refusal ≡ 0
    none = number_is ∙ z

    pub check-short : length info < check_info_length → (5 ≡ check_call_refusal key f info) × (info ≡ check_call_info key f info)
    unfolding check_call_info check_call_refusal
    check-short h = (sym (simp (none, lt-ltb (length info) check_info_length h)), sym (simp (none, lt-ltb (length info) check_info_length h)))

    pub check_done : check_info_length ≤ length info → (info' : Bytes) → info' ≡ put_bytes info 0 (checked_bytes c)
        → (0 ≡ check_call_refusal key f info) × (info' ≡ check_call_info key f info)
    unfolding check_call_info check_call_refusal
    check_done h info' e = (
      sym (simp (none, le-ltb (length info) check_info_length h)),
      e ∙ ap (λ (x : Checked). put_bytes info 0 (checked_bytes x)) is ∙ sym (simp (none, le-ltb (length info) check_info_length h)),
    )

-- ---- fetch
module _ (key f : Bytes) (place : ℕ) (out info : Bytes) where
  abbrev Stays : ℕ → Type 0
  Stays num = (num ≡ fetch_call_refusal key f place out info) × (out ≡ fetch_call_output key f place out info) × (info ≡ fetch_call_info key f place out info)

  stays : (num : ℕ) → fetch_call_refusal key f place out info ≡ num → (num ≡ 0 → ⊥) → Stays num
  unfolding fetch_call_output fetch_call_info
  stays num e h = let w = ne_eqb num 0 h in (sym e, sym (simp (e, w)), sym (simp (e, w)))

  pub fetch-located : (num : ℕ) → num ≡ record_refusal key f place → (num ≡ 0 → ⊥) → Stays num
  unfolding fetch_call_refusal
  fetch-located num e h = stays num (simp (sym e, ne_eqb num 0 h)) h

  pub fetch-short : record_refusal key f place ≡ 0 → length info < fetch_info_length → Stays 5
  unfolding fetch_call_refusal
  fetch-short z h = stays 5 (simp (z, lt-ltb (length info) fetch_info_length h)) (λ e. omega arith)

  module _ (h : fetch_info_length ≤ length info) (r : Fetched) (is : r ≡ fetch_answer key f place out) where
    answer-number : (fetch_answer key f place out).refusal ≡ r.refusal
    answer-number = ap (λ (x : Fetched). x.refusal) (sym is)

    fetch-refusal : fetch_refusal key f place out ≡ r.refusal
    fetch-refusal = sym (fetched-refusal key f place out r is)

    -- a number, or 0
    whole : (n : ℕ) → cond (not (eqb n 0)) n 0 ≡ n
    whole zero = refl
    whole (suc n) = simp (ne_eqb (suc n) 0 (λ i. omega arith))

    by_number : (m : ℕ) → record_refusal key f place ≡ m → fetch_call_refusal key f place out info ≡ r.refusal
    unfolding fetch_call_refusal
    by_number zero e = simp (e, le-ltb (length info) fetch_info_length h, answer-number) (whole r.refusal)
    by_number (suc m) e =
        simp (e, ne_eqb (suc m) 0 (λ i. omega arith)) (sym (fetch-stands key f place out m e) ∙ fetch-refusal)

    same-refusal : fetch_call_refusal key f place out info ≡ r.refusal
    same-refusal = by_number (record_refusal key f place) refl

    pub fetch-refused : (r.refusal ≡ 0 → ⊥) → (out' : Bytes) → out' ≡ fetch_output key f place out
        → (r.refusal ≡ fetch_call_refusal key f place out info) × (out' ≡ fetch_call_output key f place out info) × (info ≡ fetch_call_info key f place out info)
    unfolding fetch_output
    fetch-refused n out' g =
        let w = stays r.refusal same-refusal n in
        let o : fetch_output key f place out ≡ out = simp (fetch-refusal, ne_eqb r.refusal 0 n) in
        (w.0, g ∙ o ∙ w.1, w.2)

    pub fetch-done : r.refusal ≡ 0 → (out' info' : Bytes) → out' ≡ fetch_output key f place out → info' ≡ put_bytes info 0 (fetched_bytes r)
        → (0 ≡ fetch_call_refusal key f place out info) × (out' ≡ fetch_call_output key f place out info) × (info' ≡ fetch_call_info key f place out info)
    unfolding fetch_call_output fetch_call_info
    fetch-done z out' info' eo ei =
        let e = same-refusal ∙ z in
        (sym e, eo ∙ sym (simp e), ei ∙ ap (λ (x : Fetched). put_bytes info 0 (fetched_bytes x)) is ∙ sym (simp e))

-- ---- record
module _ (key f : Bytes) (place : ℕ) where
  pub none-there : (record_refusal key f place ≡ 0 → ⊥) → (0 ≡ record_offset key f place) × (0 ≡ length (record_bytes_in key f place))
  none-there h = let r = record-refused key f place h in (r.1, ap length r.0)

  pub record-size : Found key f place → record_refusal key f place ≡ 0 → (entry_at f (position_of f place)).length + 32 ≡ length (record_bytes_in key f place)
  record-size w z =
      let o = (entry_at f (position_of f place)).offset in
      let n = (entry_at f (position_of f place)).length in
      let d : length (drop o f) ≡ length f - o = length-drop o f in
      sym (length-take-le (n + 32) (drop o f) (omega (arith, w.range, w.accepted.front, d)))
      ∙ ap length (record-done key f place z).0
