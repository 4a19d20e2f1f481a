-- The C calls of strips: the state as bytes, and what each call returns and leaves.
-- Assumes nothing.
use mathlib.Core.Path.{◌≡◌, refl, sym, ap, ◌∙◌}
use mathlib.Core.List.{◌∷◌, ◌++◌, append_assoc}
use mathlib.Core.Bool.{Bool, true, false, cond, not}
use Prim.Native.Nat.{ℕ, zero, suc, ◌+◌, ◌≤◌, ◌<◌}
use native.Mathlib.Omega.{arith}
use borrow.Author.Tests.{eqb-true, ne_eqb, not-false, le-ltb, lt-ltb}
use lib.Dec.{eqb, ltb}
use lib.ListN.{length, take, drop, get_or, length-append, take-append-drop}
use lib.Seq.{drop-cons, length-take-le}
use Rattle.bytes_le.specs.Bytes.{Bytes, put_bytes, le, unle, le_at}
use Rattle.bytes_le.proofs.Laws.{put_front, put-put}
use Rattle.icepole.specs.Answers.{unless}
use Rattle.strips.specs.declared.StripState.{StripState}
use Rattle.strips.specs.Answers.{StripAnswer}
use Rattle.strips.specs.Machine.{held, fed, fed_bytes, fill_of}
use Rattle.strips.specs.Answers.{start_answer, start_output, start_refusal, strip_answer, strip_number, strip_output, strip_refusal, end_answer, end_output, end_refusal, block}
use Rattle.strips.proofs.Answers as answers
use Rattle.strips.proofs.Machine.{length-fed-state}
use Rattle.strips.proofs.Numbers.{strip-fits}
use Rattle.icepole_c.specs.Strips.{count_at, strip_state_length, strip_state_bytes, strip_state_in, StartContract, StripContract, EndContract}
use Rattle.icepole_c.specs.Strips.{start_call_refusal, start_call_output, start_call_state, strip_call_refusal, strip_call_output, strip_call_state}
use Rattle.icepole_c.specs.Strips.{end_call_refusal, end_call_output, end_call_state}

-- the three runs of a state's bytes touch
pub state-put : (b b₁ b₂ b₃ v : Bytes) (n f i j : ℕ) → strip_state_length ≤ length b → length v ≡ 160 → i ≡ length v → b₁ ≡ put_bytes b 0 v
    → j ≡ i + 8 → b₂ ≡ put_bytes b₁ i (le 8 n) → b₃ ≡ put_bytes b₂ j (le 1 f) → b₃ ≡ put_bytes b 0 (v ++ (le 8 n ++ le 1 f))
state-put b b₁ b₂ b₃ v n f i j hb hv ei e₁ ej e₂ e₃ =
    let l : length (v ++ le 8 n) ≡ 168 = length-append v (le 8 n) ∙ ap (λ (k : ℕ). k + 8) hv in
    e₃
    ∙ ap (λ (b : Bytes). put_bytes b j (le 1 f)) (e₂ ∙ ap (λ (b : Bytes). put_bytes b i (le 8 n)) e₁ ∙ put-put b 0 v (le 8 n) i (omega arith) (omega arith))
    ∙ put-put b 0 (v ++ le 8 n) (le 1 f) j (omega arith) (omega arith)
    ∙ ap (put_bytes b 0) (append_assoc v (le 8 n) (le 1 f))

-- ---- strip and end alike: what the call answers on the state in st, and the output it leaves
module _ (st o : Bytes) (ans : StripAnswer) (o₂ : Bytes) where
  abbrev number : ℕ
  number = cond (ltb (length st) strip_state_length) 5 ans.refusal

  abbrev Leaves : ℕ → Bytes → Bytes → Type 0
  Leaves n s b = (n ≡ number) × (s ≡ unless number st (put_bytes st 0 (strip_state_bytes ans.state))) × (b ≡ unless number o o₂)

  short : length st < strip_state_length → Leaves 5 st o
  short h = let z = lt-ltb (length st) strip_state_length h in (sym (simp z), sym (simp z), sym (simp z))

  module _ (h : strip_state_length ≤ length st) (r : StripAnswer) (er : r ≡ ans) (o' : Bytes) (eo : o' ≡ o₂) where
    refused : ((ans.refusal ≡ 0 → ⊥) → o₂ ≡ o) → (r.refusal ≡ 0 → ⊥) → Leaves r.refusal st o'
    refused stays f =
        let g : ans.refusal ≡ 0 → ⊥ = λ z. f (ap (λ (r : StripAnswer). r.refusal) er ∙ z) in
        let z = le-ltb (length st) strip_state_length h in
        let w = ne_eqb ans.refusal 0 g in
        (ap (λ (r : StripAnswer). r.refusal) er ∙ sym (simp z), sym (simp (z, w)), eo ∙ stays g ∙ sym (simp (z, w)))

    done : r.refusal ≡ 0 → (st' : Bytes) → st' ≡ put_bytes st 0 (strip_state_bytes r.state) → Leaves 0 st' o'
    done f st' e' =
        let z = le-ltb (length st) strip_state_length h in
        let w : ans.refusal ≡ 0 = sym (ap (λ (r : StripAnswer). r.refusal) er) ∙ f in (
          sym (simp (z, w)),
          e' ∙ ap (λ (r : StripAnswer). put_bytes st 0 (strip_state_bytes r.state)) er ∙ sym (simp (z, w)),
          eo ∙ sym (simp (z, w)),
        )

pub strip-short : (st m o : Bytes) → length st < strip_state_length → StripContract st m o 5 st o
unfolding strip_call_refusal strip_call_state strip_call_output strip_answer
strip-short st m o = short st o (strip_answer (strip_state_in st) m o) (strip_output (strip_state_in st) m o)

-- a strip's state: what it was fed, then the count, stand where the others stood; the last byte was 0 already
state-fed : (st b st₁ st₂ : Bytes) (n : ℕ) → strip_state_length ≤ length st → length b ≡ 160 → get_or st 168 0 ≡ 0 → st₁ ≡ b ++ drop 160 st
    → st₂ ≡ put_bytes st₁ 160 (le 8 n) → st₂ ≡ put_bytes st 0 (b ++ (le 8 n ++ le 1 0))
state-fed st b st₁ st₂ n h hb z e₁ e₂ =
    let v : Bytes = b ++ le 8 n in
    let w : Bytes = v ++ le 1 0 in
    let lv : length v ≡ 168 = length-append b (le 8 n) ∙ ap (λ (k : ℕ). k + 8) hb in
    let lw : length w ≡ 169 = length-append v (le 1 0) ∙ ap (λ (k : ℕ). k + 1) lv in
    e₂
    ∙ ap (λ (s : Bytes). put_bytes s 160 (le 8 n)) (e₁ ∙ ap (λ (k : ℕ). b ++ drop k st) (sym hb) ∙ sym (put_front st b))
    ∙ put-put st 0 b (le 8 n) 160 (omega arith) (omega arith)
    ∙ put_front st v
    ∙ ap (λ (k : ℕ). v ++ drop k st) lv
    ∙ ap (λ (l : Bytes). v ++ l) (drop-cons st 168 0 (omega arith) ∙ ap (λ (x : ℕ). x ∷ drop 169 st) z)
    ∙ sym (append_assoc v (le 1 0) (drop 169 st))
    ∙ ap (λ (k : ℕ). w ++ drop k st) (sym lw)
    ∙ sym (put_front st w)
    ∙ ap (put_bytes st 0) (append_assoc b (le 8 n) (le 1 0))

-- n is the count, and num the number, that the code found; b is what it left of the state's own bytes, st₁ of the state, and o' of the output
module _ (st m o : Bytes) (h : strip_state_length ≤ length st) (n : ℕ) (en : n ≡ unle (take 8 (drop count_at st))) (num : ℕ)
    (e : num ≡ strip_number (strip_state_in st).finished n (length m) (length o)) (b st₁ o' : Bytes)
    (eb : b ≡ unless num (take 160 st) (fed block (held (take 160 st) (fill_of block n)) m).state) (e₁ : st₁ ≡ b ++ drop 160 st)
    (eo : o' ≡ unless num o (put_bytes o 0 (fed_bytes block (held (take 160 st) (fill_of block n)) m))) where
  is-count : n ≡ (strip_state_in st).count
  unfolding le_at
  is-count = en

  is_number : num ≡ strip_number (strip_state_in st).finished (strip_state_in st).count (length m) (length o)
  is_number = e ∙ ap (λ (n : ℕ). strip_number (strip_state_in st).finished n (length m) (length o)) is-count

  -- the state's own bytes were lent, and are as they were
  pub strip-refused : (num ≡ 0 → ⊥) → StripContract st m o num st₁ o'
  unfolding strip_call_refusal strip_call_state strip_call_output strip_answer strip_output
  strip-refused f =
      let a = answers.strip-refused (strip_state_in st) m o num is_number f in
      let r = refused st o (strip_answer (strip_state_in st) m o) (strip_output (strip_state_in st) m o) h _ a.0 o a.1
      (λ g. simp (ne_eqb (strip_refusal (strip_state_in st) m o) 0 g) refl) f in (
        r.0,
        e₁ ∙ ap (λ (b : Bytes). b ++ drop 160 st) (eb ∙ answers.kept _ _ _ f) ∙ take-append-drop 160 st ∙ r.1,
        eo ∙ answers.kept _ _ _ f ∙ r.2,
      )

  -- the count is put behind b
  pub strip-done : num ≡ 0 → (st₂ : Bytes) → st₂ ≡ put_bytes st₁ 160 (le 8 (n + length m)) → StripContract st m o 0 st₂ o'
  unfolding strip_call_refusal strip_call_state strip_call_output strip_answer
  strip-done f st₂ e₂ =
      let s = strip_state_in st in
      let ec : fill_of block n ≡ fill_of block (strip_state_in st).count = ap (fill_of block) is-count in
      let fb = eb ∙ answers.changed _ _ _ f in
      let ez = eqb-true (get_or st 168 0) 0 (not-false (eqb (get_or st 168 0) 0) (strip-fits _ _ _ _ (sym is_number ∙ f)).open') in
      let lb = ap length fb ∙ length-fed-state block m (held (take 160 st) (fill_of block n)) (length-take-le 160 st (omega arith)) in
      let a = answers.strip-done s m o (sym f ∙ is_number) b o' (fb ∙ ap (λ (k : ℕ). (fed block (held (take 160 st) k) m).state) ec)
      (eo ∙ answers.changed _ _ _ f ∙ ap (λ (k : ℕ). put_bytes o 0 (fed_bytes block (held (take 160 st) k) m)) ec) in
      done st o (strip_answer s m o) (strip_output s m o) h _ a.0 o' a.1 refl
      st₂ (state-fed st b st₁ st₂ (n + length m) h lb ez e₁ e₂ ∙ ap (λ (k : ℕ). put_bytes st 0 (b ++ (le 8 (k + length m) ++ le 1 0))) is-count)

pub end_short : (st o : Bytes) → length st < strip_state_length → EndContract st o 5 st o
unfolding end_call_refusal end_call_state end_call_output end_answer
end_short st o = short st o (end_answer (strip_state_in st) o) (end_output (strip_state_in st) o)

-- s is the state that the code read
module _ (st o : Bytes) (h : strip_state_length ≤ length st) (s : StripState) (es : s ≡ strip_state_in st)
    (r : StripAnswer) (er : r ≡ end_answer s o) (o' : Bytes) (eo : o' ≡ end_output s o) where
  pub end_refused : (r.refusal ≡ 0 → ⊥) → EndContract st o r.refusal st o'
  unfolding end_call_refusal end_call_state end_call_output end_answer end_output
  end_refused =
      refused st o (end_answer (strip_state_in st) o) (end_output (strip_state_in st) o) h
      r (er ∙ ap (λ (s : StripState). end_answer s o) es) o' (eo ∙ ap (λ (s : StripState). end_output s o) es)
      (λ g. simp (ne_eqb (end_refusal (strip_state_in st) o) 0 g) refl)

  pub end-done : r.refusal ≡ 0 → (st' : Bytes) → st' ≡ put_bytes st 0 (strip_state_bytes r.state) → EndContract st o 0 st' o'
  unfolding end_call_refusal end_call_state end_call_output end_answer
  end-done =
      done st o (end_answer (strip_state_in st) o) (end_output (strip_state_in st) o) h
      r (er ∙ ap (λ (s : StripState). end_answer s o) es) o' (eo ∙ ap (λ (s : StripState). end_output s o) es)

-- an output that stays where it is refused stays so under the same number
pub twice : (i : ℕ) (o o' : Bytes) → unless i o o' ≡ unless i o (unless i o o')
twice i o o' = by (eqb i 0)
  where
    by : (b : Bool) → cond b o' o ≡ cond b (cond b o' o) o
    by true = refl
    by false = refl

-- ---- start
module _ (k n s a o st : Bytes) where
  pub start-short-refused : length st < strip_state_length → (num : ℕ) → num ≡ start_refusal k n s a o → (num ≡ 0 → ⊥)
      → StartContract k n s a o st num o st
  unfolding start_call_refusal start_call_output start_call_state
  start-short-refused h num e f =
      let w = ne_eqb (start_refusal k n s a o) 0 (λ z. f (e ∙ z)) in
      (e ∙ sym (simp w), sym (simp w), sym (simp (lt-ltb (length st) strip_state_length h)))

  pub start-short : length st < strip_state_length → (num : ℕ) → num ≡ start_refusal k n s a o → num ≡ 0
      → StartContract k n s a o st 5 o st
  unfolding start_call_refusal start_call_output start_call_state
  start-short h num e f =
      let w : start_refusal k n s a o ≡ 0 = sym e ∙ f in
      let z = lt-ltb (length st) strip_state_length h in
      (sym (simp (w, z)), sym (simp (w, z)), sym (simp z))

  -- the number is that of start where the state is long enough
  pub start-number : strip_state_length ≤ length st → start_call_refusal k n s a o st ≡ start_refusal k n s a o
  unfolding start_call_refusal
  start-number h = simp (le-ltb (length st) strip_state_length h) (by (start_refusal k n s a o))
    where
      by : (i : ℕ) → cond (not (eqb i 0)) i 0 ≡ i
      by zero = refl
      by (suc i) = rw (ne_eqb (suc i) 0 (λ z. omega arith)) refl

  pub start-called : strip_state_length ≤ length st → (r : StripAnswer) → r ≡ start_answer k n s a o → (o' : Bytes) → o' ≡ start_output k n s a o
      → (st' : Bytes) → st' ≡ put_bytes st 0 (strip_state_bytes r.state)
      → StartContract k n s a o st r.refusal o' st'
  unfolding start_call_output start_call_state start_answer start_output
  start-called h r er o' eo st' es = (
    ap (λ (r : StripAnswer). r.refusal) er ∙ sym (start-number h),
    eo ∙ twice (start_refusal k n s a o) o _ ∙ ap (λ (i : ℕ). unless i o (start_output k n s a o)) (sym (start-number h)),
    es ∙ ap (λ (r : StripAnswer). put_bytes st 0 (strip_state_bytes r.state)) er ∙ sym (simp (le-ltb (length st) strip_state_length h)),
  )
