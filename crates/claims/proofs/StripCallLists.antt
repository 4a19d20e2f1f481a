-- Lists of the C calls of strips are lists of strips: the slice has at its front the state that the list of strips has, and after it what it had before.
-- Assumes nothing.
use mathlib.Core.Path.{◌≡◌, refl, sym, ap, ap₂, ◌∙◌}
use mathlib.Core.Bool.{Bool, true, false, cond, not}
use mathlib.Core.List.{List, [], ◌∷◌, ◌++◌, append_assoc, map}
use Prim.Native.Nat.{ℕ, zero, suc, ◌+◌, ◌%◌, ◌≤◌, ◌<◌}
use native.Mathlib.Omega.{arith}
use borrow.Author.Tests.{le-ltb}
use lib.Dec.{eqb}
use lib.ListN.{length, take, drop, get_or, length-append}
use lib.Seq.{take_at, drop_at, get_or-append_seam}
use Rattle.bytes_le.specs.Bytes.{Bytes, put_bytes, le, le_at, unle}
use Rattle.bytes_le.proofs.Laws.{put_front, unle-8}
use Rattle.icepole.specs.Answers.{unless}
use Rattle.blocks.specs.Lengths.{max_length}
use Rattle.strips.specs.declared.StripState.{StripState}
use Rattle.strips.specs.Answers.{StripAnswer}
use Rattle.strips.specs.Answers.{end_answer, end_output, end_refusal, held_in, not_started, start_answer, start_output, started, strip_answer, strip_output}
use Rattle.strips.specs.Answers.{strip_refusal}
use Rattle.strips.proofs.Machine.{length-fed-state}
use Rattle.strips.proofs.Numbers.{strip-fits}
use Rattle.icepole_c.specs.Strips.{flag, strip_state_length, strip_state_bytes, strip_state_in, start_call_refusal, start_call_output, start_call_state, strip_call_refusal}
use Rattle.icepole_c.specs.Strips.{strip_call_output, strip_call_state, end_call_refusal, end_call_output, end_call_state}
use Rattle.icepole_c.proofs.StripCalls.{end_short, start-number, start-short, start-short-refused, strip-short, twice}
use Rattle.claims.specs.StripLists.{Call, StatePasses, StripCallLists, StripList, Told, answer_to, end_of, lent_to, number_c, numbers_from_c, output_c, output_of}
use Rattle.claims.specs.StripLists.{outputs_from, outputs_from_c, run_numbers_c, run_outputs, run_outputs_c, run_slice_c, run_state, run_told, slice_c, slice_from_c}
use Rattle.claims.specs.StripLists.{start_number_of, start_slice_c, start_to, state_from, strip_of, told_from}
use Rattle.claims.proofs.StripLists.{after_state, answer-is, hu, number_by, start_is, turned}

-- ---- a state passes from call to call
abbrev state_of3 : Bytes → ℕ → Bool → StripState
state_of3 v n f = record { bytes = v; count = n; finished = f }

same-state : {v v' : Bytes} {n n' : ℕ} {f f' : Bool} → v ≡ v' → n ≡ n' → f ≡ f' → state_of3 v n f ≡ state_of3 v' n' f'
same-state a b c = cc

pub state-passes : StatePasses
unfolding le_at
state-passes b s hb hv hc =
    let v : Bytes = s.bytes in
    let n : Bytes = le 8 s.count in
    let t : Bytes = le 1 (flag s.finished) in
    let r : Bytes = drop (length (v ++ (n ++ t))) b in
    let e : put_bytes b 0 (v ++ (n ++ t)) ≡ v ++ (n ++ (t ++ r)) =
    put_front b (v ++ (n ++ t)) ∙ append_assoc v (n ++ t) r ∙ ap (λ (l : Bytes). v ++ l) (append_assoc n t r) in
    let lvn : length (v ++ n) ≡ 168 = length-append v n ∙ ap (λ (k : ℕ). k + 8) hv in
    let e₁ : take 160 (put_bytes b 0 (v ++ (n ++ t))) ≡ v = ap (take 160) e ∙ take_at v (n ++ (t ++ r)) 160 hv in
    let e₂ : unle (take 8 (drop 160 (put_bytes b 0 (v ++ (n ++ t))))) ≡ s.count =
    ap (λ (l : Bytes). unle (take 8 (drop 160 l))) e
    ∙ ap (λ (l : Bytes). unle (take 8 l)) (drop_at v (n ++ (t ++ r)) 160 hv)
    ∙ ap unle (take_at n (t ++ r) 8 refl) ∙ unle-8 s.count hc in
    let e₃ : get_or (put_bytes b 0 (v ++ (n ++ t))) 168 0 ≡ flag s.finished % 256 =
    ap (λ (l : Bytes). get_or l 168 0) (e ∙ sym (append_assoc v n (t ++ r)))
    ∙ ap (λ (i : ℕ). get_or ((v ++ n) ++ (t ++ r)) i 0) (sym lvn)
    ∙ get_or-append_seam (v ++ n) (flag s.finished % 256) r 0 in
    same-state e₁ e₂ (ap (λ (x : ℕ). not (eqb x 0)) e₃ ∙ flagged s.finished)
  where
    flagged : (f : Bool) → not (eqb (flag f % 256) 0) ≡ f
    flagged true = refl
    flagged false = refl

-- ---- the slice: a state's bytes, and then what b has there
abbrev slice : StripState → Bytes → Bytes
slice s b = strip_state_bytes s ++ drop strip_state_length b

-- what holds of every state of a list
record Good (s : StripState) : Type 0 where
  bytes : length s.bytes ≡ 160
  count : s.count ≤ max_length

length-state : (s : StripState) → Good s → length (strip_state_bytes s) ≡ strip_state_length
length-state s g = length-append s.bytes (le 8 s.count ++ le 1 (flag s.finished)) ∙ ap (λ (k : ℕ). k + 9) g.bytes

put_is : (b : Bytes) (s : StripState) → Good s → put_bytes b 0 (strip_state_bytes s) ≡ slice s b
put_is b s g = put_front b (strip_state_bytes s) ∙ ap (λ (n : ℕ). strip_state_bytes s ++ drop n b) (length-state s g)

put-over : (b : Bytes) (s s' : StripState) → Good s → Good s' → put_bytes (slice s b) 0 (strip_state_bytes s') ≡ slice s' b
put-over b s s' g g' =
    put_is (slice s b) s' g' ∙ ap (λ (r : Bytes). strip_state_bytes s' ++ r) (drop_at (strip_state_bytes s) (drop strip_state_length b) strip_state_length (length-state s g))

-- ---- the states of a list are good
good-along : (s s' : StripState) → s' ≡ s → Good s → Good s'
good-along s s' e g = rw e g

good-done : (s : StripState) → Good s → (c : Call) → number_by s c ≡ 0 → Good (after_state s c)
unfolding number_by
good-done s g (strip_of m o) e =
    record { bytes = length-fed-state 128 m (held_in s) g.bytes; count = (strip-fits s.finished s.count (length m) (length o) e).sum }
good-done s g (end_of o) e = record { bytes = g.bytes; count = g.count }

-- the state after a call, by its number
state-done : (s : StripState) (c : Call) → number_by s c ≡ 0 → (answer_to s c).state ≡ after_state s c
state-done s c e =
    ap (λ (a : StripAnswer). a.state) (answer-is s c) ∙ ap (λ (n : ℕ). cond (eqb n 0) (after_state s c) s) e

state-refused : (s : StripState) (c : Call) (n : ℕ) → number_by s c ≡ suc n → (answer_to s c).state ≡ s
state-refused s c n e =
    ap (λ (a : StripAnswer). a.state) (answer-is s c) ∙ ap (λ (n : ℕ). cond (eqb n 0) (after_state s c) s) e ∙ turned n (after_state s c) s

good-next : (s : StripState) → Good s → (c : Call) → Good (answer_to s c).state
good-next s g c = by (number_by s c) refl
  where
    by : (n : ℕ) → number_by s c ≡ n → Good (answer_to s c).state
    by zero e = good-along (after_state s c) _ (state-done s c e) (good-done s g c e)
    by (suc n) e = good-along s _ (state-refused s c n e) g

good_start : (l : StripList) → Good (start_to l).state
good_start l = by (start_number_of l) refl
  where
    by : (n : ℕ) → start_number_of l ≡ n → Good (start_to l).state
    by zero e =
        good-along (started l.key l.nonce l.secret l.associated l.out) _ (ap (λ (a : StripAnswer). a.state) (start_is l 0 e))
        (record { bytes = hu l; count = omega arith })
    by (suc n) e =
        good-along not_started _ (ap (λ (a : StripAnswer). a.state) (start_is l (suc n) e) ∙ turned n _ not_started)
        (record { bytes = refl; count = omega arith })

-- ---- one call, lent the slice with the state s
module _ (b : Bytes) (hb : strip_state_length ≤ length b) (s : StripState) (g : Good s) where
  room : strip_state_length ≤ length (slice s b)
  room = let l = length-state s g in rw length-append (omega (arith, l))

  reads : strip_state_in (slice s b) ≡ s
  reads = let h = g.count in ap strip_state_in (sym (put_is b s g)) ∙ state-passes b s hb g.bytes (omega arith)

  number_is : (c : Call) → number_c (slice s b) c ≡ number_by s c
  unfolding number_c strip_call_refusal end_call_refusal strip_refusal end_refusal number_by
  number_is (strip_of m o) = simp (le-ltb (length (slice s b)) strip_state_length room) (ap (λ (s : StripState). strip_refusal s m o) reads)
  number_is (end_of o) = simp (le-ltb (length (slice s b)) strip_state_length room) (ap (λ (s : StripState). end_refusal s o) reads)

  output-is : (c : Call) → output_c (slice s b) c ≡ output_of s c
  unfolding output_c strip_call_output end_call_output output_of strip_output strip_refusal end_output end_refusal number_c number_by
  output-is (strip_of m o) =
      ap₂ (λ (n : ℕ) (x : Bytes). unless n o x) (number_is (strip_of m o)) (ap (λ (s : StripState). strip_output s m o) reads) ∙ sym (twice (strip_refusal s m o) o _)
  output-is (end_of o) =
      ap₂ (λ (n : ℕ) (x : Bytes). unless n o x) (number_is (end_of o)) (ap (λ (s : StripState). end_output s o) reads) ∙ sym (twice (end_refusal s o) o _)

  left_is : (c : Call) → slice_c (slice s b) c ≡ unless (number_by s c) (slice s b) (put_bytes (slice s b) 0 (strip_state_bytes (answer_to s c).state))
  unfolding slice_c strip_call_state end_call_state answer_to number_c
  left_is (strip_of m o) =
      ap₂ (λ (n : ℕ) (s' : StripState). unless n (slice s b) (put_bytes (slice s b) 0 (strip_state_bytes s'))) (number_is (strip_of m o))
      (ap (λ (s : StripState). (strip_answer s m o).state) reads)
  left_is (end_of o) =
      ap₂ (λ (n : ℕ) (s' : StripState). unless n (slice s b) (put_bytes (slice s b) 0 (strip_state_bytes s'))) (number_is (end_of o))
      (ap (λ (s : StripState). (end_answer s o).state) reads)

  slice_is : (c : Call) → slice_c (slice s b) c ≡ slice (answer_to s c).state b
  slice_is c = left_is c ∙ by (number_by s c) refl
    where
      x : Bytes
      x = put_bytes (slice s b) 0 (strip_state_bytes (answer_to s c).state)

      by : (n : ℕ) → number_by s c ≡ n → unless (number_by s c) (slice s b) x ≡ slice (answer_to s c).state b
      by zero e = ap (λ (n : ℕ). unless n (slice s b) x) e ∙ put-over b s (answer_to s c).state g (good-next s g c)
      by (suc n) e = ap (λ (n : ℕ). unless n (slice s b) x) e ∙ turned n x (slice s b) ∙ ap (λ (s : StripState). slice s b) (sym (state-refused s c n e))

-- ---- the calls after the start
module _ (b : Bytes) (hb : strip_state_length ≤ length b) where
  numbers-from : (cs : List Call) (s : StripState) → Good s → numbers_from_c (slice s b) cs ≡ map (λ (t : Told). t.number) (told_from s cs)
  numbers-from [] s g = refl
  numbers-from (c ∷ cs) s g =
      ap₂ (λ (n : ℕ) (ns : List ℕ). n ∷ ns) (number_is b hb s g c ∙ sym (ap (λ (a : StripAnswer). a.refusal) (answer-is s c)))
      (ap (λ (st : Bytes). numbers_from_c st cs) (slice_is b hb s g c) ∙ numbers-from cs (answer_to s c).state (good-next s g c))

  outputs-from : (cs : List Call) (s : StripState) → Good s → outputs_from_c (slice s b) cs ≡ outputs_from s cs
  outputs-from [] s g = refl
  outputs-from (c ∷ cs) s g =
      ap₂ (λ (o : Bytes) (os : List Bytes). o ∷ os) (output-is b hb s g c)
      (ap (λ (st : Bytes). outputs_from_c st cs) (slice_is b hb s g c) ∙ outputs-from cs (answer_to s c).state (good-next s g c))

  slice-from : (cs : List Call) (s : StripState) → Good s → slice_from_c (slice s b) cs ≡ slice (state_from s cs) b
  slice-from [] s g = refl
  slice-from (c ∷ cs) s g = ap (λ (st : Bytes). slice_from_c st cs) (slice_is b hb s g c) ∙ slice-from cs (answer_to s c).state (good-next s g c)

-- ---- the whole list
module _ (l : StripList) (st : Bytes) where
  module _ (h : strip_state_length ≤ length st) where
    start-slice : start_slice_c l st ≡ slice (start_to l).state st
    unfolding start_call_state
    start-slice = simp (le-ltb (length st) strip_state_length h) (put_is st (start_to l).state (good_start l))

    start-number-is : start_call_refusal l.key l.nonce l.secret l.associated l.out st ≡ (start_to l).refusal
    unfolding start_answer
    start-number-is = start-number l.key l.nonce l.secret l.associated l.out st h

    list-numbers : run_numbers_c l st ≡ map (λ (t : Told). t.number) (run_told l)
    unfolding run_numbers_c run_told
    list-numbers =
        ap₂ (λ (n : ℕ) (ns : List ℕ). n ∷ ns) start-number-is
        (ap (λ (st : Bytes). numbers_from_c st l.calls) start-slice ∙ numbers-from st h l.calls (start_to l).state (good_start l))

    start-output-is : start_call_output l.key l.nonce l.secret l.associated l.out st ≡ start_output l.key l.nonce l.secret l.associated l.out
    unfolding start_call_output start_output start_answer
    start-output-is =
        ap (λ (n : ℕ). unless n l.out (start_output l.key l.nonce l.secret l.associated l.out)) start-number-is
        ∙ sym (twice (start_number_of l) l.out _)

    list-outputs : run_outputs_c l st ≡ run_outputs l
    unfolding run_outputs_c run_outputs
    list-outputs =
        ap₂ (λ (o : Bytes) (os : List Bytes). o ∷ os) start-output-is
        (ap (λ (st : Bytes). outputs_from_c st l.calls) start-slice ∙ outputs-from st h l.calls (start_to l).state (good_start l))

    list-slice : run_slice_c l st ≡ strip_state_bytes (run_state l) ++ drop strip_state_length st
    unfolding run_slice_c run_state
    list-slice = ap (λ (st : Bytes). slice_from_c st l.calls) start-slice ∙ slice-from st h l.calls (start_to l).state (good_start l)

  -- ---- too few bytes
  module _ (h : length st < strip_state_length) where
    short-call : (c : Call) → (5 ≡ number_c st c) × (st ≡ slice_c st c) × (lent_to c ≡ output_c st c)
    unfolding number_c slice_c output_c
    short-call (strip_of m o) = strip-short st m o h
    short-call (end_of o) = end_short st o h

    short-from : (cs : List Call)
        → (numbers_from_c st cs ≡ map (λ (c : Call). 5) cs) × (outputs_from_c st cs ≡ map lent_to cs) × (slice_from_c st cs ≡ st)
    short-from [] = (refl, refl, refl)
    short-from (c ∷ cs) =
        let x = short-call c in
        let i = short-from cs in (
          ap₂ (λ (n : ℕ) (ns : List ℕ). n ∷ ns) (sym x.0) (ap (λ (st : Bytes). numbers_from_c st cs) (sym x.1) ∙ i.0),
          ap₂ (λ (o : Bytes) (os : List Bytes). o ∷ os) (sym x.2) (ap (λ (st : Bytes). outputs_from_c st cs) (sym x.1) ∙ i.1),
          ap (λ (st : Bytes). slice_from_c st cs) (sym x.1) ∙ i.2,
        )

    abbrev Started : ℕ → Type 0
    Started n =
        (n ≡ start_call_refusal l.key l.nonce l.secret l.associated l.out st)
        × (l.out ≡ start_call_output l.key l.nonce l.secret l.associated l.out st)
        × (st ≡ start_slice_c l st)

    short-start : Started (cond (eqb (start_number_of l) 0) 5 (start_number_of l))
    short-start = by (start_number_of l) refl
      where
        by : (n : ℕ) → n ≡ start_number_of l → Started (cond (eqb n 0) 5 n)
        by zero e = start-short l.key l.nonce l.secret l.associated l.out st h 0 e refl
        by (suc n) e =
            rw (turned n 5 (suc n)) (start-short-refused l.key l.nonce l.secret l.associated l.out st h (suc n) e (λ z. omega arith))

    list-short : (run_numbers_c l st ≡ cond (eqb (start_number_of l) 0) 5 (start_number_of l) ∷ map (λ (c : Call). 5) l.calls)
        × (run_outputs_c l st ≡ l.out ∷ map lent_to l.calls)
        × (run_slice_c l st ≡ st)
    unfolding run_numbers_c run_outputs_c run_slice_c
    list-short =
        let x = short-start in
        let i = short-from l.calls in (
          ap₂ (λ (n : ℕ) (ns : List ℕ). n ∷ ns) (sym x.0) (ap (λ (st : Bytes). numbers_from_c st l.calls) (sym x.2) ∙ i.0),
          ap₂ (λ (o : Bytes) (os : List Bytes). o ∷ os) (sym x.1) (ap (λ (st : Bytes). outputs_from_c st l.calls) (sym x.2) ∙ i.1),
          ap (λ (st : Bytes). slice_from_c st l.calls) (sym x.2) ∙ i.2,
        )

pub strip-call-lists : StripCallLists
strip-call-lists = record { numbers = list-numbers; outputs = list-outputs; state = list-slice; short = list-short }
