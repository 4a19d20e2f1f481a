-- Any list of calls gives what whole sealing gives: a state and the plain message that belongs to it go together, call by call.
-- Assumes nothing.
use mathlib.Core.Path.{◌≡◌, refl, sym, ap, ap₂, subst, ◌∙◌}
use mathlib.Core.Bool.{Bool, true, false, cond}
use mathlib.Core.List.{List, [], ◌∷◌, ◌++◌, append_assoc, append-nil}
use Prim.Native.Nat.{ℕ, zero, suc, ◌+◌, ◌≤◌}
use native.Mathlib.Omega.{arith}
use borrow.Author.Tests.{ne_eqb}
use lib.Dec.{eqb}
use lib.ListN.{length, take, drop, length-append}
use lib.Seq.{drop-append-add, drop_at, length-take-le, take_at}
use Rattle.bytes_le.specs.Bytes.{Bytes, put_bytes}
use Rattle.bytes_le.proofs.Laws.{take_put}
use Rattle.state_bytes.proofs.Lengths.{length-permuted}
use Rattle.icepole.specs.declared.Variant.TheVariants.{Icepole128}
use Rattle.icepole.specs.Variants.{sizes}
use Rattle.blocks.specs.Sealing.{◌⊕₈◌, finish, keyed, ready, sealed}
use Rattle.icepole.specs.Answers.{unless}
use Rattle.blocks.specs.Lengths.{max_length}
use Rattle.icepole.proofs.Numbers.{SealFits}
use Rattle.blocks.proofs.Opening.{length-keyed, length-ready}
use Rattle.blocks.specs.WayLaws.{length-xor}
use Rattle.strips.specs.declared.StripState.{StripState}
use Rattle.strips.specs.Answers.{StripAnswer}
use Rattle.strips.specs.Machine.{Held, held, ended, fed, fed_bytes, fill_of}
use Rattle.strips.specs.Answers.{after_end, after_strip, answered, end_answer, end_number, end_output, end_refusal, held_in, not_started, start_answer, start_output}
use Rattle.strips.specs.Answers.{start_refusal, started, strip_answer, strip_number, strip_output, strip_refusal}
use Rattle.claims.specs.StripLists.{AllDone, Call, StripList, Piece, PlainMessage, StripLists, Told, accepted, after_call, after_calls, answer_to, count_of}
use Rattle.claims.specs.StripLists.{cut, end_of, joined, lent_to, number_of, output_of, outputs_from, part_of, plain_answer, plain_from, plain_of, plain_outputs}
use Rattle.claims.specs.StripLists.{plain_outputs_from, plain_start, plain_told, run_outputs, run_told, run_written, sealing, start_number_of, start_to, strip_of}
use Rattle.claims.specs.StripLists.{told_by, told_from, written_from}
use Rattle.strips.proofs.Machine.{bytes-join, fed-fill, fed-join, length-fed, whole-bytes, whole-tag}
use Rattle.strips.proofs.Numbers.{end-0, end-14, end-open, over, start-accepted, start_fits, strip-0, strip-14, strip-fits, takes}

-- where the number is not 0
pub turned : {A : Type 0} (n : ℕ) (a b : A) → cond (eqb (suc n) 0) a b ≡ b
turned n a b = rw (ne_eqb (suc n) 0 (λ z. omega arith)) refl

-- ---- one call, whatever it is
abbrev pub after_state : StripState → Call → StripState
after_state s (strip_of m o) = after_strip s m o
after_state s (end_of o) = after_end s o

abbrev bytes_by : StripState → Call → Bytes
bytes_by s (strip_of m o) = fed_bytes 128 (held_in s) m
bytes_by s (end_of o) = ended (held_in s)

unfoldable pub number_by : StripState → Call → ℕ
number_by s (strip_of m o) = strip_number s.finished s.count (length m) (length o)
number_by s (end_of o) = end_number s.finished s.count (length o)

pub answer-is : (s : StripState) (c : Call) → answer_to s c ≡ answered (number_by s c) s (after_state s c) (count_of c)
unfolding answer_to strip_answer strip_refusal end_answer end_refusal number_by count_of
answer-is s (strip_of m o) = refl
answer-is s (end_of o) = refl

output-is : (s : StripState) (c : Call) → output_of s c ≡ unless (number_by s c) (lent_to c) (put_bytes (lent_to c) 0 (bytes_by s c))
unfolding output_of strip_output strip_refusal end_output end_refusal number_by
output-is s (strip_of m o) = refl
output-is s (end_of o) = refl

-- ---- a state and the plain message that belongs to it; u is the state after the associated data
record Rel (u : Bytes) (s : StripState) (p : PlainMessage) : Type 0 where
  finished : s.finished ≡ p.finished
  count : s.count ≡ length p.message
  holds : p.finished ≡ false → held_in s ≡ fed 128 (held u 0) p.message

module _ (u : Bytes) (s : StripState) (p : PlainMessage) (g : Rel u s p) where
  same_number : (c : Call) → number_by s c ≡ number_of p c
  unfolding number_by number_of
  same_number (strip_of m o) = ap₂ (λ (f : Bool) (n : ℕ). strip_number f n (length m) (length o)) g.finished g.count
  same_number (end_of o) = ap₂ (λ (f : Bool) (n : ℕ). end_number f n (length o)) g.finished g.count

  by_number : (c : Call) (n : ℕ) → number_of p c ≡ n → answer_to s c ≡ answered n s (after_state s c) (count_of c)
  by_number c n e = answer-is s c ∙ ap (λ (n : ℕ). answered n s (after_state s c) (count_of c)) (same_number c ∙ e)

  told_is : (c : Call) → told_by (answer_to s c) ≡ plain_answer (number_of p c) (count_of c)
  told_is c = ap told_by (by_number c (number_of p c) refl)

  module _ (c : Call) (n : ℕ) (e : number_of p c ≡ suc n) where
    refused-state : (answer_to s c).state ≡ s
    refused-state = ap (λ (a : StripAnswer). a.state) (by_number c (suc n) e) ∙ turned n (after_state s c) s

    refused-count : (answer_to s c).count ≡ 0
    refused-count = ap (λ (a : StripAnswer). a.count) (by_number c (suc n) e) ∙ turned n (count_of c) 0

    refused-plain : after_call p c ≡ p
    unfolding after_call
    refused-plain = ap (λ (n : ℕ). cond (eqb n 0) (accepted p c) p) e ∙ turned n (accepted p c) p

  module _ (c : Call) (e : number_of p c ≡ 0) where
    done-state : (answer_to s c).state ≡ after_state s c
    done-state = ap (λ (a : StripAnswer). a.state) (by_number c 0 e)

    done-count : (answer_to s c).count ≡ count_of c
    done-count = ap (λ (a : StripAnswer). a.count) (by_number c 0 e)

    done_plain : after_call p c ≡ accepted p c
    unfolding after_call
    done_plain = ap (λ (n : ℕ). cond (eqb n 0) (accepted p c) p) e

    done-output : output_of s c ≡ put_bytes (lent_to c) 0 (bytes_by s c)
    done-output = output-is s c ∙ ap (λ (n : ℕ). unless n (lent_to c) (put_bytes (lent_to c) 0 (bytes_by s c))) (same_number c ∙ e)

  -- an accepted strip finds the message open
  open-strip : (m o : Bytes) → number_of p (strip_of m o) ≡ 0 → p.finished ≡ false
  unfolding number_of
  open-strip m o e = (strip-fits p.finished (length p.message) (length m) (length o) e).open'

  open-end : (o : Bytes) → number_of p (end_of o) ≡ 0 → p.finished ≡ false
  unfolding number_of
  open-end o e = end-open p.finished (length p.message) (length o) e

  -- the output, from what an accepted call puts
  output-by : (c : Call) (seal : Bytes → Bytes) → (number_of p c ≡ 0 → bytes_by s c ≡ part_of seal p c)
      → output_of s c ≡ unless (number_of p c) (lent_to c) (put_bytes (lent_to c) 0 (part_of seal p c))
  output-by c seal part = output-is s c ∙ ap (λ (n : ℕ). unless n (lent_to c) (put_bytes (lent_to c) 0 (bytes_by s c))) (same_number c) ∙ by (number_of p c) refl
    where
      by : (n : ℕ) → number_of p c ≡ n → unless (number_of p c) (lent_to c) (put_bytes (lent_to c) 0 (bytes_by s c)) ≡ unless (number_of p c) (lent_to c) (put_bytes (lent_to c) 0 (part_of seal p c))
      by zero e = ap (λ (b : Bytes). unless (number_of p c) (lent_to c) (put_bytes (lent_to c) 0 b)) (part e)
      by (suc n) e =
          ap (λ (i : ℕ). unless i (lent_to c) (put_bytes (lent_to c) 0 (bytes_by s c))) e ∙ turned n (put_bytes (lent_to c) 0 (bytes_by s c)) (lent_to c)
          ∙ sym (ap (λ (i : ℕ). unless i (lent_to c) (put_bytes (lent_to c) 0 (part_of seal p c))) e ∙ turned n (put_bytes (lent_to c) 0 (part_of seal p c)) (lent_to c))

  rel-strip : (m o : Bytes) → number_of p (strip_of m o) ≡ 0 → Rel u (after_strip s m o) (accepted p (strip_of m o))
  unfolding accepted
  rel-strip m o e =
      let f : fill_of 128 (s.count + length m) ≡ (fed 128 (held_in s) m).fill = sym (fed-fill m s.bytes s.count) in
      record {
        finished = refl;
        count = ap (λ (n : ℕ). n + length m) g.count ∙ sym (length-append p.message m);
        holds = λ (z : false ≡ false).
            ap (held (fed 128 (held_in s) m).state) f
            ∙ ap (λ (h : Held). fed 128 h m) (g.holds (open-strip m o e))
            ∙ sym (fed-join 128 (held u 0) p.message m);
      }

  open_after : (m o : Bytes) → (accepted p (strip_of m o)).finished ≡ false
  unfolding accepted
  open_after m o = refl

  rel-end : (o : Bytes) → Rel u (after_end s o) (accepted p (end_of o))
  unfolding accepted
  rel-end o = record { finished = refl; count = g.count; holds = λ (z : true ≡ false). absurd (let y : ◌≡◌ {A = ℕ} 0 1 = cc in omega arith) }

  rel-done : (c : Call) → number_of p c ≡ 0 → Rel u (after_state s c) (accepted p c)
  rel-done (strip_of m o) e = rel-strip m o e
  rel-done (end_of o) e = rel-end o

-- equals for equals
along : (u : Bytes) (s s' : StripState) (p p' : PlainMessage) → s' ≡ s → p' ≡ p → Rel u s p → Rel u s' p'
along u s s' p p' es ep g = rw (es, ep) g

rel-next : (u : Bytes) (s : StripState) (p : PlainMessage) → Rel u s p → (c : Call) → Rel u (answer_to s c).state (after_call p c)
rel-next u s p g c = by (number_of p c) refl
  where
    by : (n : ℕ) → number_of p c ≡ n → Rel u (answer_to s c).state (after_call p c)
    by zero e = along u (after_state s c) _ (accepted p c) _ (done-state u s p g c e) (done_plain u s p g c e) (rel-done u s p g c e)
    by (suc n) e = along u s _ p _ (refused-state u s p g c n e) (refused-plain u s p g c n e) g

-- ---- numbers and counts
told-from : (u : Bytes) (cs : List Call) (s : StripState) (p : PlainMessage) → Rel u s p → told_from s cs ≡ plain_from p cs
told-from u [] s p g = refl
told-from u (c ∷ cs) s p g =
    ap₂ (λ (t : Told) (ts : List Told). t ∷ ts) (told_is u s p g c) (told-from u cs (answer_to s c).state (after_call p c) (rel-next u s p g c))

-- ---- the bytes
-- what is finished takes nothing more
finished-number : (p : PlainMessage) (c : Call) → p.finished ≡ true → number_of p c ≡ 14
unfolding number_of
finished-number p (strip_of m o) e = sym (strip-14 p.finished (length p.message) (length m) (length o) (over p.finished (length p.message) e))
finished-number p (end_of o) e = sym (end-14 p.finished (length p.message) (length o) (over p.finished (length p.message) e))

module _ (u : Bytes) where
  abbrev Closed : List Call → StripState → PlainMessage → Type 0
  Closed cs s p = (written_from s cs ≡ []) × (after_calls p cs ≡ p)

  closed : (cs : List Call) (s : StripState) (p : PlainMessage) → Rel u s p → p.finished ≡ true → Closed cs s p
  closed [] s p g h = (refl, refl)
  closed (c ∷ cs) s p g h =
      let e = finished-number p c h in
      let i = closed cs s p g h in (
        ap₂ (λ (n : ℕ) (t : StripState). take n (output_of s c) ++ written_from t cs) (refused-count u s p g c 13 e) (refused-state u s p g c 13 e) ∙ i.0,
        ap (λ (p : PlainMessage). after_calls p cs) (refused-plain u s p g c 13 e) ∙ i.1,
      )

  outputs-closed : (cs : List Call) (s : StripState) (p : PlainMessage) → Rel u s p → (seal : Bytes → Bytes) → p.finished ≡ true
      → outputs_from s cs ≡ plain_outputs_from seal p cs
  outputs-closed [] s p g seal h = refl
  outputs-closed (c ∷ cs) s p g seal h =
      let e = finished-number p c h in
      ap₂ (λ (b : Bytes) (bs : List Bytes). b ∷ bs) (output-by u s p g c seal (λ (z : number_of p c ≡ 0). absurd (omega (arith, e, z))))
      (ap (λ (t : StripState). outputs_from t cs) (refused-state u s p g c 13 e)
      ∙ outputs-closed cs s p g seal h
      ∙ ap (λ (q : PlainMessage). plain_outputs_from seal q cs) (sym (refused-plain u s p g c 13 e)))

  -- the ciphertext of a message, and its tag
  E : Bytes → Bytes
  E m = fed_bytes 128 (held u 0) m

  T : Bytes → Bytes
  T m = ended (fed 128 (held u 0) m)

  -- what is written up to p, of a message that ends at p or goes on
  Upto : PlainMessage → Bytes
  Upto p = cond p.finished (E p.message ++ T p.message) (E p.message)

  -- what an accepted call puts stands at the front of its output
  front : (s : StripState) (p : PlainMessage) (g : Rel u s p) (c : Call) → number_of p c ≡ 0 → length (bytes_by s c) ≡ count_of c
      → take (answer_to s c).count (output_of s c) ≡ bytes_by s c
  front s p g c e l =
      ap₂ take (done-count u s p g c e ∙ sym l) (done-output u s p g c e)
      ∙ take_put (lent_to c) 0 (bytes_by s c) (length (bytes_by s c)) (omega arith) (omega arith)

  ended-length : (s : StripState) → length (ended (held_in s)) ≡ 16
  ended-length s =
      let h : length (finish s.bytes (fill_of 128 s.count) 0) ≡ 160 = length-permuted 6 _ in
      length-take-le 16 (finish s.bytes (fill_of 128 s.count) 0) (omega arith)

  Going : List Call → StripState → PlainMessage → Type 0
  Going cs s p = E p.message ++ written_from s cs ≡ Upto (after_calls p cs)

  -- the message is open here, and c comes
  module _ (s : StripState) (p : PlainMessage) (g : Rel u s p) (h : p.finished ≡ false) (cs : List Call) where
    going-refused : (c : Call) (n : ℕ) → number_of p c ≡ suc n → Going cs s p → Going (c ∷ cs) s p
    unfolding Going
    going-refused c n e i =
        ap₂ (λ (k : ℕ) (t : StripState). E p.message ++ (take k (output_of s c) ++ written_from t cs)) (refused-count u s p g c n e) (refused-state u s p g c n e)
        ∙ i
        ∙ ap (λ (p : PlainMessage). Upto (after_calls p cs)) (sym (refused-plain u s p g c n e))

    -- what c writes, then the rest
    next : (c : Call) → number_of p c ≡ 0 → length (bytes_by s c) ≡ count_of c
        → E p.message ++ written_from s (c ∷ cs) ≡ (E p.message ++ bytes_by s c) ++ written_from (after_state s c) cs
    next c e l =
        ap₂ (λ (b : Bytes) (t : StripState). E p.message ++ (b ++ written_from t cs)) (front s p g c e l) (done-state u s p g c e)
        ∙ sym (append_assoc (E p.message) (bytes_by s c) (written_from (after_state s c) cs))

    going-strip : (m o : Bytes) → number_of p (strip_of m o) ≡ 0 → Going cs (after_strip s m o) (accepted p (strip_of m o)) → Going (strip_of m o ∷ cs) s p
    unfolding Going E accepted count_of
    going-strip m o e i =
        next (strip_of m o) e (length-fed 128 (held_in s) m)
        ∙ ap (λ (b : Bytes). b ++ written_from (after_strip s m o) cs)
        (ap (λ (k : Held). fed_bytes 128 (held u 0) p.message ++ fed_bytes 128 k m) (g.holds h) ∙ sym (bytes-join 128 (held u 0) p.message m))
        ∙ i
        ∙ ap (λ (p : PlainMessage). Upto (after_calls p cs)) (sym (done_plain u s p g (strip_of m o) e))

    going_end : (o : Bytes) → number_of p (end_of o) ≡ 0 → Going (end_of o ∷ cs) s p
    unfolding Going T Upto accepted count_of
    going_end o e =
        let z = closed cs (after_end s o) (accepted p (end_of o)) (rel-end u s p g o) refl in
        next (end_of o) e (ended-length s)
        ∙ ap₂ (λ (k : Held) (w : Bytes). (E p.message ++ ended k) ++ w) (g.holds h) z.0
        ∙ append-nil (E p.message ++ T p.message)
        ∙ ap Upto (sym (ap (λ (p : PlainMessage). after_calls p cs) (done_plain u s p g (end_of o) e) ∙ z.1))

  going : (cs : List Call) (s : StripState) (p : PlainMessage) → Rel u s p → p.finished ≡ false → Going cs s p
  unfolding Going Upto
  going [] s p g h = append-nil (E p.message) ∙ ap (λ (f : Bool). cond f (E p.message ++ T p.message) (E p.message)) (sym h)
  going (c ∷ cs) s p g h = by c (number_of p c) refl (going cs)
    where
      by : (c : Call) (n : ℕ) → number_of p c ≡ n → ((s : StripState) (p : PlainMessage) → Rel u s p → p.finished ≡ false → Going cs s p) → Going (c ∷ cs) s p
      by c (suc n) e ih = going-refused s p g h cs c n e (ih s p g h)
      by (strip_of m o) zero e ih = going-strip s p g h cs m o e (ih (after_strip s m o) (accepted p (strip_of m o)) (rel-strip u s p g m o e) (open_after u s p g m o))
      by (end_of o) zero e ih = going_end s p g h cs o e

-- ---- the whole list
module _ (l : StripList) where
  abbrev u : Bytes
  u = ready 128 (keyed l.key l.nonce) l.secret l.associated

  abbrev sealed_secret : Bytes
  sealed_secret = keyed l.key l.nonce ⊕₈ l.secret

  pub start_is : (n : ℕ) → start_number_of l ≡ n → start_to l ≡ answered n not_started (started l.key l.nonce l.secret l.associated l.out) 16
  unfolding start_answer
  start_is n e = ap (λ (n : ℕ). answered n not_started (started l.key l.nonce l.secret l.associated l.out) 16) e

  -- the state of the start and the plain message with no strip
  rel-start : Rel u (start_to l).state (plain_start l)
  rel-start = by (start_number_of l) refl
    where
      by : (n : ℕ) → start_number_of l ≡ n → Rel u (start_to l).state (plain_start l)
      by zero e =
          along u (started l.key l.nonce l.secret l.associated l.out) _ (record { message = []; finished = false }) _
          (ap (λ (a : StripAnswer). a.state) (start_is 0 e)) (ap (λ (n : ℕ). record { message = []; finished = cond (eqb n 0) false true }) e)
          (record { finished = refl; count = refl; holds = λ (z : false ≡ false). refl })
      by (suc n) e =
          along u not_started _ (record { message = []; finished = true }) _
          (ap (λ (a : StripAnswer). a.state) (start_is (suc n) e) ∙ turned n _ not_started)
          (ap (λ (n : ℕ). record { message = []; finished = cond (eqb n 0) false true }) e ∙ ap (λ (f : Bool). record { message = []; finished = f }) (turned n false true))
          (record { finished = refl; count = refl; holds = λ (z : true ≡ false). absurd (let y : ◌≡◌ {A = ℕ} 0 1 = cc in omega arith) })

  list-agrees : run_told l ≡ plain_told l
  unfolding run_told plain_told
  list-agrees =
      ap₂ (λ (t : Told) (ts : List Told). t ∷ ts) (ap told_by (start_is (start_number_of l) refl))
      (told-from u l.calls (start_to l).state (plain_start l) rel-start)

  -- ---- what was written, and the sealed message
  pub hu : length u ≡ 160
  hu = length-ready (sizes Icepole128) (omega arith) (omega arith) (omega arith) (keyed l.key l.nonce) l.secret l.associated

  sealing-is : (m : Bytes) → sealing l m ≡ sealed_secret ++ (E u m ++ T u m)
  unfolding sealed E T
  sealing-is m =
      ap₂ (λ (c t : Bytes). sealed_secret ++ (c ++ t)) (sym (whole-bytes 128 (omega arith) (omega arith) m u hu)) (sym (whole-tag 128 (omega arith) (omega arith) m u hu))

  module _ (e : start_number_of l ≡ 0) where
    fits : SealFits (sizes Icepole128) (length l.key) (length l.nonce) (length l.secret) (length l.associated) 0 (length l.out + 16)
    unfolding start_refusal
    fits = start_fits (sizes Icepole128) (length l.key) (length l.nonce) (length l.secret) (length l.associated) (length l.out) e

    length-secret : length sealed_secret ≡ 16
    length-secret =
        let h : length (keyed l.key l.nonce) ≡ 160 = length-keyed l.key l.nonce in
        let s : length l.secret ≡ 16 = fits.secret in
        length-xor (keyed l.key l.nonce) l.secret (omega arith) ∙ s

    start-front : take (start_to l).count (start_output l.key l.nonce l.secret l.associated l.out) ≡ sealed_secret
    unfolding start_output
    start-front =
        ap₂ (λ (k n : ℕ). take k (unless n l.out (put_bytes l.out 0 sealed_secret))) (ap (λ (a : StripAnswer). a.count) (start_is 0 e)) e
        ∙ take_put l.out 0 sealed_secret 16 (let h : length sealed_secret ≡ 16 = length-secret in omega arith) (omega arith)

    -- the sealed message up to p
    upto_is : (p : PlainMessage) → sealed_secret ++ Upto u p ≡ cond p.finished (sealing l p.message) (take (16 + length p.message) (sealing l p.message))
    unfolding Upto E
    upto_is p = by p.finished
      where
        by : (f : Bool)
            → sealed_secret ++ cond f (E u p.message ++ T u p.message) (E u p.message)
            ≡ cond f (sealing l p.message) (take (16 + length p.message) (sealing l p.message))
        by true = sym (sealing-is p.message)
        by false =
            sym
            (ap (take (16 + length p.message)) (sealing-is p.message ∙ sym (append_assoc sealed_secret (E u p.message) (T u p.message)))
            ∙ take_at (sealed_secret ++ E u p.message) (T u p.message) (16 + length p.message)
            (length-append sealed_secret (E u p.message) ∙ ap₂ (λ (i j : ℕ). i + j) length-secret (length-fed 128 (held u 0) p.message)))

    list-bytes : run_written l ≡ cond (plain_of l).finished (sealing l (plain_of l).message) (take (16 + length (plain_of l).message) (sealing l (plain_of l).message))
    unfolding run_written plain_of Going E
    list-bytes =
        let f : (plain_start l).finished ≡ false = ap (λ (n : ℕ). cond (eqb n 0) false true) e in
        ap₂ (λ (a b : Bytes). a ++ b) start-front (going u l.calls (start_to l).state (plain_start l) rel-start f)
        ∙ upto_is (after_calls (plain_start l) l.calls)

    -- ---- each call's part
    after-secret : (m rest : Bytes) (n : ℕ) → E u m ++ T u m ≡ rest → drop (16 + n) (sealing l m) ≡ drop n rest
    after-secret m rest n er =
        ap (drop (16 + n)) (sealing-is m)
        ∙ ap (λ (k : ℕ). drop (k + n) (sealed_secret ++ (E u m ++ T u m))) (sym length-secret)
        ∙ drop-append-add sealed_secret (E u m ++ T u m) n ∙ ap (drop n) er

    part-is : (s : StripState) (p : PlainMessage) → Rel u s p → (c : Call) → number_of p c ≡ 0 → bytes_by s c ≡ part_of (sealing l) p c
    unfolding part_of E T
    part-is s p g (strip_of m o) z =
        let f : Bytes = fed_bytes 128 (held_in s) m in
        let h = g.holds (open-strip u s p g m o z) in
        let e₁ : E u (p.message ++ m) ≡ E u p.message ++ f =
        bytes-join 128 (held u 0) p.message m ∙ ap (λ (k : Held). fed_bytes 128 (held u 0) p.message ++ fed_bytes 128 k m) (sym h) in
        let t : Bytes = T u (p.message ++ m) in
        let e₂ = ap (λ (b : Bytes). b ++ t) e₁ ∙ append_assoc (E u p.message) f t in
        sym
        (ap (take (length m))
        (after-secret (p.message ++ m) (E u p.message ++ (f ++ t)) (length p.message) e₂
        ∙ drop_at (E u p.message) (f ++ t) (length p.message) (length-fed 128 (held u 0) p.message))
        ∙ take_at f t (length m) (length-fed 128 (held_in s) m))
    part-is s p g (end_of o) z =
        ap ended (g.holds (open-end u s p g o z))
        ∙ sym
        (after-secret p.message (E u p.message ++ T u p.message) (length p.message) refl
        ∙ drop_at (E u p.message) (T u p.message) (length p.message) (length-fed 128 (held u 0) p.message))

    outputs-going : (cs : List Call) (s : StripState) (p : PlainMessage) → Rel u s p → outputs_from s cs ≡ plain_outputs_from (sealing l) p cs
    outputs-going [] s p g = refl
    outputs-going (c ∷ cs) s p g =
        ap₂ (λ (b : Bytes) (bs : List Bytes). b ∷ bs) (output-by u s p g c (sealing l) (part-is s p g c))
        (outputs-going cs (answer_to s c).state (after_call p c) (rel-next u s p g c))

    first_part : sealed_secret ≡ take 16 (sealing l [])
    first_part = sym (ap (take 16) (sealing-is []) ∙ take_at sealed_secret (E u [] ++ T u []) 16 length-secret)

  list-outputs : run_outputs l ≡ plain_outputs l
  unfolding run_outputs plain_outputs start_output
  list-outputs = by (start_number_of l) refl
    where
      by : (n : ℕ) → start_number_of l ≡ n → run_outputs l ≡ plain_outputs l
      by zero e =
          ap₂ (λ (b : Bytes) (bs : List Bytes). unless (start_number_of l) l.out (put_bytes l.out 0 b) ∷ bs) (first_part e)
          (outputs-going e l.calls (start_to l).state (plain_start l) rel-start)
      by (suc n) e =
          let f : (plain_start l).finished ≡ true = ap (λ (n : ℕ). cond (eqb n 0) false true) e ∙ turned n false true in
          ap₂ (λ (b : Bytes) (bs : List Bytes). b ∷ bs)
          (ap (λ (i : ℕ). unless i l.out (put_bytes l.out 0 sealed_secret)) e ∙ turned n (put_bytes l.out 0 sealed_secret) l.out
          ∙ sym (ap (λ (i : ℕ). unless i l.out (put_bytes l.out 0 (take 16 (sealing l [])))) e ∙ turned n (put_bytes l.out 0 (take 16 (sealing l []))) l.out))
          (outputs-closed u l.calls (start_to l).state (plain_start l) rel-start (sealing l) f)

-- ---- a message cut into strips: each is accepted, and so is the end
length-joined : (x : Piece) (xs : List Piece) → length (joined (x ∷ xs)) ≡ length x.message + length (joined xs)
length-joined x xs = simp length-append (omega arith)

module _ (end : Bytes) (he : 16 ≤ length end) where
  strip-number : (x : Piece) (p : Bytes) → length p + length x.message ≤ max_length
      → number_of (record { message = p; finished = false }) (strip_of x.message x.out) ≡ 0
  unfolding number_of
  strip-number x p h =
      sym (strip-0 false (length p) (length x.message) (length x.out) (takes false (length p) refl (omega arith)) h x.room)

  end-number : (p : Bytes) → length p ≤ max_length → number_of (record { message = p; finished = false }) (end_of end) ≡ 0
  unfolding number_of
  end-number p h = sym (end-0 false (length p) (length end) (takes false (length p) refl h) he)

  after-strip : (x : Piece) (p : Bytes) → length p + length x.message ≤ max_length
      → after_call (record { message = p; finished = false }) (strip_of x.message x.out) ≡ record { message = p ++ x.message; finished = false }
  unfolding after_call accepted
  after-strip x p h = rw (strip-number x p h) refl

  after-end : (p : Bytes) → length p ≤ max_length
      → after_call (record { message = p; finished = false }) (end_of end) ≡ record { message = p; finished = true }
  unfolding after_call accepted
  after-end p h = rw (end-number p h) refl

  cut-from : (xs : List Piece) (p : Bytes) → length p + length (joined xs) ≤ max_length
      → AllDone (plain_from (record { message = p; finished = false }) (cut xs end))
      × (after_calls (record { message = p; finished = false }) (cut xs end) ≡ record { message = p ++ joined xs; finished = true })
  cut-from [] p h =
      let hp : length p ≤ max_length = omega arith in
      ((end-number p hp, tt), after-end p hp ∙ ap (λ (m : Bytes). record { message = m; finished = true }) (sym (append-nil p)))
  cut-from (x ∷ xs) p h =
      let l : length (joined (x ∷ xs)) ≡ length x.message + length (joined xs) = length-joined x xs in
      let hx : length p + length x.message ≤ max_length = omega arith in
      let e = after-strip x p hx in
      let i = cut-from xs (p ++ x.message) (rw length-append (omega arith)) in (
        (strip-number x p hx, subst (λ (q : PlainMessage). AllDone (plain_from q (cut xs end))) (sym e) i.0),
        ap (λ (q : PlainMessage). after_calls q (cut xs end)) e ∙ i.1 ∙ ap (λ (m : Bytes). record { message = m; finished = true }) (append_assoc p x.message (joined xs)),
      )

list-cut : (key nonce secret associated out end : Bytes) (xs : List Piece)
    → length key ≡ 16 → length nonce ≡ 16 → length secret ≡ 16 → length associated ≤ max_length → 16 ≤ length out
    → length (joined xs) ≤ max_length → 16 ≤ length end
    → let l : StripList = record { key = key; nonce = nonce; secret = secret; associated = associated; out = out; calls = cut xs end } in
    AllDone (run_told l) × (run_written l ≡ sealing l (joined xs))
unfolding start_refusal plain_told plain_of
list-cut key nonce secret associated out end xs hk hn hs ha ho hm he = (subst AllDone (sym (list-agrees l)) (told start-done), list-bytes l start-done ∙ whole start-done)
  where
    l : StripList
    l = record { key = key; nonce = nonce; secret = secret; associated = associated; out = out; calls = cut xs end }

    start-done : start_number_of l ≡ 0
    start-done = start-accepted (sizes Icepole128) (length key) (length nonce) (length secret) (length associated) (length out)
        hk hn hs ha ho

    begun : start_number_of l ≡ 0 → plain_start l ≡ record { message = []; finished = false }
    begun e = ap (λ (n : ℕ). record { message = []; finished = cond (eqb n 0) false true }) e

    told : start_number_of l ≡ 0 → AllDone (plain_told l)
    told e = (e, subst (λ (p : PlainMessage). AllDone (plain_from p (cut xs end))) (sym (begun e)) (cut-from end he xs [] (omega arith)).0)

    after : start_number_of l ≡ 0 → plain_of l ≡ record { message = joined xs; finished = true }
    after e = ap (λ (p : PlainMessage). after_calls p (cut xs end)) (begun e) ∙ (cut-from end he xs [] (omega arith)).1

    whole : start_number_of l ≡ 0
        → cond (plain_of l).finished (sealing l (plain_of l).message) (take (16 + length (plain_of l).message) (sealing l (plain_of l).message)) ≡ sealing l (joined xs)
    whole e = ap (λ (p : PlainMessage). cond p.finished (sealing l p.message) (take (16 + length p.message) (sealing l p.message))) (after e)

pub strip-lists : StripLists
strip-lists = record { agrees = list-agrees; outputs = list-outputs; bytes = list-bytes; any_cut = list-cut }
