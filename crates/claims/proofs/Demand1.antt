-- Demand 1: each order by its tests, and each refused call by its number.
-- Assumes nothing.
use mathlib.Core.Bool.{Bool, true, false, cond, not, ◌||◌, ◌&&◌}
use mathlib.Core.List.{List, [], ◌∷◌, ◌++◌}
use mathlib.Core.Logic.{◌⊎◌, inl, inr, ⊎_elim, ◌≢◌}
use mathlib.Core.Path.{◌≡◌, refl, sym, ap, subst, ◌∙◌}
use Prim.Native.Nat.{ℕ, suc, ◌+◌, ◌-◌, ◌≤◌, ◌<◌}
use native.Mathlib.Omega.{arith}
use borrow.Author.Tests.{eq-eqb, ne_eqb, le-ltb, lt-ltb, leb-false, not-true, not-false}
use lib.Dec.{eqb, leb, ltb}
use lib.ListN.{length, get_or, drop}
use Rattle.bytes_le.specs.Bytes.{Bytes}
use Rattle.icepole.specs.declared.Variant.{Variant}
use Rattle.icepole.specs.declared.Variant.TheVariants.{Icepole128}
use Rattle.icepole.specs.Variants.{sizes}
use Rattle.blocks.specs.Lengths.{tag_length, max_length}
use Rattle.icepole.specs.Answers.{tag_agrees, fits_output, seal_number, open_number, seal_refusal, seal_answer, seal_output, open_refusal, open_answer, open_output}
use Rattle.strips.specs.declared.StripState.{StripState}
use Rattle.strips.specs.Answers.{start_number, strip_number, end_number, start_refusal, start_answer, start_output}
use Rattle.strips.specs.Answers.{strip_refusal, strip_answer, strip_output, end_refusal, end_answer, end_output}
use Rattle.icepole_c.specs.Calls.{info_length, fits_both, open_call_info}
use Rattle.icepole_c.specs.Strips.{strip_state_length, strip_state_in, start_call_refusal, start_call_output, start_call_state, strip_call_refusal}
use Rattle.icepole_c.specs.Strips.{strip_call_output, strip_call_state, end_call_refusal, end_call_output, end_call_state}
use Rattle.burst.specs.declared.Recorder.{Recorder}
use Rattle.burst.specs.Editions.{written}
use Rattle.burst.specs.Parts.{key_length, mark_length}
use Rattle.burst.specs.Layout.{Identity, max_picture}
use Rattle.bits.proofs.Cases.{le-or-lt, zero_or_not}
use Rattle.burst.proofs.Rules.{clash}
use Rattle.burst.specs.Numbers.{used_after, total_from, begin_number, keep_number, drop_number, close_number}
use Rattle.burst.specs.Recorder.{edition_of, is_sound, begin_refusal, begin_answer, begin_buffer, drop_refusal, drop_answer}
use Rattle.burst.specs.Recorder.{keep_refusal, keep_answer, keep_buffer, close_refusal, close_answer, close_buffer}
use Rattle.trace.specs.Plain.{Call, keep_shot, drop_shot, close_burst}
use Rattle.trace.specs.Trace.{next_recorder, next_buffer, answer_to}
use Rattle.reader.specs.Verdicts.{verdict_number}
use Rattle.reader.specs.Front.{kept_in, entry_at, position_of, front_rules}
use Rattle.reader.specs.Reader.{verdict, check_refusal, check_mark, check_answer, record_refusal, record_offset, record_bytes_in, fetch_refusal, fetch_answer, fetch_output}
use Rattle.reader.proofs.Marks.{SomeDiffers, seven, differing, agreeing, mark-closing, mark-record}
use Rattle.listing.specs.Listing.{listing, list_refusal, list_answer, list_output}
use Rattle.listing.proofs.Lines.{listing-length}
use Rattle.burst_c.specs.Calls.{check_info_length, fetch_info_length, check_call_refusal, check_call_info, fetch_call_refusal, fetch_call_output, fetch_call_info}
use Rattle.permutation.specs.State.{State}
use Rattle.rounds_back.proofs.Answers.{driven-above, driven-within}
use Rattle.rounds_back.specs.Driven.{Driven}
use Rattle.rounds_back.specs.declared.Direction.{Direction}
use Rattle.core_c.specs.Calls.{call_refusal, call_agrees, call_round}
use Rattle.core_c.proofs.Rounds.{refused-leaves}
use Rattle.sizing.specs.Sizing.{sized_edition, too_long, size_number, size_answer}
use Rattle.sizing.proofs.Numbers.{long-found, long-none}
use Rattle.round_log.specs.RoundLog.{Verdict, Agrees, Differs, Refused, verdict as log_verdict}
use Rattle.round_log.proofs.Verdicts.{Says, says}
use Rattle.claims.specs.RoundLogs.{LogOf}
use Rattle.claims.specs.Demand1.{Refusal, ◌on◌, FirstOf, SealNumber, Seal, order_of_open, order_of_verify, OpenNumber, NoRoomToOpen, Verify, Open, OpenCall}
use Rattle.claims.specs.Demand1.{OpenInPlace, OpenInPlaceCall, order_of_start, StartNumber, Start, order_of_strip, Strip, order_of_end, End, StartCall, StripCall, EndCall, Begin, Keep, Drop, Close}
use Rattle.claims.specs.Demand1.{InList, order_of_check, Check, order_at_place, Record, NoRoomToFetch, Fetch, CheckCall, FetchCall, Print, CheckLog, Drive, RunRounds, SizeUpCall, Demand1}
use Rattle.claims.proofs.Orders.{Tells, differs, equals, less, at_most, fails, holds, either, first, Row, row, by_tests, NoZero, behind, then-tests}

one_more : (n : ℕ) → suc n ≢ 0
one_more n e = omega arith

-- ---- sealing and opening
seal-number : SealNumber
unfolding seal_number
seal-number v k n s a m o =
    by_tests
    (row 1 (differs k (sizes v).key)
    ∷ row 2 (differs n (sizes v).nonce)
    ∷ row 3 (differs s (sizes v).secret)
    ∷ row 4 (either (less max_length a) (less max_length m))
    ∷ row 5 (less o ((sizes v).secret + (m + tag_length)))
    ∷ [])

module _ (v : Variant) (key nonce secret ad m out : Bytes) where
  seals : Seal v key nonce secret ad m out
  unfolding seal_answer seal_output seal_refusal
  seals = record {
    order = seal-number v (length key) (length nonce) (length secret) (length ad) (length m) (length out);
    refused = λ h. let z = ne_eqb _ 0 h in (simp z, simp z);
    returned = refl;
  }

-- the message that a sealed message implies is too long
implied : (c s : ℕ) → Tells (ltb max_length (c - s)) (max_length + s < c)
implied c s = let t = less max_length (c - s) in record { yes = λ h. let g = t.yes h in omega arith; no' = λ h g. t.no' h (omega arith) }

-- opening, as far as lengths decide
abbrev rows_by_lengths : Variant → (k n a c : ℕ) → List Row
rows_by_lengths v k n a c =
    row 1 (differs k (sizes v).key)
    ∷ row 2 (differs n (sizes v).nonce)
    ∷ row 4 (either (less max_length a) (implied c ((sizes v).secret + tag_length)))
    ∷ row 6 (less c ((sizes v).secret + tag_length))
    ∷ []

-- whatever says that there is no room, and that the tag differs
opening : (v : Variant) (k n a c : ℕ) (fits agrees : Bool) (no_room tag_differs : Type 0) → Tells (not fits) no_room → Tells (not agrees) tag_differs
    → FirstOf (open_number (sizes v) k n a c fits agrees) (order_of_open v k n a c no_room tag_differs)
unfolding open_number
opening v k n a c fits agrees no_room tag_differs r t = by_tests (rows_by_lengths v k n a c ++ (row 5 r ∷ row 7 t ∷ []))

-- where the answer always fits
opening-fits : (v : Variant) (k n a c : ℕ) (agrees : Bool) → FirstOf (open_number (sizes v) k n a c true agrees) (order_of_verify v k n a c (agrees ≡ false))
unfolding open_number
opening-fits v k n a c agrees = by_tests (rows_by_lengths v k n a c ++ (row 7 (fails agrees) ∷ []))

never : Tells (not true) ⊥
never = record { yes = λ h. clash true refl (sym h); no' = λ _ x. x }

-- an output without room
narrow : (v : Variant) (c out : Bytes) → Tells (not (fits_output v c out)) (NoRoomToOpen v c out)
narrow v c out =
    let t = at_most (length c - ((sizes v).secret + tag_length)) (length out) in
    record {
      yes = λ h. leb-false (length c - ((sizes v).secret + tag_length)) (length out) (not-true _ h);
      no' = λ h g. let l = t.yes (not-false _ h) in omega arith;
    }

-- one of two tests fails
one-fails : (a b : Bool) (c d : Type 0) → Tells (not a) c → Tells (not b) d → Tells (not (a && b)) (c ⊎ d)
one-fails true b c d s t = record { yes = λ h. inr (t.yes h); no' = λ h. elim [ inl x ↦ s.no' refl x | inr y ↦ t.no' h y ] }
one-fails false b c d s t = record { yes = λ _. inl (s.yes refl); no' = λ h _. clash true refl h }

-- a further slice without room
short : (v : Variant) (info : Bytes) → Tells (not (leb (info_length v) (length info))) (length info < info_length v)
short v info =
    let t = at_most (info_length v) (length info) in
    record { yes = λ h. leb-false _ _ (not-true _ h); no' = λ h g. let l = t.yes (not-false _ h) in omega arith }

open-number : OpenNumber
open-number v k n a c fits = opening v k n a c fits true (fits ≡ false) ⊥ (fails fits) never

module _ (v : Variant) (key nonce ad c : Bytes) where
  abbrev tag : Bool
  tag = tag_agrees (sizes v) key nonce ad c

  verifies : Verify v key nonce ad c
  unfolding open_answer open_refusal
  verifies = record {
    order = opening-fits v (length key) (length nonce) (length ad) (length c) tag;
    refused = λ h. let z = ne_eqb _ 0 h in simp z;
  }

  pub opens-in-place : OpenInPlace v key nonce ad c
  unfolding open_answer open_output open_refusal
  opens-in-place = record {
    order = opening-fits v (length key) (length nonce) (length ad) (length c) tag;
    refused = λ h. let z = ne_eqb _ 0 h in (simp z, simp z);
  }

  -- the output is the sealed message itself: it has room
  module _ (info : Bytes) where
    short-alone : Tells (not (fits_both v key nonce ad c c info)) (length info < info_length v)
    short-alone =
        let t = one-fails (leb (info_length v) (length info)) (fits_output v c c) (length info < info_length v) (NoRoomToOpen v c c) (short v info) (narrow v c c) in
        record { yes = λ h. ⊎_elim (λ (x : length info < info_length v). x) (λ (x : NoRoomToOpen v c c). absurd (omega arith)) (t.yes h); no' = λ h x. t.no' h (inl x) }

    pub opens-in-place-in-c : OpenInPlaceCall v key nonce ad c info
    unfolding open_answer open_output open_refusal open_call_info
    opens-in-place-in-c = record {
      order = opening v (length key) (length nonce) (length ad) (length c) (fits_both v key nonce ad c c info) tag _ (tag ≡ false) short-alone (fails tag);
      refused = λ h. let z = ne_eqb _ 0 h in (simp z, simp z);
    }

  module _ (out : Bytes) where
    opens : Open v key nonce ad c out
    unfolding open_answer open_output open_refusal
    opens = record {
      order = opening v (length key) (length nonce) (length ad) (length c) (fits_output v c out) tag (NoRoomToOpen v c out) (tag ≡ false) (narrow v c out) (fails tag);
      refused = λ h. let z = ne_eqb _ 0 h in (simp z, simp z);
    }

    module _ (info : Bytes) where
      opens-in-c : OpenCall v key nonce ad c out info
      unfolding open_answer open_output open_refusal open_call_info
      opens-in-c = record {
        order =
            opening v (length key) (length nonce) (length ad) (length c) (fits_both v key nonce ad c out info) tag _ (tag ≡ false)
            (one-fails (leb (info_length v) (length info)) (fits_output v c out) (length info < info_length v) (NoRoomToOpen v c out) (short v info) (narrow v c out))
            (fails tag);
        refused = λ h. let z = ne_eqb _ 0 h in (simp z, simp z);
      }

-- ---- strips
-- a start is turned down as sealing no message is, and no room for the tag is needed
no-message : (a : ℕ) → Tells (ltb max_length a || ltb max_length 0) (max_length < a)
no-message a =
    let t = either (less max_length a) (less max_length 0) in
    record {
      yes = λ h. ⊎_elim (λ (l : max_length < a). l) (λ (l : max_length < 0). absurd (omega arith)) (t.yes h);
      no' = λ h l. t.no' h (inl l);
    }

beside-tag : (o : ℕ) → Tells (ltb (o + 16) (16 + (0 + 16))) (o < 16)
beside-tag o = let t = less (o + 16) (16 + (0 + 16)) in record { yes = λ h. let l = t.yes h in omega arith; no' = λ h l. t.no' h (omega arith) }

start-number : StartNumber
unfolding start_number seal_number
start-number k n s a o =
    by_tests
    (row 1 (differs k (sizes Icepole128).key)
    ∷ row 2 (differs n (sizes Icepole128).nonce)
    ∷ row 3 (differs s (sizes Icepole128).secret)
    ∷ row 4 (no-message a)
    ∷ row 5 (beside-tag o)
    ∷ [])

module _ (key nonce secret ad out : Bytes) where
  start-order : FirstOf (start_refusal key nonce secret ad out) (order_of_start (length key) (length nonce) (length secret) (length ad) (length out))
  unfolding start_refusal
  start-order = start-number (length key) (length nonce) (length secret) (length ad) (length out)

  starts : Start key nonce secret ad out
  unfolding start_answer start_output
  starts = record { order = start-order; refused = λ h. let z = ne_eqb _ 0 h in (simp z, simp z) }

module _ (s : StripState) (m out : Bytes) where
  strip-order : FirstOf (strip_refusal s m out) (order_of_strip s m out)
  unfolding strip_refusal strip_number
  strip-order =
      by_tests (row 14 (either (holds s.finished) (less max_length s.count)) ∷ row 4 (less max_length (s.count + length m)) ∷ row 5 (less (length out) (length m)) ∷ [])

  strips : Strip s m out
  unfolding strip_answer strip_output
  strips = record { order = strip-order; refused = λ h. let z = ne_eqb _ 0 h in (simp z, simp z) }

module _ (s : StripState) (out : Bytes) where
  end-order : FirstOf (end_refusal s out) (order_of_end s out)
  unfolding end_refusal end_number
  end-order =
      by_tests (row 14 (either (holds s.finished) (less max_length s.count)) ∷ row 5 (less (length out) tag_length) ∷ [])

  ends : End s out
  unfolding end_answer end_output
  ends = record { order = end-order; refused = λ h. let z = ne_eqb _ 0 h in (simp z, simp z) }

module _ (key nonce secret ad out state : Bytes) where
  abbrev own : ℕ
  own = start_refusal key nonce secret ad out

  -- with room for the state the number is start's own
  own-number : strip_state_length ≤ length state → own ≡ 0 → start_call_refusal key nonce secret ad out state ≡ 0
  unfolding start_call_refusal
  own-number h e = simp (e, le-ltb (length state) strip_state_length h)

  starts-in-c : StartCall key nonce secret ad out state
  unfolding start_call_refusal start_call_output start_call_state start_answer
  starts-in-c = record {
    order =
        then-tests (order_of_start (length key) (length nonce) (length secret) (length ad) (length out)) own (one_more 0, (one_more 1, (one_more 2, (one_more 3, (one_more 4, tt)))))
        (start-order key nonce secret ad out) (row 5 (less (length state) strip_state_length) ∷ []);
    refused = λ h. let z = ne_eqb _ 0 h in simp z;
    finished = λ h g. simp (le-ltb (length state) strip_state_length g, ne_eqb own 0 (λ e. h (own-number g e)));
    short = λ h. simp (lt-ltb (length state) strip_state_length h);
  }

module _ (state m out : Bytes) where
  strips-in-c : StripCall state m out
  unfolding strip_call_refusal strip_call_output strip_call_state
  strips-in-c = record {
    order = first _ 5 _ _ (order_of_strip (strip_state_in state) m out) (less (length state) strip_state_length) (strip-order (strip_state_in state) m out);
    refused = λ h. let z = ne_eqb _ 0 h in (simp z, simp z);
  }

module _ (state out : Bytes) where
  ends-in-c : EndCall state out
  unfolding end_call_refusal end_call_output end_call_state
  ends-in-c = record {
    order = first _ 5 _ _ (order_of_end (strip_state_in state) out) (less (length state) strip_state_length) (end-order (strip_state_in state) out);
    refused = λ h. let z = ne_eqb _ 0 h in (simp z, simp z);
  }

-- ---- the recorder
module _ (key : Bytes) (i : Identity) (buffer : Bytes) where
  begins : Begin key i buffer
  unfolding begin_answer begin_buffer begin_refusal begin_number written
  begins = record {
    order =
        by_tests
        (row 1 (differs (length key) key_length)
        ∷ row 3 (differs (length i.site_mark) mark_length)
        ∷ row 15 (equals i.name.camera 0)
        ∷ row 11 (less (length buffer) (total_from (written (length key)).header 0))
        ∷ []);
    refused = λ h. let z = ne_eqb _ 0 h in (simp z, simp z);
  }

module _ (r : Recorder) (stamp picture buffer : Bytes) where
  keeps : Keep r stamp picture buffer
  unfolding keep_answer keep_buffer keep_refusal keep_number
  keeps = record {
    order =
        by_tests
        (row 8 (fails (is_sound (edition_of r) r))
        ∷ row 3 (differs (length stamp) mark_length)
        ∷ row 9 (at_most (edition_of r).shots r.taken.0)
        ∷ row 10 (either (less (length picture) 1) (less max_picture (length picture)))
        ∷ row 11 (less (length buffer) (total_from (used_after r.used (length picture)) (r.kept.0 + 1)))
        ∷ []);
    refused = λ h. let z = ne_eqb _ 0 h in (simp z, simp z);
  }

module _ (r : Recorder) where
  drops : Drop r
  unfolding drop_answer drop_refusal drop_number
  drops = record {
    order = by_tests (row 8 (fails (is_sound (edition_of r) r)) ∷ row 9 (at_most (edition_of r).shots r.taken.0) ∷ []);
    refused = λ h. let z = ne_eqb _ 0 h in simp z;
  }

module _ (r : Recorder) (buffer : Bytes) where
  closes : Close r buffer
  unfolding close_answer close_buffer close_refusal close_number
  closes = record {
    order = by_tests (row 8 (fails (is_sound (edition_of r) r)) ∷ row 11 (less (length buffer) (total_from r.used r.kept.0)) ∷ []);
    refused = λ h. let z = ne_eqb _ 0 h in (simp z, simp z);
  }

in-lists : (r : Recorder) (buffer : Bytes) (c : Call) → InList r buffer c
unfolding answer_to next_recorder next_buffer keep_answer keep_buffer drop_answer close_answer close_buffer
in-lists r buffer (keep_shot s p) = record { refused = λ h. let z = ne_eqb _ 0 h in (simp z, simp z, simp z) }
in-lists r buffer (drop_shot way) = record { refused = λ h. let z = ne_eqb _ 0 h in (simp z, simp z, refl) }
in-lists r buffer close_burst = record { refused = λ h. let z = ne_eqb _ 0 h in (simp z, simp z, simp z) }

-- ---- the reader
-- a number that is 0, or else k where the condition holds
by_number : (n k : ℕ) (c : Type 0) → (n ≢ 0 → c × (n ≡ k)) → (n ≡ 0 → c → ⊥) → FirstOf (cond (not (eqb n 0)) n 0) ((k on c) ∷ [])
by_number n k c f g =
    zero_or_not n _
    (λ e. inr (g e, ap (λ (b : Bool). cond (not b) n 0) (eq-eqb n 0 e)))
    (λ e. inl ((f e).0, ap (λ (b : Bool). cond (not b) n 0) (ne_eqb n 0 e) ∙ (f e).1))

module _ (key f : Bytes) where
  abbrev told : ℕ
  told = verdict_number (verdict key f)

  check-order : FirstOf (check_refusal key f) (order_of_check key f)
  unfolding check_refusal
  check-order =
      first _ 1 _ _ (drop 1 (order_of_check key f)) (differs (length key) key_length)
      (first _ 12 _ _ (drop 2 (order_of_check key f)) (fails (front_rules f))
      (by_number told 7 (SomeDiffers key f) (λ h. (differing key f h, seven (verdict key f) h)) (agreeing key f)))

  check-some : NoZero (order_of_check key f)
  check-some = (one_more 0, (one_more 11, (one_more 6, tt)))

  mark-0 : check_refusal key f ≢ 7 → check_mark key f ≡ 0
  unfolding check_mark
  mark-0 h = simp (ne_eqb (check_refusal key f) 7 h)

  checks : Check key f
  unfolding check_answer check_mark
  checks = record {
    order = check-order;
    refused = λ h. let z = ne_eqb _ 0 h in simp z;
    mark_closing = λ h d. simp h (mark-closing key f d);
    mark_record = λ h a place l d g. simp h (mark-record key f a place l d g);
    unmarked = λ h. simp (ne_eqb (check_refusal key f) 7 h);
    mark_left = refl;
  }

  -- a number behind check's: where it is not 7, neither is check's
  behind-check : (n : ℕ) → cond (not (eqb (check_refusal key f) 0)) (check_refusal key f) n ≢ 7 → check_mark key f ≡ 0
  behind-check n h = mark-0 (λ e. h (ap (λ (m : ℕ). cond (not (eqb m 0)) m n) e))

module _ (key f : Bytes) (place : ℕ) where
  place-order : FirstOf (record_refusal key f place) (order_at_place key f place)
  unfolding record_refusal
  place-order =
      then-tests (order_of_check key f) (check_refusal key f) (check-some key f) (check-order key f) (row 13 (at_most (kept_in f) place) ∷ [])

  place-some : NoZero (order_at_place key f place)
  place-some = (one_more 0, (one_more 11, (one_more 6, (one_more 12, tt))))

  place-mark : record_refusal key f place ≢ 7 → check_mark key f ≡ 0
  unfolding record_refusal
  place-mark h = behind-check key f _ h

  -- a number behind record's: where it is not 7, neither is check's
  behind-place : (n : ℕ) → cond (not (eqb (record_refusal key f place) 0)) (record_refusal key f place) n ≢ 7 → check_mark key f ≡ 0
  behind-place n h = place-mark (λ e. h (ap (λ (m : ℕ). cond (not (eqb m 0)) m n) e))

  records : Record key f place
  unfolding record_bytes_in record_offset
  records = record { order = place-order; refused = λ h. let z = ne_eqb _ 0 h in (simp z, simp z); unmarked = place-mark }

module _ (key f : Bytes) (place : ℕ) (out : Bytes) where
  fetches : Fetch key f place out
  unfolding fetch_answer fetch_output fetch_refusal check_answer
  fetches = record {
    order =
        then-tests (order_at_place key f place) (record_refusal key f place) (place-some key f place) (place-order key f place)
        (row 5 (less (length out) (entry_at f (position_of f place)).length) ∷ []);
    refused = λ h. let z = ne_eqb _ 0 h in (simp z, simp z);
    unmarked = behind-place key f place _;
  }

  -- at a place that there is, the output alone decides
  output-decides : record_refusal key f place ≡ 0 → (fetch_answer key f place out).refusal ≡ cond (ltb (length out) (entry_at f (position_of f place)).length) 5 0
  unfolding fetch_answer fetch_refusal
  output-decides h = simp h

module _ (key f info : Bytes) where
  checks-in-c : CheckCall key f info
  unfolding check_call_refusal check_call_info check_answer
  checks-in-c = record {
    order =
        then-tests (order_of_check key f) (check_refusal key f) (check-some key f) (check-order key f)
        (row 5 (less (length info) check_info_length) ∷ []);
    refused = λ h. let z = ne_eqb _ 0 h in simp z;
    unmarked = behind-check key f _;
  }

-- 5 for the info and 5 for the output are one
one-five : (a b : Bool) → ◌≡◌ {A = ℕ} (cond a 5 (cond (not (eqb (cond b 5 0) 0)) (cond b 5 0) 0)) (cond (a || b) 5 0)
one-five true b = refl
one-five false true = refl
one-five false false = refl

module _ (key f : Bytes) (place : ℕ) (out info : Bytes) where
  abbrev info_short : Bool
  info_short = ltb (length info) fetch_info_length

  abbrev out_short : Bool
  out_short = ltb (length out) (entry_at f (position_of f place)).length

  fives : record_refusal key f place ≡ 0
      → cond info_short 5 (cond (not (eqb (fetch_answer key f place out).refusal 0)) (fetch_answer key f place out).refusal 0) ≡ cond (info_short || out_short) 5 0
  fives h = ap (λ (n : ℕ). cond info_short 5 (cond (not (eqb n 0)) n 0)) (output-decides key f place out h) ∙ one-five info_short out_short

  abbrev five_order : List Refusal
  five_order = (5 on ((length info < fetch_info_length) ⊎ NoRoomToFetch key f place out)) ∷ []

  fetches-in-c : FetchCall key f place out info
  unfolding fetch_call_refusal fetch_call_output fetch_call_info
  fetches-in-c = record {
    order =
        behind (order_at_place key f place) five_order (record_refusal key f place) _ (place-some key f place) (place-order key f place)
        (λ h. subst (λ (n : ℕ). FirstOf n five_order) (sym (fives h))
        (by_tests (row 5 (either (less (length info) fetch_info_length) (less (length out) (entry_at f (position_of f place)).length)) ∷ [])));
    refused = λ h. let z = ne_eqb _ 0 h in (simp z, simp z);
    unmarked = behind-place key f place _;
  }

-- ---- the lister
prints : (f out : Bytes) → Print f out
unfolding list_answer list_output list_refusal
prints f out = record {
  order = by_tests (row 5 (less (length out) (length (listing f))) ∷ []);
  refused = λ h. let z = ne_eqb _ 0 h in (simp z, simp z);
  room = λ h. simp (le-ltb (length out) (length (listing f)) (let g = listing-length f in omega arith));
  returned = refl;
}

-- ---- round logs
module _ (log : Bytes) where
  abbrev NotALog : Type 0
  NotALog = (r : ℕ) → LogOf r log → ⊥

  log-order : (v : Verdict) → Says log v → FirstOf (call_refusal v) ((19 on NotALog) ∷ [])
  log-order (Agrees r) h = inr (λ none. none r h.0, refl)
  log-order (Differs n) h = inr (λ none. none h.2.0 h.2.2, refl)
  log-order (Refused k) h = inl (h.1, h.0)

  log-refused : (v : Verdict) → call_refusal v ≢ 0 → (call_agrees v ≡ 0) × (call_round v ≡ 0)
  log-refused (Agrees r) h = absurd (h refl)
  log-refused (Differs n) h = absurd (h refl)
  log-refused (Refused k) h = (refl, refl)

  judges : CheckLog log
  judges = record { order = log-order (log_verdict log) (says log); refused = log-refused (log_verdict log) }

-- ---- rounds
drives : (d : Direction) (s : State) (r : ℕ) → Drive d s r
drives d s r =
    ⊎_elim
    (λ h. let e = ap (λ (a : Driven). a.refusal) (driven-within d s r h) in record { order = inr (λ l. absurd (omega arith), e); refused = λ n. absurd (n e) })
    (λ h. let e = driven-above d s r h in record { order = inl (h, ap (λ (a : Driven). a.refusal) e); refused = λ n. ap (λ (a : Driven). a.state) e })
    (le-or-lt r 12)

runs-rounds-in-c : (d : Direction) (r : ℕ) (b : Bytes) → RunRounds d r b
runs-rounds-in-c d r b =
    record {
      order = by_tests (row 20 (less 12 r) ∷ row 5 (less (length b) 160) ∷ []);
      refused = λ h. sym (refused-leaves d r b _ refl h);
    }

-- ---- sizing up
long : (ns : List ℕ) → Tells (too_long ns) ((i : ℕ) × (i < length ns) × (1048576 < get_or ns i 0))
long ns = record { yes = long-found ns; no' = λ h f. let g = long-none ns h f.0 f.1 in let l = f.2 in omega arith }

sizes-up : (lengths : List ℕ) → SizeUpCall lengths
unfolding size_answer size_number written
sizes-up lengths =
    record {
      order = by_tests (row 9 (less 60 (length lengths)) ∷ row 10 (long lengths) ∷ []);
      refused = λ h. simp (ne_eqb (size_number sized_edition lengths) 0 h);
    }

pub demand1 : Demand1
demand1 = record {
  seal-number = seal-number;
  seals = seals;
  open-number = open-number;
  verifies = verifies;
  opens = opens;
  opens_in_c = opens-in-c;
  opens_in_place = opens-in-place;
  opens_in_place_in_c = opens-in-place-in-c;
  start-number = start-number;
  starts = starts;
  strips = strips;
  ends = ends;
  starts_in_c = starts-in-c;
  strips_in_c = strips-in-c;
  ends_in_c = ends-in-c;
  begins = begins;
  keeps = keeps;
  drops = drops;
  closes = closes;
  in_lists = in-lists;
  checks = checks;
  records = records;
  fetches = fetches;
  checks_in_c = checks-in-c;
  fetches_in_c = fetches-in-c;
  prints = prints;
  judges = judges;
  drives = drives;
  runs_rounds_in_c = runs-rounds-in-c;
  sizes_up = sizes-up;
}
