-- Demand 1. "Every public call ends on every input. A bad one returns the refusal number that the documents fix and leaves the recorder and every lent
-- buffer with the bytes they had. Public calls have no `requires`." The prover shows of every call that it ends, and its source that it has no
-- `requires`; the rest is here, over what the contracts say that the calls answer and leave (ad is the joining of the two parts of associated data).
-- For each call:
--   order     its number is that of the first condition in its order to hold, and 0 where none does (01, "Turned down, by example")
--   refused   under every other number recorder, strip state and lent buffers are as they were, and the other fields are zero; the mark is 0 except under 7
-- Two calls were given no recorder and no state, and 01 says what they return: a begin turned down a closed recorder, a start turned down a finished
-- strip state, both otherwise zero. In C start returns its state in a lent slice, which is the one lent buffer that is written under a refusal.
-- Numbers lent by pointer are answers.
-- Assumes nothing.
use Rattle.std.specs.Prelude.{Bool, true, false, List, [], ◌∷◌, ◌++◌, ◌⊎◌, ◌≢◌, ◌≡◌, ℕ, ◌+◌, ◌-◌, ◌≤◌, ◌<◌, length, get_or, replicate}
use Rattle.bytes_le.specs.Bytes.{Bytes, put_bytes}
use Rattle.icepole.specs.declared.Variant.{Variant}
use Rattle.icepole.specs.declared.Variant.TheVariants.{Icepole128}
use Rattle.icepole.specs.Answers.{Sealed}
use Rattle.icepole.specs.Answers.{Opened}
use Rattle.icepole.specs.Variants.{sizes}
use Rattle.blocks.specs.Lengths.{tag_length, max_secret, max_length}
use Rattle.icepole.specs.Answers.{tag_agrees, seal_number, seal_refusal, seal_answer, seal_output, open_number, fits_output, open_answer, open_output}
use Rattle.strips.specs.declared.StripState.{StripState}
use Rattle.strips.specs.Answers.{StripAnswer}
use Rattle.strips.specs.Answers.{start_number, not_started, start_answer, start_output, strip_answer, strip_output, end_answer, end_output}
use Rattle.icepole_c.specs.Calls.{info_length, open_call_refusal, open_call_output, open_call_info}
use Rattle.icepole_c.specs.Strips.{strip_state_length, strip_state_bytes, strip_state_in, start_call_refusal, start_call_output, start_call_state}
use Rattle.icepole_c.specs.Strips.{strip_call_refusal, strip_call_output, strip_call_state, end_call_refusal, end_call_output, end_call_state}
use Rattle.burst.specs.declared.Recorder.{Recorder}
use Rattle.burst.specs.Editions.{written}
use Rattle.burst.specs.Parts.{key_length, mark_length}
use Rattle.burst.specs.Layout.{Identity, max_picture}
use Rattle.burst.specs.Numbers.{used_after, total_from}
use Rattle.burst.specs.Recorder.{edition_of, is_sound, no_recorder, begin_answer, begin_buffer, drop_answer, keep_answer, keep_buffer, close_answer, close_buffer}
use Rattle.trace.specs.Plain.{Call}
use Rattle.trace.specs.Trace.{next_recorder, next_buffer, answer_to}
use Rattle.reader.specs.Front.{kept_in, entry_at, position_of, front_rules}
use Rattle.reader.specs.Reader.{closing_part, record_part, agrees, not_checked, not_fetched, check_mark, check_answer}
use Rattle.reader.specs.Reader.{record_refusal, record_offset, record_bytes_in, fetch_answer, fetch_output}
use Rattle.listing.specs.Listing.{Listed}
use Rattle.listing.specs.Listing.{listing, text_room, list_refusal, list_answer, list_output}
use Rattle.burst_c.specs.Calls.{check_info_length, fetch_info_length, check_call_refusal, check_call_info, fetch_call_refusal, fetch_call_output, fetch_call_info}
use Rattle.sizing.specs.Sizing.{Size}
use Rattle.sizing.specs.Sizing.{size_answer}
use Rattle.round_log.specs.RoundLog.{verdict}
use Rattle.permutation.specs.State.{State}
use Rattle.rounds_back.specs.Driven.{driven}
use Rattle.rounds_back.specs.declared.Direction.{Direction}
use Rattle.core_c.specs.Calls.{call_refusal, call_agrees, call_round, rounds_refusal, after_rounds}
use Rattle.claims.specs.RoundLogs.{LogOf}
use Rattle.claims.specs.InPlace.{in_place_answer, in_place_buffer}

-- ---- orders
-- a number, and the condition on which it is given
pub record Refusal : Type 1 where
  pub number : ℕ
  pub condition : Type 0

infix 20 ◌on◌
abbrev pub ◌on◌ : ℕ → Type 0 → Refusal
n on c = record { number = n; condition = c }

-- n is the number of the first condition to hold, read top down, and 0 where none does
abbrev pub FirstOf : ℕ → List Refusal → Type 0
FirstOf n [] = n ≡ 0
FirstOf n (r ∷ rs) = (r.condition × (n ≡ r.number)) ⊎ ((r.condition → ⊥) × FirstOf n rs)

-- ---- sealing: 1, 2, 3, 4, 5. By the lengths of key, nonce, secret number, associated data, message and output
abbrev pub order_of_seal : Variant → (k n s a m o : ℕ) → List Refusal
order_of_seal v k n s a m o =
    (1 on (k ≢ (sizes v).key))
    ∷ (2 on (n ≢ (sizes v).nonce))
    ∷ (3 on (s ≢ (sizes v).secret))
    ∷ (4 on ((max_length < a) ⊎ (max_length < m)))
    ∷ (5 on (o < (sizes v).secret + (m + tag_length)))
    ∷ []

-- what `seal_number` answers
abbrev pub SealNumber : Type 0
SealNumber = (v : Variant) (k n s a m o : ℕ) → FirstOf (seal_number (sizes v) k n s a m o) (order_of_seal v k n s a m o)

module _ (v : Variant) (key nonce secret ad m out : Bytes) where
  abbrev sealing : Sealed
  sealing = seal_answer v key nonce secret ad m out

  pub record Seal : Type 0 where
    pub order : FirstOf sealing.refusal (order_of_seal v (length key) (length nonce) (length secret) (length ad) (length m) (length out))
    pub refused : sealing.refusal ≢ 0
        → (sealing ≡ record { refusal = sealing.refusal; mark = 0; count = 0 }) × (seal_output v key nonce secret ad m out ≡ out)
    -- what the C call returns
    pub returned : seal_refusal v key nonce secret ad m out ≡ sealing.refusal

-- ---- opening: 1, 2, 4, 6, 5, 7. By the lengths of key, nonce, associated data and sealed message: 1, 2, 4, 6
abbrev pub order_by_lengths : Variant → (k n a c : ℕ) → List Refusal
order_by_lengths v k n a c =
    (1 on (k ≢ (sizes v).key))
    ∷ (2 on (n ≢ (sizes v).nonce))
    ∷ (4 on ((max_length < a) ⊎ (max_length + ((sizes v).secret + tag_length) < c)))
    ∷ (6 on (c < (sizes v).secret + tag_length))
    ∷ []

-- then 5, where what is lent has no room, and 7, where the tag differs
abbrev pub order_of_open : Variant → (k n a c : ℕ) (no_room differs : Type 0) → List Refusal
order_of_open v k n a c no_room differs = order_by_lengths v k n a c ++ ((5 on no_room) ∷ (7 on differs) ∷ [])

-- where nothing is lent that could be too short, in verifying and in opening in place: 1, 2, 4, 6, 7
abbrev pub order_of_verify : Variant → (k n a c : ℕ) (differs : Type 0) → List Refusal
order_of_verify v k n a c differs = order_by_lengths v k n a c ++ ((7 on differs) ∷ [])

-- what `open_number` answers, which is told whether there is room and knows no tag
abbrev pub OpenNumber : Type 0
OpenNumber = (v : Variant) (k n a c : ℕ) (fits : Bool) → FirstOf (open_number (sizes v) k n a c fits true) (order_of_open v k n a c (fits ≡ false) ⊥)

-- the output has no room for the message that c implies
abbrev pub NoRoomToOpen : Variant → Bytes → Bytes → Type 0
NoRoomToOpen v c out = length out < length c - ((sizes v).secret + tag_length)

module _ (v : Variant) (key nonce ad c : Bytes) where
  abbrev TagDiffers : Type 0
  TagDiffers = tag_agrees (sizes v) key nonce ad c ≡ false

  -- verifying, which writes nothing
  abbrev verifying : Opened
  verifying = open_answer v key nonce ad c true

  pub record Verify : Type 0 where
    pub order : FirstOf verifying.refusal (order_of_verify v (length key) (length nonce) (length ad) (length c) TagDiffers)
    pub refused : verifying.refusal ≢ 0 → verifying ≡ record { refusal = verifying.refusal; mark = 0; length = 0; secret = replicate max_secret 0 }

  -- opening in place, of the buffer c
  pub record OpenInPlace : Type 0 where
    pub order : FirstOf (in_place_answer v key nonce ad c).refusal (order_of_verify v (length key) (length nonce) (length ad) (length c) TagDiffers)
    pub refused : (in_place_answer v key nonce ad c).refusal ≢ 0
        → (in_place_answer v key nonce ad c ≡ record { refusal = (in_place_answer v key nonce ad c).refusal; mark = 0; length = 0; secret = replicate max_secret 0 })
        × (in_place_buffer v key nonce ad c ≡ c)

  -- in C, with 5 for the info alone
  module _ (info : Bytes) where
    abbrev opening_in_place_c : ℕ
    opening_in_place_c = open_call_refusal v key nonce ad c c info

    pub record OpenInPlaceCall : Type 0 where
      pub order : FirstOf opening_in_place_c (order_of_open v (length key) (length nonce) (length ad) (length c) (length info < info_length v) TagDiffers)
      pub refused : opening_in_place_c ≢ 0 → (open_call_output v key nonce ad c c info ≡ c) × (open_call_info v key nonce ad c c info ≡ info)

  module _ (out : Bytes) where
    abbrev opening : Opened
    opening = open_answer v key nonce ad c (fits_output v c out)

    pub record Open : Type 0 where
      pub order : FirstOf opening.refusal (order_of_open v (length key) (length nonce) (length ad) (length c) (NoRoomToOpen v c out) TagDiffers)
      pub refused : opening.refusal ≢ 0
          → (opening ≡ record { refusal = opening.refusal; mark = 0; length = 0; secret = replicate max_secret 0 })
          × (open_output v key nonce ad c (fits_output v c out) out ≡ out)

    -- in C, with 5 for the info too
    module _ (info : Bytes) where
      abbrev opening_c : ℕ
      opening_c = open_call_refusal v key nonce ad c out info

      pub record OpenCall : Type 0 where
        pub order :
            FirstOf opening_c (order_of_open v (length key) (length nonce) (length ad) (length c) ((length info < info_length v) ⊎ NoRoomToOpen v c out) TagDiffers)
        pub refused : opening_c ≢ 0 → (open_call_output v key nonce ad c out info ≡ out) × (open_call_info v key nonce ad c out info ≡ info)

-- ---- strips. Start: 1, 2, 3, 4, 5. By the lengths of key, nonce, secret number, associated data and output
abbrev pub order_of_start : (k n s a o : ℕ) → List Refusal
order_of_start k n s a o =
    (1 on (k ≢ (sizes Icepole128).key))
    ∷ (2 on (n ≢ (sizes Icepole128).nonce))
    ∷ (3 on (s ≢ (sizes Icepole128).secret))
    ∷ (4 on (max_length < a))
    ∷ (5 on (o < (sizes Icepole128).secret))
    ∷ []

-- what `start_number` answers
abbrev pub StartNumber : Type 0
StartNumber = (k n s a o : ℕ) → FirstOf (start_number (sizes Icepole128) k n s a o) (order_of_start k n s a o)

module _ (key nonce secret ad out : Bytes) where
  abbrev starting : StripAnswer
  starting = start_answer key nonce secret ad out

  abbrev started_order : List Refusal
  started_order = order_of_start (length key) (length nonce) (length secret) (length ad) (length out)

  pub record Start : Type 0 where
    pub order : FirstOf starting.refusal started_order
    pub refused : starting.refusal ≢ 0
        → (starting ≡ record { refusal = starting.refusal; mark = 0; count = 0; state = not_started }) × (start_output key nonce secret ad out ≡ out)

-- strip: 14, 4 (the sum), 5
module _ (s : StripState) (m out : Bytes) where
  abbrev stripping : StripAnswer
  stripping = strip_answer s m out

  abbrev pub order_of_strip : List Refusal
  order_of_strip =
      (14 on ((s.finished ≡ true) ⊎ (max_length < s.count)))
      ∷ (4 on (max_length < s.count + length m))
      ∷ (5 on (length out < length m))
      ∷ []

  pub record Strip : Type 0 where
    pub order : FirstOf stripping.refusal order_of_strip
    pub refused : stripping.refusal ≢ 0
        → (stripping ≡ record { refusal = stripping.refusal; mark = 0; count = 0; state = s }) × (strip_output s m out ≡ out)

-- end: 14, 5
module _ (s : StripState) (out : Bytes) where
  abbrev ending : StripAnswer
  ending = end_answer s out

  abbrev pub order_of_end : List Refusal
  order_of_end =
      (14 on ((s.finished ≡ true) ⊎ (max_length < s.count)))
      ∷ (5 on (length out < tag_length))
      ∷ []

  pub record End : Type 0 where
    pub order : FirstOf ending.refusal order_of_end
    pub refused : ending.refusal ≢ 0
        → (ending ≡ record { refusal = ending.refusal; mark = 0; count = 0; state = s }) × (end_output s out ≡ out)

-- in C the state is lent as bytes, and 5 holds for too few of them: last in start, first where a state is to be read
abbrev pub NoState : Bytes → Type 0
NoState state = length state < strip_state_length

module _ (key nonce secret ad out state : Bytes) where
  abbrev starting_c : ℕ
  starting_c = start_call_refusal key nonce secret ad out state

  pub record StartCall : Type 0 where
    pub order : FirstOf starting_c (order_of_start (length key) (length nonce) (length secret) (length ad) (length out) ++ ((5 on NoState state) ∷ []))
    pub refused : starting_c ≢ 0 → start_call_output key nonce secret ad out state ≡ out
    -- where the slice has room for a state, a start turned down leaves in it what it returns
    pub finished : starting_c ≢ 0 → strip_state_length ≤ length state
        → start_call_state key nonce secret ad out state ≡ put_bytes state 0 (strip_state_bytes not_started)
    pub short : NoState state → start_call_state key nonce secret ad out state ≡ state

module _ (state m out : Bytes) where
  pub record StripCall : Type 0 where
    pub order : FirstOf (strip_call_refusal state m out) ((5 on NoState state) ∷ order_of_strip (strip_state_in state) m out)
    pub refused : strip_call_refusal state m out ≢ 0 → (strip_call_state state m out ≡ state) × (strip_call_output state m out ≡ out)

module _ (state out : Bytes) where
  pub record EndCall : Type 0 where
    pub order : FirstOf (end_call_refusal state out) ((5 on NoState state) ∷ order_of_end (strip_state_in state) out)
    pub refused : end_call_refusal state out ≢ 0 → (end_call_state state out ≡ state) × (end_call_output state out ≡ out)

-- ---- the recorder. Begin: 1, 3, 15 (02, N1), 11
module _ (key : Bytes) (i : Identity) (buffer : Bytes) where
  abbrev beginning : ℕ
  beginning = (begin_answer key i buffer).refusal

  pub record Begin : Type 0 where
    pub order :
        FirstOf beginning
        ((1 on (length key ≢ key_length))
        ∷ (3 on (length i.site_mark ≢ mark_length))
        ∷ (15 on (i.name.camera ≡ 0))
        ∷ (11 on (length buffer < total_from (written (length key)).header 0))
        ∷ [])
    pub refused : beginning ≢ 0
        → (begin_answer key i buffer ≡ record { refusal = beginning; mark = 0; recorder = no_recorder }) × (begin_buffer key i buffer ≡ buffer)

-- keep: 8, 3, 9, 10, 11
module _ (r : Recorder) (stamp picture buffer : Bytes) where
  abbrev keeping : ℕ
  keeping = (keep_answer r stamp picture buffer).refusal

  pub record Keep : Type 0 where
    pub order :
        FirstOf keeping
        ((8 on (is_sound (edition_of r) r ≡ false))
        ∷ (3 on (length stamp ≢ mark_length))
        ∷ (9 on ((edition_of r).shots ≤ r.taken.0))
        ∷ (10 on ((length picture < 1) ⊎ (max_picture < length picture)))
        ∷ (11 on (length buffer < total_from (used_after r.used (length picture)) (r.kept.0 + 1)))
        ∷ [])
    pub refused : keeping ≢ 0
        → (keep_answer r stamp picture buffer ≡ record { refusal = keeping; mark = 0; shot = record { 0 = 0 }; recorder = r })
        × (keep_buffer r stamp picture buffer ≡ buffer)

-- drop, by value and in place: 8, 9
module _ (r : Recorder) where
  abbrev dropping : ℕ
  dropping = (drop_answer r).refusal

  pub record Drop : Type 0 where
    pub order : FirstOf dropping ((8 on (is_sound (edition_of r) r ≡ false)) ∷ (9 on ((edition_of r).shots ≤ r.taken.0)) ∷ [])
    pub refused : dropping ≢ 0 → drop_answer r ≡ record { refusal = dropping; mark = 0; shot = record { 0 = 0 }; recorder = r }

-- close: 8, 11
module _ (r : Recorder) (buffer : Bytes) where
  abbrev closing : ℕ
  closing = (close_answer r buffer).refusal

  pub record Close : Type 0 where
    pub order : FirstOf closing ((8 on (is_sound (edition_of r) r ≡ false)) ∷ (11 on (length buffer < total_from r.used r.kept.0)) ∷ [])
    pub refused : closing ≢ 0
        → (close_answer r buffer ≡ record { refusal = closing; mark = 0; total = 0; recorder = r }) × (close_buffer r buffer ≡ buffer)

-- a call of a list that is refused leaves recorder and buffer to the next call, and its value is 0
module _ (r : Recorder) (buffer : Bytes) (c : Call) where
  pub record InList : Type 0 where
    pub refused : (answer_to r buffer c).number ≢ 0
        → (answer_to r buffer c ≡ record { number = (answer_to r buffer c).number; mark = 0; value = 0 })
        × (next_recorder r buffer c ≡ r)
        × (next_buffer r buffer c ≡ buffer)

-- ---- the reader. Check: 1, 12, 7
module _ (key f : Bytes) where
  abbrev checking : ℕ
  checking = (check_answer key f).refusal

  abbrev ClosingDiffers : Type 0
  ClosingDiffers = agrees key f (closing_part f) ≡ false

  -- the tag of the record of a place
  abbrev record_agrees : ℕ → Bool
  record_agrees place = agrees key f (record_part f (position_of f place))

  abbrev pub order_of_check : List Refusal
  order_of_check =
      (1 on (length key ≢ key_length))
      ∷ (12 on (front_rules f ≡ false))
      ∷ (7 on (ClosingDiffers ⊎ ((place : ℕ) × (place < kept_in f) × (record_agrees place ≡ false))))
      ∷ []

  pub record Check : Type 0 where
    pub order : FirstOf checking order_of_check
    pub refused : checking ≢ 0 → check_answer key f ≡ not_checked checking (check_answer key f).mark
    -- the mark under 7: 0 where the closing seal's tag differs, else the shot number of the first record whose tag does; 0 under every other number
    pub mark_closing : checking ≡ 7 → ClosingDiffers → (check_answer key f).mark ≡ 0
    pub mark_record : checking ≡ 7 → agrees key f (closing_part f) ≡ true
        → (place : ℕ) → place < kept_in f → record_agrees place ≡ false → ((before : ℕ) → before < place → record_agrees before ≡ true)
        → (check_answer key f).mark ≡ (entry_at f (position_of f place)).shot.0
    pub unmarked : checking ≢ 7 → (check_answer key f).mark ≡ 0
    -- what record and the C calls leave in the number lent for the mark
    pub mark_left : check_mark key f ≡ (check_answer key f).mark

-- record, also in C: check's, 13
module _ (key f : Bytes) (place : ℕ) where
  abbrev pub order_at_place : List Refusal
  order_at_place = order_of_check key f ++ ((13 on (kept_in f ≤ place)) ∷ [])

  pub record Record : Type 0 where
    pub order : FirstOf (record_refusal key f place) order_at_place
    pub refused : record_refusal key f place ≢ 0 → (record_bytes_in key f place ≡ []) × (record_offset key f place ≡ 0)
    pub unmarked : record_refusal key f place ≢ 7 → check_mark key f ≡ 0

-- fetch: check's, 13, 5
module _ (key f : Bytes) (place : ℕ) (out : Bytes) where
  abbrev fetching : ℕ
  fetching = (fetch_answer key f place out).refusal

  abbrev pub NoRoomToFetch : Type 0
  NoRoomToFetch = length out < (entry_at f (position_of f place)).length

  pub record Fetch : Type 0 where
    pub order : FirstOf fetching (order_at_place key f place ++ ((5 on NoRoomToFetch) ∷ []))
    pub refused : fetching ≢ 0
        → (fetch_answer key f place out ≡ not_fetched fetching (check_answer key f).mark) × (fetch_output key f place out ≡ out)
    pub unmarked : fetching ≢ 7 → (fetch_answer key f place out).mark ≡ 0

-- in C, with 5 for the info too
module _ (key f info : Bytes) where
  pub record CheckCall : Type 0 where
    pub order : FirstOf (check_call_refusal key f info) (order_of_check key f ++ ((5 on (length info < check_info_length)) ∷ []))
    pub refused : check_call_refusal key f info ≢ 0 → check_call_info key f info ≡ info
    pub unmarked : check_call_refusal key f info ≢ 7 → check_mark key f ≡ 0

module _ (key f : Bytes) (place : ℕ) (out info : Bytes) where
  abbrev fetching_c : ℕ
  fetching_c = fetch_call_refusal key f place out info

  pub record FetchCall : Type 0 where
    pub order : FirstOf fetching_c (order_at_place key f place ++ ((5 on ((length info < fetch_info_length) ⊎ NoRoomToFetch key f place out)) ∷ []))
    pub refused : fetching_c ≢ 0 → (fetch_call_output key f place out info ≡ out) × (fetch_call_info key f place out info ≡ info)
    pub unmarked : fetching_c ≢ 7 → check_mark key f ≡ 0

-- ---- the lister, also in C: 5
module _ (f out : Bytes) where
  abbrev printing : Listed
  printing = list_answer f out

  pub record Print : Type 0 where
    pub order : FirstOf printing.refusal ((5 on (length out < length (listing f))) ∷ [])
    pub refused : printing.refusal ≢ 0 → (printing ≡ record { refusal = printing.refusal; mark = 0; length = 0 }) × (list_output f out ≡ out)
    -- room that is enough for every text
    pub room : text_room ≤ length out → printing.refusal ≡ 0
    -- what the C call returns
    pub returned : list_refusal f out ≡ printing.refusal

-- ---- round logs (02, N9): 19. `check_log` answers the refusal or what the rounds come to; these are the three numbers of the C call
module _ (log : Bytes) where
  pub record CheckLog : Type 0 where
    pub order : FirstOf (call_refusal (verdict log)) ((19 on ((r : ℕ) → LogOf r log → ⊥)) ∷ [])
    pub refused : call_refusal (verdict log) ≢ 0 → (call_agrees (verdict log) ≡ 0) × (call_round (verdict log) ≡ 0)

-- ---- rounds (02, N10): 20. The Rattle call answers the refusal or a state, and what a refusal stands for has all zeros; the C calls change a slice in place, of n
-- bytes: 20, then 5
abbrev pub order_of_rounds : (r n : ℕ) → List Refusal
order_of_rounds r n = (20 on (12 < r)) ∷ (5 on (n < 160)) ∷ []

module _ (d : Direction) (s : State) (r : ℕ) where
  pub record Drive : Type 0 where
    pub order : FirstOf (driven d s r).refusal ((20 on (12 < r)) ∷ [])
    pub refused : (driven d s r).refusal ≢ 0 → (driven d s r).state ≡ replicate 160 0

module _ (d : Direction) (r : ℕ) (b : Bytes) where
  pub record RunRounds : Type 0 where
    pub order : FirstOf (rounds_refusal r (length b)) (order_of_rounds r (length b))
    pub refused : rounds_refusal r (length b) ≢ 0 → after_rounds d r b ≡ b

-- ---- sizing up: 9 for the whole list, then 10 for a length (02, N4). The numbers that the C call writes are those of the answer
module _ (lengths : List ℕ) where
  abbrev size : Size
  size = size_answer lengths

  pub record SizeUpCall : Type 0 where
    pub order : FirstOf size.refusal ((9 on (60 < length lengths)) ∷ (10 on ((i : ℕ) × (i < length lengths) × (1048576 < get_or lengths i 0))) ∷ [])
    pub refused : size.refusal ≢ 0 → size ≡ record { refusal = size.refusal; mark = 0; file_length = 0; p12 = 0; p6 = 0 }

pub record Demand1 : Type 0 where
  pub seal-number : SealNumber
  pub seals : (v : Variant) (key nonce secret ad m out : Bytes) → Seal v key nonce secret ad m out
  pub open-number : OpenNumber
  pub verifies : (v : Variant) (key nonce ad c : Bytes) → Verify v key nonce ad c
  pub opens : (v : Variant) (key nonce ad c out : Bytes) → Open v key nonce ad c out
  pub opens_in_c : (v : Variant) (key nonce ad c out info : Bytes) → OpenCall v key nonce ad c out info
  pub opens_in_place : (v : Variant) (key nonce ad c : Bytes) → OpenInPlace v key nonce ad c
  pub opens_in_place_in_c : (v : Variant) (key nonce ad c info : Bytes) → OpenInPlaceCall v key nonce ad c info
  pub start-number : StartNumber
  pub starts : (key nonce secret ad out : Bytes) → Start key nonce secret ad out
  pub strips : (s : StripState) (m out : Bytes) → Strip s m out
  pub ends : (s : StripState) (out : Bytes) → End s out
  pub starts_in_c : (key nonce secret ad out state : Bytes) → StartCall key nonce secret ad out state
  pub strips_in_c : (state m out : Bytes) → StripCall state m out
  pub ends_in_c : (state out : Bytes) → EndCall state out
  pub begins : (key : Bytes) (i : Identity) (buffer : Bytes) → Begin key i buffer
  pub keeps : (r : Recorder) (stamp picture buffer : Bytes) → Keep r stamp picture buffer
  pub drops : (r : Recorder) → Drop r
  pub closes : (r : Recorder) (buffer : Bytes) → Close r buffer
  pub in_lists : (r : Recorder) (buffer : Bytes) (c : Call) → InList r buffer c
  pub checks : (key f : Bytes) → Check key f
  pub records : (key f : Bytes) (place : ℕ) → Record key f place
  pub fetches : (key f : Bytes) (place : ℕ) (out : Bytes) → Fetch key f place out
  pub checks_in_c : (key f info : Bytes) → CheckCall key f info
  pub fetches_in_c : (key f : Bytes) (place : ℕ) (out info : Bytes) → FetchCall key f place out info
  pub prints : (f out : Bytes) → Print f out
  pub judges : (log : Bytes) → CheckLog log
  pub drives : (d : Direction) (s : State) (r : ℕ) → Drive d s r
  pub runs_rounds_in_c : (d : Direction) (r : ℕ) (b : Bytes) → RunRounds d r b
  pub sizes_up : (lengths : List ℕ) → SizeUpCall lengths
