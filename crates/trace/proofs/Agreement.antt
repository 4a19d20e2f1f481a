-- A run of the calls agrees with the plain burst: an open burst and its recorder answer alike and go on alike, and a closed one answers 8 for good.
-- Assumes nothing.
use mathlib.Core.Bool.{Bool, true, false, cond, not}
use mathlib.Core.List.{List, [], ◌∷◌, ◌++◌, append_assoc, append-nil}
use mathlib.Core.Logic.{◌⊎◌, inl, inr}
use mathlib.Core.Path.{◌≡◌, refl, sym, ap, ap₂, subst, ◌∙◌}
use Prim.Native.Nat.{ℕ, ◌+◌, ◌-◌, ◌*◌, ◌≤◌, ◌<◌}
use native.Mathlib.Omega.{arith}
use native.Mathlib.Numerals.{add-one}
use borrow.Author.Tests.{eqb-true, eqb-false}
use lib.Dec.{eqb}
use lib.ListN.{length, take, drop, set, replicate, length-append, length-replicate, length-set, take-append-drop}
use lib.Seq.{take_at, drop_at, take-suc-set, length-take-le}
use Rattle.bytes_le.specs.Bytes.{Bytes, put_bytes}
use Rattle.bytes_le.proofs.Laws.{length-put, take_put}
use Rattle.burst.specs.declared.Entry.{Entry}
use Rattle.burst.specs.declared.Recorder.{Recorder}
use Rattle.burst.specs.declared.Edition.{Edition}
use Rattle.burst.specs.Editions.{written, max_entries, Known}
use Rattle.burst.specs.Parts.{mark_length}
use Rattle.burst.specs.Layout.{Identity, identity_held, record_bytes, closing_seal}
use Rattle.burst.specs.Numbers.{total_from, begin_number}
use Rattle.burst.specs.Index.{entry_of, index_rules, index_bytes}
use Rattle.trace.specs.Plain.{Firing, kept, gap, pictures, gaps, used_by, records, Plain, new_burst, no_burst, total_of, header_of}
use Rattle.trace.specs.Plain.{index_of, file_of, Way, Call, keep_shot, drop_shot, close_burst, CallList, Answer, number_of, accepted}
use Rattle.trace.specs.Plain.{value_of, after_call, answer_of, after_calls, answers_of, begun, plain_of, plain_answers, begin_number_of}
use Rattle.burst.specs.Recorder.{edition_of, name_of, identity_of, is_sound, new_recorder, no_recorder, begin_refusal, begin_answer, begin_buffer, after_drop, drop_refusal, drop_answer, after_keep}
use Rattle.burst.specs.Recorder.{keep_refusal, keep_answer, keep_buffer, recorder_header, recorder_index, recorder_seal, after_close, close_refusal, close_answer, close_buffer}
use Rattle.burst.proofs.Rows.{written_known, held-written}
use Rattle.burst.proofs.Rules.{clash, sound-is}
use Rattle.burst.proofs.Numbers.{keeps, drops, closes, keep-8, drop-8, close-8, begins}
use Rattle.burst.proofs.Puts.{length-header}
use Rattle.trace.specs.Trace.{next_recorder, next_buffer, answer_to, answers_from, buffer_from, run_answers, run_buffer}
use Rattle.trace.specs.Agreement.{Reached, Agrees, edition_for, Agreement}
use Rattle.trace.proofs.Shots.{entries, Valid, valid-snoc, pictures-append, pictures-gaps, used-append, used-least, entries-append}
use Rattle.trace.proofs.Shots.{records-append, index-entries, length-index, sound-entries, length-record, length-closing}

abbrev pub with : Plain → List Firing → Bool → Plain
with p xs c = record { key = p.key; identity = p.identity; shots = xs; closed = c }

-- ---- what keep and close leave in the buffer
abbrev with_record : Recorder → Bytes → Bytes → Bytes → Bytes
with_record r b s q = put_bytes b r.used (record_bytes (edition_of r) r.key (name_of r) (r.taken.0 + 1) r.used s q)

abbrev with_end : Recorder → Bytes → Bytes
with_end r b = put_bytes (put_bytes b 0 (recorder_header r)) r.used (recorder_index r ++ recorder_seal r)

-- ---- a closed plain burst: every call answers 8 and changes nothing
module _ (ed : Edition) (n : ℕ) (p : Plain) (shut : p.closed ≡ true) where
  pub closed-8 : (c : Call) → number_of ed n p c ≡ 8
  unfolding number_of
  closed-8 (keep_shot s q) = sym (keep-8 _ _ _ _ _ _ _ _ (ap not shut))
  closed-8 (drop_shot way) = sym (drop-8 _ _ _ (ap not shut))
  closed-8 close_burst = sym (close-8 _ _ _ _ (ap not shut))

  pub closed-stays : (c : Call) → after_call ed n p c ≡ p
  unfolding after_call
  closed-stays c = simp (closed-8 c)

module _ (ed : Edition) (known : Known ed) where
  -- ---- a recorder and a buffer of n bytes that stand for an open plain burst
  record Live (n : ℕ) (p : Plain) (r : Recorder) (b : Bytes) : Type 0 where
    pub open-p : p.closed ≡ false
    pub open-r : r.closed ≡ false
    pub row : edition_of r ≡ ed
    pub key : r.key ≡ p.key
    pub identity : identity_of r ≡ p.identity
    pub taken : r.taken.0 ≡ length p.shots
    pub kept : r.kept.0 ≡ pictures p.shots
    pub used : r.used ≡ used_by ed.header p.shots
    pub entries : take r.kept.0 r.entries ≡ entries 1 ed.header p.shots
    pub size : length r.entries ≡ max_entries
    pub most : length p.shots ≤ ed.shots
    pub valid : Valid p.shots
    pub site16 : length p.identity.site_mark ≡ mark_length
    pub room : length b ≡ n
    pub fits : r.used ≤ n
    pub front : take r.used b ≡ replicate ed.header 0 ++ records ed p.key p.identity.name 1 ed.header p.shots

  named : (n : ℕ) (p : Plain) (r : Recorder) (b : Bytes) → Live n p r b → name_of r ≡ p.identity.name
  named n p r b l = ap (λ (i : Identity). i.name) l.identity

  module _ (n : ℕ) (p : Plain) (r : Recorder) (b : Bytes) (l : Live n p r b) where
    live-sound : is_sound ed r ≡ not p.closed
    live-sound =
        let e₁ = l.taken in
        let e₂ = l.kept in
        let g = pictures-gaps p.shots in
        let c = l.most in
        sound-is ed r l.open-r (omega arith) (omega arith)
        ∙ ap (index_rules 0 ed.header r.taken.0 r.used) l.entries
        ∙ sound-entries p.shots 1 ed.header 0 r.taken.0 r.used l.valid (omega arith) (omega arith) l.used
        ∙ sym (ap not l.open-p)

    -- the recorder and the plain burst have the same numbers
    keep-number : (s q : Bytes) → keep_refusal r s q b ≡ number_of ed n p (keep_shot s q)
    unfolding keep_refusal number_of
    keep-number s q = cc (l.row, live-sound, l.taken, l.kept, l.used, l.room)

    drop-number : (way : Way) → drop_refusal r ≡ number_of ed n p (drop_shot way)
    unfolding drop_refusal number_of
    drop-number way = cc (l.row, live-sound, l.taken)

    close-number : close_refusal r b ≡ number_of ed n p close_burst
    unfolding close_refusal number_of
    close-number = cc (l.row, live-sound, l.kept, l.used, l.room)

    keep_live : (s q : Bytes) → number_of ed n p (keep_shot s q) ≡ 0
        → Live n (with p (p.shots ++ (kept s q ∷ [])) p.closed) (after_keep r (length q)) (with_record r b s q)
    unfolding after_keep number_of
    keep_live s q z =
        let w = keeps _ _ _ _ _ _ _ _ z in
        let xs = p.shots in
        let u = r.used in
        let e₁ = l.taken in
        let e₂ = l.kept in
        let e₃ = l.used in
        let e₄ = l.size in
        let e₅ = l.room in
        let rb = record_bytes (edition_of r) r.key (name_of r) (r.taken.0 + 1) u s q in
        let lr : length rb ≡ length q + 32 = length-record _ _ _ _ _ s q w.stamp in
        let f : u ≤ length b = let c = l.fits in omega arith in
        let pg = pictures-gaps xs in
        let f₁ : u + length rb ≤ length b = omega (arith, w.room) in
        let f₂ : r.kept.0 < length r.entries = omega (arith, w.more, known) in
        let s₁ : 1 + length xs ≡ r.taken.0 + 1 = omega arith in
        let re : rb ≡ record_bytes ed p.key p.identity.name (1 + length xs) (used_by ed.header xs) s q =
        cc (l.row, l.key, named n p r b l, l.used, s₁) in
        record {
          open-p = l.open-p;
          open-r = l.open-r;
          row = l.row;
          key = l.key;
          identity = l.identity;
          taken = simp length-append (omega arith);
          kept = simp pictures-append (omega arith);
          used = ap (λ (k : ℕ). k + length q + 32) l.used ∙ sym (used-append ed.header xs (kept s q ∷ []));
          entries =
              ap (λ (k : ℕ). take k (set r.entries r.kept.0 (entry_of (r.taken.0 + 1) u (length q)))) (add-one r.kept.0)
              ∙ take-suc-set r.entries r.kept.0 (entry_of (r.taken.0 + 1) u (length q)) f₂
              ∙ ap (λ (m : List Entry). m ++ (entry_of (r.taken.0 + 1) u (length q) ∷ [])) l.entries
              ∙ ap₂ (λ (k i : ℕ). entries 1 ed.header xs ++ (entry_of k i (length q) ∷ [])) (sym s₁) l.used
              ∙ sym (entries-append 1 ed.header xs (kept s q ∷ []));
          size = length-set r.entries r.kept.0 (entry_of (r.taken.0 + 1) u (length q)) ∙ l.size;
          most = let c = w.more in simp length-append (omega arith);
          valid = valid-snoc xs (kept s q) l.valid ((w.stamp, w.least, w.most), tt);
          site16 = l.site16;
          room = length-put b u rb f₁ ∙ l.room;
          fits = omega (arith, w.room);
          front =
              take_put b u rb (u + length q + 32) (omega arith) f
              ∙ ap (λ (m : Bytes). m ++ rb) l.front
              ∙ append_assoc (replicate ed.header 0) (records ed p.key p.identity.name 1 ed.header xs) rb
              ∙ ap (λ (m : Bytes). replicate ed.header 0 ++ m)
              (ap (λ (m : Bytes). records ed p.key p.identity.name 1 ed.header xs ++ m) (sym (append-nil rb) ∙ ap (λ (m : Bytes). m ++ []) re)
              ∙ sym (records-append ed p.key p.identity.name 1 ed.header xs (kept s q ∷ [])));
        }

    drop-live : (way : Way) → number_of ed n p (drop_shot way) ≡ 0 → Live n (with p (p.shots ++ (gap ∷ [])) p.closed) (after_drop r) b
    unfolding after_drop number_of
    drop-live way z =
        let w = drops _ _ _ z in
        let xs = p.shots in
        let e₁ = l.taken in
        let e₂ = l.kept in
        record {
          open-p = l.open-p;
          open-r = l.open-r;
          row = l.row;
          key = l.key;
          identity = l.identity;
          taken = simp length-append (omega arith);
          kept = simp pictures-append (omega arith);
          used = l.used ∙ sym (used-append ed.header xs (gap ∷ []));
          entries = l.entries ∙ sym (append-nil (entries 1 ed.header xs)) ∙ sym (entries-append 1 ed.header xs (gap ∷ []));
          size = l.size;
          most = let c = w.1 in simp length-append (omega arith);
          valid = valid-snoc xs gap l.valid tt;
          site16 = l.site16;
          room = l.room;
          fits = l.fits;
          front =
              l.front
              ∙ ap (λ (m : Bytes). replicate ed.header 0 ++ m)
              (sym (append-nil (records ed p.key p.identity.name 1 ed.header xs))
              ∙ sym (records-append ed p.key p.identity.name 1 ed.header xs (gap ∷ [])));
        }

  -- the front of a buffer, with its first bytes replaced
  refront : (b z rs h : Bytes) (u : ℕ) → length z ≡ length h → u ≤ length b → take u b ≡ z ++ rs → take u (put_bytes b 0 h) ≡ h ++ rs
  unfolding put_bytes
  refront b z rs h u e g f =
      let lu : length (z ++ rs) ≡ u = ap length (sym f) ∙ length-take-le u b g in
      let lz : length z + length rs ≡ u = sym (length-append z rs) ∙ lu in
      let lh : length (h ++ rs) ≡ u = length-append h rs ∙ ap (λ (k : ℕ). k + length rs) (sym e) ∙ lz in
      let b₁ : b ≡ z ++ (rs ++ drop u b) = sym (take-append-drop u b) ∙ ap (λ (m : Bytes). m ++ drop u b) f ∙ append_assoc z rs (drop u b) in
      let le₀ : length z ≡ 0 + length h = omega arith in
      let d : drop (0 + length h) b ≡ rs ++ drop u b = ap (drop (0 + length h)) b₁ ∙ drop_at z (rs ++ drop u b) (0 + length h) le₀ in
      ap (λ (m : Bytes). take u (h ++ m)) d ∙ ap (take u) (sym (append_assoc h rs (drop u b))) ∙ take_at (h ++ rs) (drop u b) u lh

  module _ (n : ℕ) (p : Plain) (r : Recorder) (b : Bytes) (l : Live n p r b) where
    header-same : recorder_header r ≡ header_of ed p
    unfolding recorder_header header_of
    header-same =
        let g = pictures-gaps p.shots in
        let d : r.taken.0 - r.kept.0 ≡ gaps p.shots = let e₁ = l.taken in let e₂ = l.kept in omega arith in
        cc (l.row, l.taken, l.kept, d, named n p r b l, l.used)

    index_same : recorder_index r ≡ index_of ed p
    unfolding recorder_index index_of
    index_same = ap index_bytes l.entries ∙ index-entries 1 ed.header p.shots

    seal-same : recorder_seal r ≡ closing_seal ed p.key p.identity (header_of ed p) (index_of ed p)
    unfolding recorder_seal
    seal-same = cc (header-same, index_same, l.row, l.key, l.identity)

    header-length : length (header_of ed p) ≡ ed.header
    unfolding header_of
    header-length = length-header ed known _ _ _ _ _

    index-length : length (index_of ed p) ≡ 12 * pictures p.shots
    unfolding index_of
    index-length = length-index 1 ed.header p.shots

    -- an accepted close leaves the file at the front
    close-file : number_of ed n p close_burst ≡ 0
        → take (total_of ed p) (with_end r b) ≡ file_of ed p
    unfolding total_of file_of number_of
    close-file z =
        let w = (closes _ _ _ _ z).1 in
        let hd = recorder_header r in
        let ix = recorder_index r in
        let cl = recorder_seal r in
        let rs = records ed p.key p.identity.name 1 ed.header p.shots in
        let e₃ = l.used in
        let e₅ = l.room in
        let lh : length hd ≡ ed.header = ap length header-same ∙ header-length in
        let lx : length ix ≡ 12 * pictures p.shots = ap length index_same ∙ index-length in
        let lc : length cl ≡ 0 + 32 = ap length seal-same ∙ length-closing _ _ _ _ _ l.site16 in
        let la : length (ix ++ cl) ≡ length ix + length cl = length-append ix cl in
        let lf = used-least ed.header p.shots in
        let lp : length (put_bytes b 0 hd) ≡ length b = length-put b 0 hd (omega arith) in
        take_put (put_bytes b 0 hd) r.used (ix ++ cl) (total_from (used_by ed.header p.shots) (pictures p.shots)) (omega arith) (omega arith)
        ∙ ap (λ (m : Bytes). m ++ (ix ++ cl)) (refront b (replicate ed.header 0) rs hd r.used (length-replicate ed.header 0 ∙ sym lh) (omega arith) l.front)
        ∙ append_assoc hd rs (ix ++ cl)
        ∙ ap₂ (λ (h x : Bytes). h ++ (rs ++ (x ++ cl))) header-same index_same
        ∙ ap (λ (c : Bytes). header_of ed p ++ (rs ++ (index_of ed p ++ c))) seal-same

  -- ---- a closed plain burst and a recorder that is not sound: nothing changes, every call answers 8
  record Off (p : Plain) (r : Recorder) : Type 0 where
    pub shut-p : p.closed ≡ true
    pub shut-r : is_sound (edition_of r) r ≡ false

  module _ (n : ℕ) (p : Plain) (r : Recorder) (b : Bytes) (o : Off p r) where
    plain-8 : (c : Call) → number_of ed n p c ≡ 8
    plain-8 c = closed-8 ed n p o.shut-p c

    -- the recorder's number
    keep-is-8 : (s q : Bytes) → keep_refusal r s q b ≡ 8
    unfolding keep_refusal
    keep-is-8 s q = sym (keep-8 (edition_of r) _ r.taken.0 r.kept.0 r.used (length s) (length q) (length b) o.shut-r)

    drop-is-8 : drop_refusal r ≡ 8
    unfolding drop_refusal
    drop-is-8 = sym (drop-8 (edition_of r) _ r.taken.0 o.shut-r)

    close-is-8 : close_refusal r b ≡ 8
    unfolding close_refusal
    close-is-8 = sym (close-8 _ r.kept.0 r.used (length b) o.shut-r)

    off-answer : (c : Call) → answer_to r b c ≡ answer_of ed n p c
    unfolding answer_to answer_of keep_answer drop_answer close_answer
    off-answer (keep_shot s q) = simp (plain-8 (keep_shot s q), keep-is-8 s q)
    off-answer (drop_shot way) = simp (plain-8 (drop_shot way), drop-is-8)
    off-answer close_burst = simp (plain-8 close_burst, close-is-8)

    off-recorder : (c : Call) → next_recorder r b c ≡ r
    unfolding next_recorder keep_answer drop_answer close_answer
    off-recorder (keep_shot s q) = simp (keep-is-8 s q)
    off-recorder (drop_shot way) = simp drop-is-8
    off-recorder close_burst = simp close-is-8

    off-buffer : (c : Call) → next_buffer r b c ≡ b
    unfolding next_buffer keep_buffer close_buffer
    off-buffer (keep_shot s q) = simp (keep-is-8 s q)
    off-buffer (drop_shot way) = refl
    off-buffer close_burst = simp close-is-8

  record Same (n : ℕ) (p : Plain) (r : Recorder) (b : Bytes) (cs : List Call) : Type 0 where
    pub answers : answers_from r b cs ≡ answers_of ed n p cs
    pub file : (after_calls ed n p cs).closed ≡ true → take (total_of ed (after_calls ed n p cs)) (buffer_from r b cs) ≡ file_of ed (after_calls ed n p cs)

  -- the same at other names of one state
  same_at : (n : ℕ) (p p' : Plain) (r r' : Recorder) (b b' : Bytes) (cs : List Call) → p ≡ p' → r ≡ r' → b ≡ b' → Same n p' r' b' cs → Same n p r b cs
  same_at n p p' r r' b b' cs e f g s =
      subst (λ (x : Plain). Same n x r b cs) (sym e) (subst (λ (x : Recorder). Same n p' x b cs) (sym f) (subst (λ (x : Bytes). Same n p' r' x cs) (sym g) s))

  off-answers : (n : ℕ) (p : Plain) (r : Recorder) (b : Bytes) (cs : List Call) → Off p r → answers_from r b cs ≡ answers_of ed n p cs
  off-answers n p r b [] o = refl
  off-answers n p r b (c ∷ cs) o =
      let h = off-answers n p r b cs o in
      cc (off-answer n p r b o c, off-recorder n p r b o c, off-buffer n p r b o c, closed-stays ed n p o.shut-p c, h)

  off-same : (n : ℕ) (p : Plain) (r : Recorder) (b : Bytes) (cs : List Call) → Off p r → take (total_of ed p) b ≡ file_of ed p → Same n p r b cs
  off-same n p r b [] o f = record { answers = refl; file = λ _. f }
  off-same n p r b (c ∷ cs) o f =
      let h =
      same_at n (after_call ed n p c) p (next_recorder r b c) r (next_buffer r b c) b cs
      (closed-stays ed n p o.shut-p c) (off-recorder n p r b o c) (off-buffer n p r b o c) (off-same n p r b cs o f) in
      record { answers = cc (off-answer n p r b o c, h.answers); file = h.file }

  -- ---- one call from an open burst
  abbrev Next : ℕ → Plain → Recorder → Bytes → Type 0
  Next n p r b = Live n p r b ⊎ (Off p r × (take (total_of ed p) b ≡ file_of ed p))

  -- number 0 goes on, any other stays
  goes_on : (n num : ℕ) (p p' : Plain) (r r' : Recorder) (b b' : Bytes) (z : Bool) → eqb num 0 ≡ z → (num ≡ 0 → Next n p' r' b') → Next n p r b
      → Next n (cond z p' p) (cond z r' r) (cond z b' b)
  goes_on n num p p' r r' b b' true e f l = f (eqb-true num 0 e)
  goes_on n num p p' r r' b b' false e f l = l

  record Step (n : ℕ) (p : Plain) (r : Recorder) (b : Bytes) (c : Call) : Type 0 where
    pub answer : answer_to r b c ≡ answer_of ed n p c
    pub next : Next n (after_call ed n p c) (next_recorder r b c) (next_buffer r b c)

  abbrev told : ℕ → ℕ → Answer
  told num value = record { number = num; mark = 0; value = cond (eqb num 0) value 0 }

  module _ (n : ℕ) (p : Plain) (r : Recorder) (b : Bytes) (l : Live n p r b) where
    keep-step : (s q : Bytes) → Step n p r b (keep_shot s q)
    unfolding answer_to next_recorder next_buffer keep_answer keep_buffer answer_of after_call value_of accepted
    keep-step s q =
        let e = keep-number n p r b l s q in
        record {
          answer = ap₂ (λ (k t : ℕ). told k (t + 1)) e l.taken;
          next =
              subst (λ (k : ℕ). Next n (after_call ed n p (keep_shot s q)) (cond (eqb k 0) (after_keep r (length q)) r) (cond (eqb k 0) (with_record r b s q) b)) (sym e)
              (goes_on n (number_of ed n p (keep_shot s q)) p _ r _ b _ _ refl (λ z. inl (keep_live n p r b l s q z)) (inl l));
        }

    drop-step : (way : Way) → Step n p r b (drop_shot way)
    unfolding answer_to next_recorder next_buffer drop_answer answer_of after_call value_of accepted
    drop-step way =
        let e = drop-number n p r b l way in
        record {
          answer = ap₂ (λ (k t : ℕ). told k (t + 1)) e l.taken;
          next =
              subst (λ (k : ℕ). Next n (after_call ed n p (drop_shot way)) (cond (eqb k 0) (after_drop r) r) b) (sym e)
              (both-same n (number_of ed n p (drop_shot way)) p _ r _ b _ refl (λ z. inl (drop-live n p r b l way z)) (inl l));
        }
      where
        both-same : (n num : ℕ) (p p' : Plain) (r r' : Recorder) (b : Bytes) (z : Bool) → eqb num 0 ≡ z → (num ≡ 0 → Next n p' r' b) → Next n p r b
            → Next n (cond z p' p) (cond z r' r) b
        both-same n num p p' r r' b true e f l = f (eqb-true num 0 e)
        both-same n num p p' r r' b false e f l = l

    shut-off : Off (with p p.shots true) (after_close r)
    unfolding after_close is_sound
    shut-off = record { shut-p = refl; shut-r = refl }

    total-same : total_from r.used r.kept.0 ≡ total_of ed p
    unfolding total_of
    total-same = cc (l.used, l.kept)

    shut-file : number_of ed n p close_burst ≡ 0
        → take (total_of ed (with p p.shots true)) (with_end r b) ≡ file_of ed (with p p.shots true)
    unfolding total_of file_of header_of index_of
    shut-file z = close-file n p r b l z

    close-step : Step n p r b close_burst
    unfolding answer_to next_recorder next_buffer close_answer close_buffer answer_of after_call value_of accepted
    close-step =
        let e = close-number n p r b l in
        record {
          answer = ap₂ told e total-same;
          next =
              subst (λ (k : ℕ). Next n (after_call ed n p close_burst) (cond (eqb k 0) (after_close r) r) (cond (eqb k 0) (with_end r b) b)) (sym e)
              (goes_on n (number_of ed n p close_burst) p _ r _ b _ _ refl (λ z. inr (shut-off, shut-file z)) (inl l));
        }

    step : (c : Call) → Step n p r b c
    step (keep_shot s q) = keep-step s q
    step (drop_shot way) = drop-step way
    step close_burst = close-step

  -- ---- the calls after begin
  same : (n : ℕ) (p : Plain) (r : Recorder) (b : Bytes) (cs : List Call) → Next n p r b → Same n p r b cs
  same n p r b [] (inl l) = record { answers = refl; file = λ h. absurd (clash _ h l.open-p) }
  same n p r b [] (inr o) = off-same n p r b [] o.0 o.1
  same n p r b (c ∷ cs) (inl l) =
      let s = step n p r b l c in
      let t = same n (after_call ed n p c) (next_recorder r b c) (next_buffer r b c) cs s.next in
      record { answers = cc (s.answer, t.answers); file = t.file }
  same n p r b (c ∷ cs) (inr o) = off-same n p r b (c ∷ cs) o.0 o.1

-- ---- the whole list
module _ (k : Bytes) (i : Identity) (b : Bytes) (h : begin_number (written (length k)) (length k) (length i.site_mark) i.name.camera (length b) ≡ 0) where
  abbrev own : Edition
  own = written (length k)

  begun-live : Live own (written_known _) (length b) (new_burst k (identity_held own i)) (new_recorder k i own.header false) (put_bytes b 0 (replicate own.header 0))
  unfolding new_recorder
  begun-live =
      let w = begins _ _ _ _ _ h in
      let g = w.room in
      let z : length {A = ℕ} (replicate own.header 0) ≡ own.header = length-replicate own.header 0 in
      record {
        open-p = refl;
        open-r = refl;
        row = refl;
        key = refl;
        identity = sym (held-written (length k) i);
        taken = refl;
        kept = refl;
        used = refl;
        entries = refl;
        size = refl;
        most = omega arith;
        valid = tt;
        site16 = w.mark;
        room = length-put b 0 (replicate own.header 0) (omega arith);
        fits = omega arith;
        front = take_put b 0 (replicate own.header 0) own.header (omega arith) (omega arith) ∙ sym (append-nil (replicate own.header 0));
      }

module _ (l : CallList) (b : Bytes) (hb : length b ≡ l.buffer_length) where
  abbrev row : Edition
  row = edition_for l

  number_same : begin_refusal l.key l.identity b ≡ begin_number_of row l
  unfolding begin_refusal
  number_same = ap (begin_number row (length l.key) (length l.identity.site_mark) l.identity.name.camera) hb

  no-recorder : is_sound (edition_of no_recorder) no_recorder ≡ false
  unfolding no_recorder new_recorder is_sound
  no-recorder = refl

  abbrev plain_from : Bool → Plain
  plain_from z = cond z (new_burst l.key (identity_held row l.identity)) no_burst

  abbrev recorder_from : Bool → Recorder
  recorder_from z = cond z (new_recorder l.key l.identity row.header false) no_recorder

  abbrev buffer_begun : Bool → Bytes
  buffer_begun z = cond z (put_bytes b 0 (replicate row.header 0)) b

  -- what begin leaves: an open burst, or one that stays closed
  abbrev Starts : Bool → Type 0
  Starts z =
      (Off row (written_known _) (plain_from z) (recorder_from z) × (begin_number_of row l ≡ 0 → ⊥))
      ⊎ Next row (written_known _) l.buffer_length (plain_from z) (recorder_from z) (buffer_begun z)

  starts : (z : Bool) → eqb (begin_number_of row l) 0 ≡ z → Starts z
  unfolding begin_refusal
  starts true e =
      let w = begun-live l.key l.identity b (number_same ∙ eqb-true _ _ e) in
      inr (inl (subst (λ (n : ℕ). Live row (written_known _) n (plain_from true) (recorder_from true) (buffer_begun true)) hb w))
  starts false e = inl (record { shut-p = refl; shut-r = no-recorder }, eqb-false _ _ e)

  abbrev last : Bool → Plain
  last z = after_calls row l.buffer_length (plain_from z) l.calls

  record Whole (z : Bool) : Type 0 where
    pub answers : answers_from (recorder_from z) (buffer_begun z) l.calls ≡ answers_of row l.buffer_length (plain_from z) l.calls
    pub file : Reached row l → (last z).closed ≡ true → take (total_of row (last z)) (buffer_from (recorder_from z) (buffer_begun z) l.calls) ≡ file_of row (last z)

  whole : (z : Bool) → Starts z → Whole z
  whole z (inl o) = record {
    answers = off-answers row (written_known _) l.buffer_length (plain_from z) (recorder_from z) (buffer_begun z) l.calls o.0;
    file = λ q h. absurd (o.1 q.begun);
  }
  whole z (inr x) =
      let s = same row (written_known _) l.buffer_length (plain_from z) (recorder_from z) (buffer_begun z) l.calls x in
      record { answers = s.answers; file = λ q h. s.file h }

  pub agrees : Agrees row l b
  unfolding run_answers run_buffer plain_answers plain_of begun begin_answer begin_buffer
  agrees =
      let w = whole (eqb (begin_number_of row l) 0) (starts (eqb (begin_number_of row l) 0) refl) in
      let n = number_same in
      record {
        answers =
            ap (λ (k : ℕ). let a : Answer = record { number = k; mark = 0; value = 0 } in a ∷ answers_from (recorder_from (eqb k 0)) (buffer_begun (eqb k 0)) l.calls) n
            ∙ ap (λ (ts : List Answer). let a : Answer = record { number = begin_number_of row l; mark = 0; value = 0 } in a ∷ ts) w.answers;
        file = λ q.
            ap (λ (k : ℕ). take (total_of row (plain_of row l)) (buffer_from (recorder_from (eqb k 0)) (buffer_begun (eqb k 0)) l.calls)) n
            ∙ w.file q q.closed;
      }

pub agreement : Agreement
agreement l b hb = agrees l b hb
