-- The calls' answers and buffers: what a number that is not 0 makes of them, and what number 0 does.
-- Assumes nothing.
use mathlib.Core.Bool.{false}
use mathlib.Core.List.{◌++◌}
use mathlib.Core.Path.{◌≡◌, sym, ap, ◌∙◌}
use Prim.Native.Nat.{ℕ, ◌+◌}
use lib.ListN.{length, replicate, set}
use Rattle.std.specs.Prelude.{Ok, Err}
use Rattle.refusals.specs.declared.Refusal.{Refusal}
use Rattle.refusals.specs.Numbers.{number, mark}
use Rattle.refusals.proofs.Laws.{some}
use Rattle.bytes_le.specs.Bytes.{Bytes, put_bytes}
use Rattle.burst.specs.declared.Entry.{Entry}
use Rattle.burst.specs.declared.Recorder.{Recorder}
use Rattle.burst.specs.Editions.{written}
use Rattle.burst.specs.Layout.{Identity, record_bytes, closing_seal}
use Rattle.burst.specs.Numbers.{used_after, total_from}
use Rattle.burst.specs.Index.{entry_of}
use Rattle.burst.specs.Recorder.{edition_of, name_of, identity_of, changed, new_recorder, no_recorder, begun_as, begin_refusal, begin_answer}
use Rattle.burst.specs.Recorder.{begin_buffer, shot_as, drop_refusal, after_drop, drop_answer, keep_refusal, after_keep, keep_answer, keep_buffer, close_refusal}
use Rattle.burst.specs.Recorder.{after_close, closed_as, close_answer, close_buffer, recorder_header, recorder_index, recorder_seal}

-- ---- begin
module _ (key : Bytes) (i : Identity) (b : Bytes) where
  pub begin-refused : (x : Refusal) → number x ≡ begin_refusal key i b → mark x ≡ 0 → (r : Recorder) → r ≡ no_recorder
      → (begun_as (record { answer = Err x; recorder = r }) ≡ begin_answer key i b) × (b ≡ begin_buffer key i b)
  unfolding begin_answer begin_buffer no_recorder
  begin-refused x n m r f =
      let z = sym n in
      (ap (λ (r : Recorder). begun_as (record { answer = Err x; recorder = r })) f ∙ sym (simp (z, some x, m)), sym (simp (z, some x)))

  module _ (z : begin_refusal key i b ≡ 0) where
    pub begin-done : (r : Recorder) → r ≡ new_recorder key i (written (length key)).header false
        → begun_as (record { answer = Ok tt; recorder = r }) ≡ begin_answer key i b
    unfolding begin_answer
    begin-done r f = ap (λ (r : Recorder). begun_as (record { answer = Ok tt; recorder = r })) f ∙ sym (simp z)

    pub begin-written : (b' : Bytes) → b' ≡ put_bytes b 0 (replicate (written (length key)).header 0) → b' ≡ begin_buffer key i b
    unfolding begin_buffer
    begin-written b' g = g ∙ sym (simp z)

module _ (r : Recorder) where
  -- ---- drop
  pub drop-refused : (x : Refusal) → number x ≡ drop_refusal r → mark x ≡ 0 → shot_as (record { answer = Err x; recorder = r }) ≡ drop_answer r
  unfolding drop_answer
  drop-refused x n m = sym (simp (sym n, some x, m))

  pub drop-done : drop_refusal r ≡ 0 → shot_as (record { answer = Ok (record { 0 = r.taken.0 + 1 }); recorder = after_drop r }) ≡ drop_answer r
  unfolding drop_answer
  drop-done z = sym (simp z)

  -- ---- keep
  module _ (s p b : Bytes) where
    pub keep-refused : (x : Refusal) → number x ≡ keep_refusal r s p b → mark x ≡ 0
        → (shot_as (record { answer = Err x; recorder = r }) ≡ keep_answer r s p b) × (b ≡ keep_buffer r s p b)
    unfolding keep_answer keep_buffer
    keep-refused x n m = let z = sym n in (sym (simp (z, some x, m)), sym (simp (z, some x)))

    pub keep-done : keep_refusal r s p b ≡ 0 → (next : Recorder) → next ≡ after_keep r (length p) → (b' : Bytes)
        → b' ≡ put_bytes b r.used (record_bytes (edition_of r) r.key (name_of r) (r.taken.0 + 1) r.used s p)
        → (shot_as (record { answer = Ok next.taken; recorder = next }) ≡ keep_answer r s p b) × (b' ≡ keep_buffer r s p b)
    unfolding keep_answer keep_buffer after_keep
    keep-done z next f b' g = (ap (λ (n : Recorder). shot_as (record { answer = Ok n.taken; recorder = n })) f ∙ sym (simp z), g ∙ sym (simp z))

  -- ---- close
  module _ (b : Bytes) where
    pub close-refused : (x : Refusal) → number x ≡ close_refusal r b → mark x ≡ 0
        → (closed_as (record { answer = Err x; recorder = r }) ≡ close_answer r b) × (b ≡ close_buffer r b)
    unfolding close_answer close_buffer
    close-refused x n m = let z = sym n in (sym (simp (z, some x, m)), sym (simp (z, some x)))

    module _ (z : close_refusal r b ≡ 0) where
      pub close-done : closed_as (record { answer = Ok (total_from r.used r.kept.0); recorder = after_close r }) ≡ close_answer r b
      unfolding close_answer
      close-done = sym (simp z)

      pub close-written : (b' : Bytes)
          → b' ≡ put_bytes (put_bytes b 0 (recorder_header r)) r.used
          (recorder_index r ++ closing_seal (edition_of r) r.key (identity_of r) (recorder_header r) (recorder_index r))
          → b' ≡ close_buffer r b
      unfolding close_buffer recorder_seal
      close-written b' g = g ∙ sym (simp z)

-- ---- the recorder after a picture, built field by field with the entry e
abbrev with_entry : Recorder → ℕ → Entry → Recorder
with_entry r n e = changed r e.shot (record { 0 = r.kept.0 + 1 }) (used_after r.used n) (set r.entries r.kept.0 e) r.closed

pub kept-with : (r : Recorder) (n : ℕ) (e : Entry) → e ≡ entry_of (r.taken.0 + 1) r.used n → with_entry r n e ≡ after_keep r n
unfolding after_keep
kept-with r n e f = ap (with_entry r n) f
