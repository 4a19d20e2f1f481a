-- The invariant of `run`: what is left to do from here equals what was to do at the start.
-- Assumes nothing.
use mathlib.Core.List.{List, []}
use mathlib.Core.Path.{◌≡◌, refl, sym, ap, ap₂, ◌∙◌}
use mathlib.Core.Option.{some}
use Prim.Native.Nat.{ℕ, suc, ◌+◌, ◌-◌, ◌*◌, ◌≤◌, ◌<◌}
use native.Mathlib.Omega.{arith}
use lib.Dec.{eqb}
use lib.ListN.{length, drop}
use Rattle.bytes_le.specs.Bytes.{Bytes, put_bytes}
use Rattle.bytes_le.proofs.Laws.{put-none, put-put}
use Rattle.burst.specs.declared.Recorder.{Recorder}
use Rattle.trace.specs.Plain.{Call, Answer}
use Rattle.trace.specs.Trace.{next_recorder, next_buffer, answer_to, answers_from, buffer_from}
use Rattle.replay.specs.declared.Performed.{Performed}
use Rattle.replay.specs.Replay.{first_call, script_calls, script_rest, answer_bytes, answers_bytes}
use Rattle.replay.proofs.Scripts.{calls-most, answers-length, bytes-length, left-some}

module _ (script : Bytes) (room : ℕ) (r₀ : Recorder) (b₀ a₀ : Bytes) where
  abbrev All : List Call
  All = script_calls room script

  -- r, b, a after i calls, with s left of the script
  pub record Left (r : Recorder) (b a s : Bytes) (i : ℕ) : Type 0 where
    pub count : i + length (script_calls (room - i) s) ≡ length All
    pub rest : script_rest (room - i) s ≡ script_rest room script
    pub buffer : buffer_from r b (script_calls (room - i) s) ≡ buffer_from r₀ b₀ All
    pub answers : put_bytes a (8 * i) (answers_bytes (answers_from r b (script_calls (room - i) s))) ≡ put_bytes a₀ 0 (answers_bytes (answers_from r₀ b₀ All))

  module _ (r : Recorder) (b a s : Bytes) (i : ℕ) (w : Left r b a s i) where
    -- where no call is left: i calls, and whole where nothing is left of the script
    pub none_left : (script_calls (room - i) s ≡ []) × (script_rest (room - i) s ≡ s) → (p : Performed) → p ≡ record { count = i; whole = eqb (length s) 0 }
        → (p ≡ record { count = length All; whole = eqb (length (script_rest room script)) 0 }) × (b ≡ buffer_from r₀ b₀ All)
        × (a ≡ put_bytes a₀ 0 (answers_bytes (answers_from r₀ b₀ All)))
    none_left e p ep =
        let n = w.count in
        let z = ap length e.0 in
        let q : i ≡ length All = omega arith in (
          ep ∙ ap₂ (λ (k : ℕ) (t : Bytes). let y : Performed = record { count = k; whole = eqb (length t) 0 } in y) q (sym e.1 ∙ w.rest),
          ap (buffer_from r b) (sym e.0) ∙ w.buffer,
          put-none a (8 * i) ∙ ap (λ (cs : List Call). put_bytes a (8 * i) (answers_bytes (answers_from r b cs))) (sym e.0) ∙ w.answers,
        )

    -- one more call
    pub turned : 8 * room ≤ length a → i < room → (x : Call × ℕ) → first_call s ≡ some x → (r' : Recorder) (b' a' : Bytes)
        → r' ≡ next_recorder r b x.0 → b' ≡ next_buffer r b x.0 → a' ≡ put_bytes a (8 * i) (answer_bytes (answer_to r b x.0)) → Left r' b' a' (drop x.1 s) (i + 1)
    turned ha hi x f r' b' a' er eb ea =
        let k : room - i ≡ suc (room - (i + 1)) = omega arith in
        let g = left-some (room - (i + 1)) s x f in
        let e = ap (λ (n : ℕ). script_calls n s) k ∙ g.0 in
        let cs = script_calls (room - (i + 1)) (drop x.1 s) in
        let n = w.count in
        let z = ap length e in
        let es : answers_from r' b' cs ≡ answers_from (next_recorder r b x.0) (next_buffer r b x.0) cs = ap₂ (λ (q : Recorder) (c : Bytes). answers_from q c cs) er eb in
        let rest = answers_bytes (answers_from (next_recorder r b x.0) (next_buffer r b x.0) cs) in
        let l₁ = bytes-length (answers_from (next_recorder r b x.0) (next_buffer r b x.0) cs) in
        let l₂ = answers-length (next_recorder r b x.0) (next_buffer r b x.0) cs in
        let l₃ = calls-most (room - (i + 1)) (drop x.1 s) in
        let q : 8 * (i + 1) ≡ 8 * i + 8 = omega arith in
        record {
          count = omega arith;
          rest = sym g.1 ∙ sym (ap (λ (n : ℕ). script_rest n s) k) ∙ w.rest;
          buffer = ap₂ (λ (q : Recorder) (c : Bytes). buffer_from q c cs) er eb ∙ ap (buffer_from r b) (sym e) ∙ w.buffer;
          answers =
              ap₂ (λ (j : ℕ) (ts : List Answer). put_bytes a' j (answers_bytes ts)) q es
              ∙ ap (λ (y : Bytes). put_bytes y (8 * i + 8) rest) ea
              ∙ put-put a (8 * i) (answer_bytes (answer_to r b x.0)) rest (8 * i + 8) refl (omega arith)
              ∙ ap (λ (ds : List Call). put_bytes a (8 * i) (answers_bytes (answers_from r b ds))) (sym e)
              ∙ w.answers;
        }
