-- A begin and a script, performed: what `replay` leaves is what the plain burst says.
-- Assumes nothing.
use mathlib.Core.Bool.{Bool, false, cond}
use mathlib.Core.List.{List, ◌++◌}
use mathlib.Core.Path.{◌≡◌, refl, sym, ap, ap₂, ◌∙◌}
use Prim.Native.Nat.{ℕ, ◌+◌, ◌-◌, ◌/◌, ◌≤◌}
use native.Mathlib.Omega.{arith}
use borrow.Author.Tests.{le-ltb}
use lib.Dec.{eqb}
use lib.ListN.{length, take, drop}
use Rattle.bytes_le.specs.Bytes.{Bytes, put_bytes, le}
use Rattle.bytes_le.proofs.Laws.{put-part, put-put, length-put}
use Rattle.burst.specs.Layout.{Identity}
use Rattle.trace.specs.Plain.{Call, CallList, Answer, plain_of, plain_answers, total_of}
use Rattle.burst.specs.Recorder.{Begun, begin_answer, begin_buffer}
use Rattle.trace.specs.Agreement.{edition_for}
use Rattle.trace.specs.Trace.{answers_from, buffer_from, run_answers, run_buffer}
use Rattle.trace.proofs.Agreement.{agreement}
use Rattle.replay.specs.declared.Performed.{Performed}
use Rattle.replay.specs.Replay.{script_calls, script_rest, answers_bytes, list_of, whole_script, Replayed}
use Rattle.replay.proofs.Scripts.{calls-most, answers-length, bytes-length}

module _ (key : Bytes) (i : Identity) (script b a : Bytes) (h : 8 ≤ length a) where
  abbrev room : ℕ
  room = length a / 8 - 1

  abbrev calls : List Call
  calls = script_calls room script

  abbrev l : CallList
  l = list_of key i (length b) (length a) script

  abbrev A : Begun
  A = begin_answer key i b

  abbrev rest : List Answer
  rest = answers_from A.recorder (begin_buffer key i b) calls

  first-bytes : answers_bytes (run_answers l b) ≡ (le 4 A.refusal ++ le 4 0) ++ answers_bytes rest
  unfolding run_answers
  first-bytes = refl

  run_length : length (run_answers l b) ≡ 1 + length calls
  unfolding run_answers
  run_length = let e = answers-length A.recorder (begin_buffer key i b) calls in omega arith

  buffer-is : buffer_from A.recorder (begin_buffer key i b) calls ≡ run_buffer l b
  unfolding run_buffer
  buffer-is = refl

  pub all_done : (g : Begun) (b₁ b₂ a₂ t ys : Bytes) (u : ℕ) (p : Performed) → g ≡ A → b₁ ≡ begin_buffer key i b
      → a₂ ≡ put_bytes a 0 (le 4 g.refusal ++ le 4 0)
      → p ≡ record { count = length calls; whole = eqb (length (script_rest room script)) 0 } → b₂ ≡ buffer_from g.recorder b₁ calls
      → t ≡ drop 8 a₂ → u ≡ length a₂ - 8 → ys ≡ put_bytes t 0 (answers_bytes (answers_from g.recorder b₁ calls))
      → Replayed l a (take 8 a₂ ++ (ys ++ drop u (drop 8 a₂))) b b₂ (1 + p.count) × (p.whole ≡ whole_script (length a) script)
  all_done g b₁ b₂ a₂ t ys u p eg eb₁ e₂ ep eb₂ et eu ey =
      let w = agreement l b refl in
      let er : answers_from g.recorder b₁ calls ≡ rest = ap₂ (λ (x : Begun) (c : Bytes). answers_from x.recorder c calls) eg eb₁ in
      let l₁ = bytes-length rest in
      let l₂ = answers-length A.recorder (begin_buffer key i b) calls in
      let l₃ = calls-most room script in
      let la₂ : length a₂ ≡ length a = ap length e₂ ∙ length-put a 0 (le 4 g.refusal ++ le 4 0) (omega arith) in
      let y : ys ≡ put_bytes (drop 8 a₂) 0 (answers_bytes rest) = ey ∙ ap₂ (λ (x : Bytes) (ts : List Answer). put_bytes x 0 (answers_bytes ts)) et er in
      let bf : b₂ ≡ run_buffer l b = eb₂ ∙ ap₂ (λ (x : Begun) (c : Bytes). buffer_from x.recorder c calls) eg eb₁ ∙ buffer-is in
      let an : take 8 a₂ ++ (ys ++ drop u (drop 8 a₂)) ≡ put_bytes a 0 (answers_bytes (plain_answers (edition_for l) l)) =
      ap (λ (x : Bytes). take 8 a₂ ++ (x ++ drop u (drop 8 a₂))) y
      ∙ put-part a₂ 8 (answers_bytes rest) u (omega arith) eu
      ∙ ap (λ (x : Bytes). put_bytes x 8 (answers_bytes rest)) e₂
      ∙ put-put a 0 (le 4 g.refusal ++ le 4 0) (answers_bytes rest) 8 refl (omega arith)
      ∙ ap (λ (x : Begun). put_bytes a 0 ((le 4 x.refusal ++ le 4 0) ++ answers_bytes rest)) eg
      ∙ ap (put_bytes a 0) (sym first-bytes) ∙ ap (λ (ts : List Answer). put_bytes a 0 (answers_bytes ts)) w.answers in
      let ct : 1 + p.count ≡ length (plain_answers (edition_for l) l) = ap (λ (y : Performed). 1 + y.count) ep ∙ sym run_length ∙ ap length w.answers in
      let d : Replayed l a (take 8 a₂ ++ (ys ++ drop u (drop 8 a₂))) b b₂ (1 + p.count) =
      record {
        nothing = λ k. absurd (omega arith);
        count = λ _. ct;
        answers = λ _. an;
        buffer = λ _. bf;
        file = λ _ q. ap (take (total_of (edition_for l) (plain_of (edition_for l) l))) bf ∙ w.file q;
      } in
      (d, ap (λ (y : Performed). y.whole) ep ∙ sym (ap (λ (v : Bool). cond v false (eqb (length (script_rest room script)) 0)) (le-ltb (length a) 8 h)))
