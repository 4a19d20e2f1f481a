-- A log whose rounds are right is the log of a run from its first state, and the log of every run is accepted.
-- Assumes nothing.
use mathlib.Core.Path.{◌≡◌, refl, sym, ap, ap₂, ◌∙◌}
use mathlib.Core.List.{◌++◌}
use mathlib.Core.Logic.{◌↔◌, ⊎_elim}
use Prim.Native.Nat.{ℕ, zero, suc, ◌+◌, ◌-◌, ◌*◌, ◌≤◌, ◌<◌}
use native.Mathlib.Omega.{arith}
use lib.ListN.{length, take, drop, length-append, length-drop}
use lib.Seq.{drop-append-le, drop_at, drop-drop, take-add, take_all, take-append-le}
use Rattle.bits.proofs.Cases.{le-or-lt}
use Rattle.bytes_le.specs.Bytes.{Bytes, AllBytes, le_at, unle}
use Rattle.bytes_le.proofs.All.{all_drop, all_take}
use Rattle.bytes_le.proofs.Laws.{length_part, part-part}
use Rattle.permutation.specs.State.{State, IsState}
use Rattle.permutation.specs.Permutation.{R, P}
use Rattle.permutation.proofs.Bounds.{round-state}
use Rattle.state_bytes.specs.StateBytes.{bytes_of, state_of, word_of}
use Rattle.state_bytes.proofs.Lengths.{length-bytes}
use Rattle.state_bytes.proofs.View.{bytes-of-state, state-held, state-of-is, word-of-bytes}
use Rattle.round_log.specs.RoundLog.{state_at, log_of_run, verdict, Agrees}
use Rattle.round_log.proofs.Lengths.{LogOf}
use Rattle.round_log.proofs.Verdicts.{RightBelow, verdict-says}

-- ---- the words of a logged state
pub word-order : (log : Bytes) (i w : ℕ) → w < 20 → word_of (state_at log i) w ≡ le_at 8 log (160 * i + 8 * w)
unfolding state_at le_at
word-order log i w h =
    word-of-bytes (take 160 (drop (160 * i) log)) w h
    ∙ ap unle (part-part (drop (160 * i) log) 160 (8 * w) 8 (omega arith) ∙ ap (take 8) (drop-drop (8 * w) (160 * i) log))

-- ---- right rounds are those of a run
module _ (log : Bytes) (n : ℕ) where
  pub from_start : RightBelow log n ↔ ((i : ℕ) → i ≤ n → state_at log i ≡ P i (state_at log 0))
  unfolding P
  from_start = (there, back)
    where
      there : RightBelow log n → (i : ℕ) → i ≤ n → state_at log i ≡ P i (state_at log 0)
      there right zero h = refl
      there right (suc i) h = right i h ∙ ap (λ (s : State). R s i) (there right i (omega arith))

      back : ((i : ℕ) → i ≤ n → state_at log i ≡ P i (state_at log 0)) → RightBelow log n
      back run i h = run (suc i) h ∙ ap (λ (s : State). R s i) (sym (run i (omega arith)))

-- ---- the log of a run
length_run : (s : State) (r : ℕ) → length (log_of_run s r) ≡ 160 * (1 + r)
length_run s zero = length-bytes s
length_run s (suc r) =
    let e = length_run s r in
    let f = length-bytes (P (suc r) s) in
    rw (length-append (log_of_run s r) (bytes_of (P (suc r) s))) (omega arith)

-- state i has its bytes there
run-bytes : (s : State) (r i : ℕ) → i ≤ r → take 160 (drop (160 * i) (log_of_run s r)) ≡ bytes_of (P i s)
unfolding P
run-bytes s zero i h =
    let e : i ≡ 0 = omega arith in
    let l = length-bytes s in
    rw e (take_all 160 (bytes_of s) (omega arith))
run-bytes s (suc r) i h =
    let a : Bytes = log_of_run s r in
    let b : Bytes = bytes_of (P (suc r) s) in
    let la : length a ≡ 160 * (1 + r) = length_run s r in
    let lb : length b ≡ 160 = length-bytes (P (suc r) s) in
    ⊎_elim
    (λ (p : i ≤ r).
    let ld : length (drop (160 * i) a) ≡ length a - 160 * i = length-drop (160 * i) a in
    ap (take 160) (drop-append-le (160 * i) a b (omega arith)) ∙ take-append-le 160 (drop (160 * i) a) b (omega arith) ∙ run-bytes s r i p)
    (λ (q : r < i).
    let e : i ≡ suc r = omega arith in
    let f : length a ≡ 160 * i = omega arith in
    ap (take 160) (drop_at a b (160 * i) f) ∙ take_all 160 b (omega arith) ∙ ap (λ (k : ℕ). bytes_of (P k s)) (sym e))
    (le-or-lt i r)

-- a run goes through states of the core
run-state : (s : State) → IsState s → (i : ℕ) → IsState (P i s)
unfolding P
run-state s w zero = w
run-state s w (suc i) = round-state (P i s) i

run-states : (s : State) → IsState s → (r i : ℕ) → i ≤ r → state_at (log_of_run s r) i ≡ P i s
unfolding state_at
run-states s w r i l = ap state_of (run-bytes s r i l) ∙ state-held (P i s) (run-state s w i)

-- the first 1 + k states of a log whose rounds are right
module _ (log : Bytes) (all : AllBytes log) (r : ℕ) (sized : LogOf r (length log)) (right : RightBelow log r) where
  state-bytes : (i : ℕ) → i ≤ r → take 160 (drop (160 * i) log) ≡ bytes_of (P i (state_at log 0))
  unfolding state_at
  state-bytes i h =
      let v : Bytes = take 160 (drop (160 * i) log) in
      let l : length log ≡ 160 * (1 + r) = sized.2 in
      sym (bytes-of-state v (all_take 160 (drop (160 * i) log) (all_drop (160 * i) log all)) (length_part log (160 * i) 160 (omega arith)))
      ∙ ap bytes_of ((from_start log r).0 right i h)

  front : (k : ℕ) → k ≤ r → take (160 * (1 + k)) log ≡ log_of_run (state_at log 0) k
  unfolding P
  front zero h = state-bytes zero h
  front (suc k) h =
      let e : 160 * (1 + suc k) ≡ 160 * (1 + k) + 160 = omega arith in
      let f : 160 * (1 + k) ≡ 160 * suc k = omega arith in
      ap (λ (n : ℕ). take n log) e
      ∙ take-add (160 * (1 + k)) 160 log
      ∙ ap₂ (λ (a b : Bytes). a ++ b) (front k (omega arith)) (ap (λ (n : ℕ). take 160 (drop n log)) f ∙ state-bytes (suc k) h)

  whole : log ≡ log_of_run (state_at log 0) r
  whole = let l : length log ≡ 160 * (1 + r) = sized.2 in sym (take_all (160 * (1 + r)) log (omega arith)) ∙ front r (omega arith)

-- ---- what is accepted are the logs of runs
abbrev Run : Bytes → ℕ → Type 0
Run log r = (1 ≤ r) × (r ≤ 12) × ((s : State) × IsState s × (log ≡ log_of_run s r))

pub of-runs : (log : Bytes) → AllBytes log → (r : ℕ) → (verdict log ≡ Agrees r) ↔ Run log r
unfolding state_at P
of-runs log all r = (there, back)
  where
    there : verdict log ≡ Agrees r → Run log r
    there e =
        let a = (verdict-says log (Agrees r)).0 e in
        let w = state-of-is (take 160 (drop (160 * 0) log)) (all_take 160 (drop (160 * 0) log) (all_drop (160 * 0) log all)) in
        (a.0.0, a.0.1, (state_at log 0, w, whole log all r a.0 a.1))

    back : Run log r → verdict log ≡ Agrees r
    back h =
        let s : State = h.2.0 in
        let e : log ≡ log_of_run s r = h.2.2 in
        let states : (i : ℕ) → i ≤ r → state_at log i ≡ P i s = λ i l. ap (λ (b : Bytes). state_at b i) e ∙ run-states s h.2.1 r i l in
        let run : (i : ℕ) → i ≤ r → state_at log i ≡ P i (state_at log 0) = λ i l. states i l ∙ ap (P i) (sym (states 0 (omega arith))) in
        (verdict-says log (Agrees r)).1 ((h.0, h.1, ap length e ∙ length_run s r), (from_start log r).1 run)
