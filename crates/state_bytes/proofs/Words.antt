-- A word of a state changes: eight of its bytes change.
-- Assumes nothing.
use mathlib.Core.Path.{◌≡◌, refl, sym, ap, ap₂, ◌∙◌}
use mathlib.Core.List.{List, [], ◌++◌}
use Prim.Native.Nat.{ℕ, zero, suc, ◌<◌, ◌*◌, ◌/◌, ◌%◌, ◌≤◌}
use lib.ListN.{get_or, set, length, take, drop, length-drop}
use mathlib.Core.Bool.{Bool, true, false}
use native.Mathlib.Omega.{arith}
use lib.Dec.{eqb}
use mathlib.Core.Logic.{⊎_elim}
use lib.Seq.{get_or-set_same, get_or-set_other, take-append-le, drop-append-le, drop-append_seam}
use borrow.Author.Tests.{eqb-true, eqb-false}
use Rattle.bytes_le.specs.Bytes.{Bytes, le, put_bytes}
use Rattle.permutation.specs.State.{State, at, set_word}
use Rattle.bits.proofs.Cases.{le-or-lt}
use Rattle.bytes_le.proofs.Laws.{put_last, put-left}
use Rattle.state_bytes.specs.StateBytes.{bytes_below, bytes_of, state_words, word_of}
use Rattle.state_bytes.proofs.Lengths.{length-below}

-- ---- a word that changes
module _ (s : State) (w : ℕ) (hw : w < 20) (k : ℕ) (four : w % 4 < length s) (five : w / 4 < length (get_or s (w % 4) [])) where
  abbrev then : State
  then = set_word s (w % 4) (w / 4) k

  here : word_of then w ≡ k
  here =
      ap (λ (l : List ℕ). get_or l (w / 4) 0) (get_or-set_same s (w % 4) (set (get_or s (w % 4) []) (w / 4) k) [] four)
      ∙ get_or-set_same (get_or s (w % 4) []) (w / 4) k 0 five

  there : (j : ℕ) → (j ≡ w → ⊥) → word_of then j ≡ word_of s j
  there j ne = by (eqb (j % 4) (w % 4)) refl
    where
      by : (t : Bool) → eqb (j % 4) (w % 4) ≡ t → word_of then j ≡ word_of s j
      by true e =
          let ex : j % 4 ≡ w % 4 = eqb-true (j % 4) (w % 4) e in
          let ey : j / 4 ≡ w / 4 → ⊥ = λ z. ne (omega arith) in
          ap (λ (x : ℕ). at then x (j / 4)) ex
          ∙ ap (λ (l : List ℕ). get_or l (j / 4) 0) (get_or-set_same s (w % 4) (set (get_or s (w % 4) []) (w / 4) k) [] four)
          ∙ get_or-set_other (get_or s (w % 4) []) (w / 4) (j / 4) k 0 ey
          ∙ ap (λ (x : ℕ). at s x (j / 4)) (sym ex)
      by false e =
          ap (λ (l : List ℕ). get_or l (j / 4) 0) (get_or-set_other s (w % 4) (j % 4) (set (get_or s (w % 4) []) (w / 4) k) [] (eqb-false (j % 4) (w % 4) e))

  below : (n : ℕ) → n ≤ w → bytes_below then n ≡ bytes_below s n
  below zero g = refl
  below (suc n) g = ap₂ (λ (a b : Bytes). a ++ b) (below n (omega arith)) (ap (le 8) (there n (λ z. omega arith)))

  above : (n : ℕ) → w < n → bytes_below then n ≡ put_bytes (bytes_below s n) (8 * w) (le 8 k)
  above zero g = absurd (omega arith)
  above (suc n) g =
      ⊎_elim
      (λ (e : suc w ≤ n).
      let l : length (bytes_below s n) ≡ n * 8 = length-below s n in
      ap₂ (λ (a b : Bytes). a ++ b) (above n e) (ap (le 8) (there n (λ z. omega arith)))
      ∙ sym (put-left (bytes_below s n) (le 8 (word_of s n)) (8 * w) (le 8 k) (omega arith)))
      (λ (e : n < suc w).
      let ew : n ≡ w = omega arith in
      let l : length (bytes_below s n) ≡ n * 8 = length-below s n in
      ap₂ (λ (a b : Bytes). a ++ b) (below n (omega arith)) (ap (le 8) (ap (word_of then) ew ∙ here))
      ∙ sym (put_last (bytes_below s n) (le 8 (word_of s n)) (8 * w) (le 8 k) (omega arith) refl))
      (le-or-lt (suc w) n)

  -- the bytes of a state where word w changes
  pub bytes-set-word : bytes_of (set_word s (w % 4) (w / 4) k) ≡ put_bytes (bytes_of s) (8 * w) (le 8 k)
  unfolding bytes_of
  bytes-set-word = above 20 hw

-- the bytes of word w
part : (s : State) (w n : ℕ) → w < n → take 8 (drop (8 * w) (bytes_below s n)) ≡ le 8 (word_of s w)
part s w zero h = absurd (omega arith)
part s w (suc n) h =
    let l : length (bytes_below s n) ≡ n * 8 = length-below s n in
    ⊎_elim
    (λ (e : suc w ≤ n).
    let k : 8 ≤ length (drop (8 * w) (bytes_below s n)) = simp length-drop (omega arith) in
    ap (take 8) (drop-append-le (8 * w) (bytes_below s n) (le 8 (word_of s n)) (omega arith))
    ∙ take-append-le 8 (drop (8 * w) (bytes_below s n)) (le 8 (word_of s n)) k
    ∙ part s w n e)
    (λ (e : n < suc w).
    let ew : n ≡ w = omega arith in
    let ed : 8 * w ≡ length (bytes_below s n) = omega arith in
    ap (λ (k : ℕ). take 8 (drop k (bytes_below s n ++ le 8 (word_of s n)))) ed
    ∙ ap (take 8) (drop-append_seam (bytes_below s n) (le 8 (word_of s n)))
    ∙ ap (λ (k : ℕ). le 8 (word_of s k)) ew)
    (le-or-lt (suc w) n)

pub bytes_word : (s : State) (w : ℕ) → w < state_words → take 8 (drop (8 * w) (bytes_of s)) ≡ le 8 (word_of s w)
unfolding bytes_of
bytes_word s w hw = part s w state_words hw
