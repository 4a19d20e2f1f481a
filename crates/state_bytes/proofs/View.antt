-- Nothing is lost or moved on the way from a state to its bytes and back, so that rounds on words are rounds on bytes.
-- Assumes nothing.
use mathlib.Core.Path.{◌≡◌, refl, sym, ap, ap₂, ◌∙◌, subst⁻¹}
use mathlib.Core.List.{List, [], ◌∷◌, ◌++◌}
use Prim.Native.Nat.{ℕ, zero, suc, ◌+◌, ◌*◌, ◌/◌, ◌%◌, ◌≤◌, ◌<◌}
use lib.Dec.{lit<}
use lib.ListN.{get_or, length, take}
use lib.Seq.{take-add, take_all}
use mir.Syntax.{w64}
use mir.Val.{Val}
use denote.Array.{Array, each}
use denote.Laws.{Is}
use denote.Plain.{UInt}
use denote.Shadow.{shadow}
use native.Mathlib.Nat.{not-suc-le-zero, le_of_suc-le-suc}
use native.Mathlib.Omega.{arith}
use Rattle.bits.specs.Bits.{bit}
use Rattle.bits.proofs.Laws.{bit-low}
use Rattle.permutation.specs.Permutation.{ρ, π, ψ, κ, R, P}
use Rattle.permutation.proofs.Alike.{mu_same}
use Rattle.permutation.proofs.Bounds.{words}
use Rattle.permutation.proofs.Tabulate.{get_or-each, get_or-tabulate, tabulate_same, tabulated}
use Rattle.permutation.specs.State.{State, IsState, at, state, tabulate}
use Rattle.bytes_le.proofs.All.{all-le, all_append, le-at, le_at-less}
use Rattle.bytes_le.proofs.Laws.{unle-8}
use Rattle.bits.specs.Bits.{word_range}
use Rattle.bytes_le.specs.Bytes.{Bytes, AllBytes, le, unle, le_at}
use Rattle.state_bytes.proofs.Lengths.{length-bytes}
use Rattle.state_bytes.proofs.Words.{bytes_word}
use Rattle.state_bytes.specs.StateBytes.{Shape, bytes_below, bytes_of, column, permuted, state_length, state_of, state_words, word_of}

there_and_back : (f : ℕ → ℕ → ℕ) → ((x y : ℕ) → f x y < word_range) → state_of (bytes_of (state f)) ≡ state f
unfolding state_of bytes_of column le_at
there_and_back f h i =
    (unle-8 (f 0 0) (h 0 0) i ∷ unle-8 (f 0 1) (h 0 1) i ∷ unle-8 (f 0 2) (h 0 2) i ∷ unle-8 (f 0 3) (h 0 3) i ∷ unle-8 (f 0 4) (h 0 4) i ∷ [])
    ∷ (unle-8 (f 1 0) (h 1 0) i ∷ unle-8 (f 1 1) (h 1 1) i ∷ unle-8 (f 1 2) (h 1 2) i ∷ unle-8 (f 1 3) (h 1 3) i ∷ unle-8 (f 1 4) (h 1 4) i ∷ [])
    ∷ (unle-8 (f 2 0) (h 2 0) i ∷ unle-8 (f 2 1) (h 2 1) i ∷ unle-8 (f 2 2) (h 2 2) i ∷ unle-8 (f 2 3) (h 2 3) i ∷ unle-8 (f 2 4) (h 2 4) i ∷ [])
    ∷ (unle-8 (f 3 0) (h 3 0) i ∷ unle-8 (f 3 1) (h 3 1) i ∷ unle-8 (f 3 2) (h 3 2) i ∷ unle-8 (f 3 3) (h 3 3) i ∷ unle-8 (f 3 4) (h 3 4) i ∷ [])
    ∷ []

pub state-held : (s : State) → IsState s → state_of (bytes_of s) ≡ s
state-held s w = ap (λ (t : State). state_of (bytes_of t)) w.2 ∙ there_and_back w.0 w.1 ∙ sym w.2

-- ---- what the program holds are the states of the core
state-made : (s : State) → Shape s → s ≡ state (at s)
state-made s h =
    let column : (x : ℕ) → x < 4 → get_or s x [] ≡ tabulate 5 (at s x) = λ x l. tabulated 5 (get_or s x []) 0 (h.five x l) in
    tabulated 4 s [] h.four
    ∙ (λ i. column 0 (omega arith) i ∷ column 1 (omega arith) i ∷ column 2 (omega arith) i ∷ column 3 (omega arith) i ∷ [])

pub shaped-state : (s : State) → Shape s → ((x y : ℕ) → at s x y < word_range) → IsState s
shaped-state s h l = (at s, l, state-made s h)

-- a word of a state, or the 0 that stands for one beside it
word_below : (S : ℕ → ℕ → ℕ) → ((x y : ℕ) → S x y < word_range) → (x y : ℕ) → at (state S) x y < word_range
word_below S h =
    get_or-each (λ (c : List ℕ). (y : ℕ) → get_or c y 0 < word_range) 4 (λ x. tabulate 5 (S x)) []
    (λ x. get_or-each (λ (w : ℕ). w < word_range) 5 (S x) 0 (h x) (lit< tt)) (λ y. lit< tt)

pub state-shaped : (s : State) → IsState s → Shape s × ((x y : ℕ) → at s x y < word_range)
state-shaped s w = (
  record { four = ap length w.2; five = λ x h. ap (λ (t : State). length (get_or t x [])) w.2 ∙ ap length (get_or-tabulate 4 (λ x. tabulate 5 (w.0 x)) x [] h) },
  λ x y. subst⁻¹ (λ (t : State). at t x y < word_range) w.2 (word_below w.0 w.1 x y),
)

pub state-of-bytes : (s : State) → Shape s → ((x y : ℕ) → at s x y < word_range) → state_of (bytes_of s) ≡ s
state-of-bytes s h l = state-held s (shaped-state s h l)

-- ---- bytes, and the state that has them
-- word w of the state whose bytes are v
pub word-of-bytes : (v : Bytes) (w : ℕ) → w < state_words → word_of (state_of v) w ≡ le_at 8 v (8 * w)
unfolding state_of column
word-of-bytes v w h =
    let x = w % 4 in
    let y = w / 4 in
    let e : x + 4 * y ≡ w = omega arith in
    ap (λ (l : List ℕ). get_or l y 0) (get_or-tabulate 4 (λ x. tabulate 5 (λ y. le_at 8 v (8 * (x + 4 * y)))) x [] (omega arith))
    ∙ get_or-tabulate 5 (λ y. le_at 8 v (8 * (x + 4 * y))) y 0 (omega arith)
    ∙ ap (λ (k : ℕ). le_at 8 v (8 * k)) e

module _ (v : Bytes) (all : AllBytes v) (lv : length v ≡ state_length) where
  below : (w : ℕ) → w ≤ state_words → bytes_below (state_of v) w ≡ take (8 * w) v
  below zero h = refl
  below (suc w) h =
      let e : 8 * w + 8 ≡ 8 * suc w = omega arith in
      ap₂ (λ (a b : Bytes). a ++ b) (below w (omega arith)) (ap (le 8) (word-of-bytes v w h) ∙ le-at v all 8 (8 * w) (omega arith))
      ∙ sym (take-add (8 * w) 8 v)
      ∙ ap (λ (k : ℕ). take k v) e

  pub bytes-of-state : bytes_of (state_of v) ≡ v
  unfolding bytes_of
  bytes-of-state = below state_words (omega arith) ∙ take_all state_length v (omega arith)

pub state-of-is : (v : Bytes) → AllBytes v → IsState (state_of v)
unfolding state_of column
state-of-is v all = (λ x y. le_at 8 v (8 * (x + 4 * y)), λ x y. le_at-less v all 8 (8 * (x + 4 * y)), refl)

-- ---- a state and the one that has its bytes
all-below : (s : State) (w : ℕ) → AllBytes (bytes_below s w)
all-below s zero = tt
all-below s (suc w) = all_append (bytes_below s w) (le 8 (word_of s w)) (all-below s w) (all-le 8 (word_of s w))

-- they have the same bits, whatever the state is
bit-held : (s : State) (x y z : ℕ) → x < 4 → y < 5 → z < 64 → bit (at s x y) z ≡ bit (at (state_of (bytes_of s)) x y) z
unfolding le_at
bit-held s x y z hx hy hz =
    let w = x + 4 * y in
    let ex : w % 4 ≡ x = omega arith in
    let ey : w / 4 ≡ y = omega arith in
    let hw : w < state_words = omega arith in
    let low : unle (le 8 (word_of s w)) ≡ word_of s w % word_range = omega arith in
    let held : word_of (state_of (bytes_of s)) w ≡ word_of s w % word_range =
    word-of-bytes (bytes_of s) w hw ∙ ap unle (bytes_word s w hw) ∙ low in
    ap₂ (λ (i j : ℕ). bit (at s i j) z) (sym ex) (sym ey)
    ∙ sym (bit-low (word_of s w) 64 z hz)
    ∙ ap (λ (a : ℕ). bit a z) (sym held)
    ∙ ap₂ (λ (i j : ℕ). bit (at (state_of (bytes_of s)) i j) z) ex ey

rounds-held : (n : ℕ) (s : State) → P (suc n) s ≡ P (suc n) (state_of (bytes_of s))
unfolding P R
rounds-held zero s =
    ap (λ (t : State). κ (ψ (π (ρ t))) 0)
    (mu_same s (state_of (bytes_of s)) (λ z hz. tabulate_same 4 _ _ (λ x hx. tabulate_same 5 _ _ (λ y hy. bit-held s x y z hx hy hz))))
rounds-held (suc n) s = ap (λ (t : State). R t (suc n)) (rounds-held n s)

-- n rounds on the words are n rounds on the bytes
pub permuted-bytes : (n : ℕ) (s : State) → bytes_of (P n s) ≡ permuted n (bytes_of s)
unfolding permuted P bytes_of
permuted-bytes zero s = sym (bytes-of-state (bytes_of s) (all-below s state_words) (length-bytes s))
permuted-bytes (suc n) s = ap bytes_of (rounds-held n s)

-- ---- what the program's own type [[u64; 5]; 4] tells of a value: that it is a state of the core (by `shaped-state`)
rows : (xs : List (List ℕ)) (us : List Val) → shadow (each (List ℕ) (Array (UInt w64) 5).own_val xs us) → (x : ℕ) → x < length xs → length (get_or xs x []) ≡ 5
rows [] us p x h = absurd (not-suc-le-zero h)
rows (r ∷ xs) [] p x h = absurd p
rows (r ∷ xs) (u ∷ us) p zero h = p.0.1.0.1
rows (r ∷ xs) (u ∷ us) p (suc x) h = rows xs us p.1 x (le_of_suc-le-suc h)

pub told : (s : State) (vs : List Val) → Is (Array (Array (UInt w64) 5) 4) s vs → Shape s × ((x y : ℕ) → at s x y < word_range)
told s vs p = (record { four = p.1.0.1; five = λ x h. rows s p.0 p.1.1 x (rw p.1.0.1 h) }, words s vs p)
