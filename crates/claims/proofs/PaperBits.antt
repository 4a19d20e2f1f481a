-- The byte view is the paper's, by the laws of bits and of a state's bytes.
-- Assumes nothing.
use mathlib.Core.Path.{◌≡◌, refl, sym, ap, ap₂, ◌∙◌}
use mathlib.Core.Bool.{true, false}
use mathlib.Core.List.{[], ◌∷◌, List}
use mathlib.Core.Logic.{⊎_elim}
use Prim.Native.Nat.{ℕ, zero, suc, ◌+◌, ◌-◌, ◌*◌, ◌/◌, ◌%◌, ◌^◌, ◌<◌, ◌≤◌}
use native.Mathlib.Nat.{zero-div, not-suc-le-zero, le_of_suc-le-suc, eq-zero-or-pos}
use native.Mathlib.Omega.{arith}
use lib.Bits.{bit_xor, xor_zero_r}
use lib.Dec.{eqb}
use lib.ListN.{length, get_or, take, drop, get_or-append, length-append, get_or-eq_default}
use lib.Pow.{shr-shr}
use lib.Seq.{get_or-take, get_or-drop, get_or-append_seam}
use Rattle.bits.specs.Bits.{bit, ◌⊕◌}
use Rattle.bytes_le.specs.Bytes.{Bytes, AllBytes, le, le_at, unle}
use Rattle.blocks.specs.Sealing.{◌⊕₈◌, pad, xor_with}
use Rattle.permutation.specs.State.{at, state, tabulate}
use Rattle.state_bytes.specs.StateBytes.{bytes_of, column, state_of, word_of}
use Rattle.bits.proofs.Cases.{two}
use Rattle.bits.proofs.Laws.{bit-low, bit-shr, bit-xor}
use Rattle.bytes_le.proofs.All.{all_take, all_drop}
use Rattle.permutation.proofs.Tabulate.{get_or-tabulate}
use Rattle.state_bytes.proofs.Words.{bytes_word}
use Rattle.claims.specs.PaperBits.{PaperBits, bit_of}

-- ---- the bytes of a number
byte_of : (n x j : ℕ) → j < n → get_or (le n x) j 0 ≡ x / 2 ^ (8 * j) % 2 ^ 8
byte_of zero x j h = absurd (not-suc-le-zero h)
byte_of (suc n) x zero h = let e : x / 1 ≡ x = omega arith in ap (λ (y : ℕ). y % 256) (sym e)
byte_of (suc n) x (suc j) h =
    let e : 8 + 8 * j ≡ 8 * suc j = omega arith in
    byte_of n (x / 256) j (le_of_suc-le-suc h)
    ∙ ap (λ (y : ℕ). y % 2 ^ 8) (shr-shr x 8 (8 * j))
    ∙ ap (λ (k : ℕ). x / 2 ^ k % 2 ^ 8) e

bit-of : (n x j k : ℕ) → j < n → k < 8 → bit (get_or (le n x) j 0) k ≡ bit x (8 * j + k)
bit-of n x j k h l =
    ap (λ (y : ℕ). bit y k) (byte_of n x j h) ∙ bit-low (x / 2 ^ (8 * j)) 8 k l ∙ bit-shr x (8 * j) k

bit-none : (z : ℕ) → bit 0 z ≡ false
unfolding bit
bit-none z = ap (λ (n : ℕ). eqb (n % 2) 1) (zero-div (2 ^ z))

bit_in : (b : Bytes) → AllBytes b → (j k : ℕ) → k < 8 → bit (unle b) (8 * j + k) ≡ bit (get_or b j 0) k
bit_in [] h j k l = bit-none (8 * j + k) ∙ sym (bit-none k)
bit_in (x ∷ b) h zero k l =
    let ek : 8 * zero + k ≡ k = omega arith in
    let hx : x < 256 = h.0 in
    let ex : (x + 256 * unle b) % 2 ^ 8 ≡ x = omega arith in
    ap (bit (x + 256 * unle b)) ek ∙ sym (bit-low (x + 256 * unle b) 8 k l) ∙ ap (λ (y : ℕ). bit y k) ex
bit_in (x ∷ b) h (suc j) k l =
    let ej : 8 * suc j + k ≡ 8 + (8 * j + k) = omega arith in
    let hx : x < 256 = h.0 in
    let ex : (x + 256 * unle b) / 2 ^ 8 ≡ unle b = omega arith in
    ap (bit (x + 256 * unle b)) ej
    ∙ sym (bit-shr (x + 256 * unle b) 8 (8 * j + k))
    ∙ ap (λ (y : ℕ). bit y (8 * j + k)) ex
    ∙ bit_in b h.1 j k l

-- ---- the state
state-bit : (S : ℕ → ℕ → ℕ) (w z : ℕ) → w < 20 → z < 64 → bit_of (bytes_of (state S)) (64 * w + z) ≡ bit (word_of (state S) w) z
state-bit S w z hw hz =
    let v = bytes_of (state S) in
    let ei : (64 * w + z) / 8 ≡ 8 * w + z / 8 = omega arith in
    let ek : (64 * w + z) % 8 ≡ z % 8 = omega arith in
    let ez : 8 * (z / 8) + z % 8 ≡ z = omega arith in
    ap₂ (λ (i k : ℕ). bit (get_or v i 0) k) ei ek
    ∙ ap (λ (y : ℕ). bit y (z % 8))
    (sym (get_or-drop (8 * w) v (z / 8) 0) ∙ sym (get_or-take 8 (drop (8 * w) v) (z / 8) 0 (omega arith))
    ∙ ap (λ (l : Bytes). get_or l (z / 8) 0) (bytes_word (state S) w hw))
    ∙ bit-of 8 (word_of (state S) w) (z / 8) (z % 8) (omega arith) (omega arith)
    ∙ ap (bit (word_of (state S) w)) ez

paper-bit : (S : ℕ → ℕ → ℕ) (x y z : ℕ) → x < 4 → y < 5 → z < 64 → bit_of (bytes_of (state S)) (64 * (x + 4 * y) + z) ≡ bit (S x y) z
paper-bit S x y z hx hy hz =
    let ex : (x + 4 * y) % 4 ≡ x = omega arith in
    let ey : (x + 4 * y) / 4 ≡ y = omega arith in
    state-bit S (x + 4 * y) z (omega arith) hz
    ∙ ap₂ (λ (i j : ℕ). bit (at (state S) i j) z) ex ey
    ∙ ap (λ (l : List ℕ). bit (get_or l y 0) z) (get_or-tabulate 4 (λ i. tabulate 5 (S i)) x [] hx)
    ∙ ap (λ (w : ℕ). bit w z) (get_or-tabulate 5 (S x) y 0 hy)

-- and back
bit-back : (v : Bytes) → AllBytes v → (x y z : ℕ) → x < 4 → y < 5 → z < 64 → bit (at (state_of v) x y) z ≡ bit_of v (64 * (x + 4 * y) + z)
unfolding state_of column le_at
bit-back v h x y z hx hy hz =
    let w = x + 4 * y in
    let word : ℕ → ℕ → ℕ = λ x y. unle (take 8 (drop (8 * (x + 4 * y)) v)) in
    let t = take 8 (drop (8 * w) v) in
    let ei : 8 * w + z / 8 ≡ (64 * w + z) / 8 = omega arith in
    let ek : z % 8 ≡ (64 * w + z) % 8 = omega arith in
    let ez : z ≡ 8 * (z / 8) + z % 8 = omega arith in
    ap (λ (l : List ℕ). bit (get_or l y 0) z) (get_or-tabulate 4 (λ i. tabulate 5 (word i)) x [] hx)
    ∙ ap (λ (n : ℕ). bit n z) (get_or-tabulate 5 (word x) y 0 hy)
    ∙ ap (bit (unle t)) ez
    ∙ bit_in t (all_take 8 (drop (8 * w) v) (all_drop (8 * w) v h)) (z / 8) (z % 8) (omega arith)
    ∙ ap (λ (n : ℕ). bit n (z % 8)) (get_or-take 8 (drop (8 * w) v) (z / 8) 0 (omega arith) ∙ get_or-drop (8 * w) v (z / 8) 0)
    ∙ ap₂ (λ (i k : ℕ). bit (get_or v i 0) k) ei ek

-- ---- the padding
bit_high : (n i : ℕ) → n < 4 → bit n (2 + i) ≡ false
bit_high n i h =
    let e : n / 2 ^ 2 ≡ 0 = omega arith in
    sym (bit-shr n 2 i) ∙ ap (λ (m : ℕ). bit m i) e ∙ bit-none i

module _ (b : Bytes) (f : ℕ) where
  last_byte : get_or (pad b f) (length b) 0 ≡ f + 2
  last_byte = get_or-append_seam b (f + 2) [] 0

  at_last : (k : ℕ) → k < 8 → bit_of (pad b f) (8 * length b + k) ≡ bit (f + 2) k
  at_last k h =
      let ei : (8 * length b + k) / 8 ≡ length b = omega arith in
      let ek : (8 * length b + k) % 8 ≡ k = omega arith in
      ap₂ (λ (i j : ℕ). bit (get_or (pad b f) i 0) j) ei ek ∙ ap (λ (y : ℕ). bit y k) last_byte

  front : (i : ℕ) → i < 8 * length b → bit_of (pad b f) i ≡ bit_of b i
  front i h = ap (λ (y : ℕ). bit y (i % 8)) (get_or-append b ((f + 2) ∷ []) 0 (i / 8) (omega arith))

  module _ (hf : f < 2) where
    frame-bit : bit_of (pad b f) (8 * length b) ≡ eqb f 1
    unfolding bit
    frame-bit =
        let e : 8 * length b ≡ 8 * length b + 0 = omega arith in
        ap (bit_of (pad b f)) e ∙ at_last 0 (omega arith) ∙ two (λ f. bit (f + 2) 0 ≡ eqb f 1) refl refl f hf

    one_bit : bit_of (pad b f) (8 * length b + 1) ≡ true
    unfolding bit
    one_bit = at_last 1 (omega arith) ∙ two (λ f. bit (f + 2) 1 ≡ true) refl refl f hf

    zero_bits : (i : ℕ) → bit_of (pad b f) (8 * length b + (2 + i)) ≡ false
    zero_bits i =
        ⊎_elim
        (λ (e : i - 5 ≡ 0). at_last (2 + i) (omega arith) ∙ bit_high (f + 2) i (omega arith))
        (λ (e : 0 < i - 5).
        let l : length (pad b f) ≡ length b + 1 = length-append b ((f + 2) ∷ []) in
        ap (λ (y : ℕ). bit y ((8 * length b + (2 + i)) % 8)) (get_or-eq_default (pad b f) 0 {n = (8 * length b + (2 + i)) / 8} (omega arith))
        ∙ bit-none ((8 * length b + (2 + i)) % 8))
        (eq-zero-or-pos (i - 5))

-- ---- exclusive or
xor-at : (v b : Bytes) (j : ℕ) → j < length v → get_or (xor_with v b) j 0 ≡ bit_xor (get_or v j 0) (get_or b j 0)
xor-at v [] j h = sym (xor_zero_r (get_or v j 0))
xor-at [] (y ∷ b) j h = absurd (not-suc-le-zero h)
xor-at (x ∷ v) (y ∷ b) zero h = refl
xor-at (x ∷ v) (y ∷ b) (suc j) h = xor-at v b j (le_of_suc-le-suc h)

xor-bit : (v b : Bytes) (i : ℕ) → i < 8 * length v → bit_of (xor_with v b) i ≡ bit_of v i ⊕ bit_of b i
xor-bit v b i h =
    ap (λ (y : ℕ). bit y (i % 8)) (xor-at v b (i / 8) (omega arith)) ∙ bit-xor (get_or v (i / 8) 0) (get_or b (i / 8) 0) (i % 8)

cipher-at : (v b : Bytes) (j : ℕ) → length b ≤ length v → j < length b → get_or (v ⊕₈ b) j 0 ≡ bit_xor (get_or v j 0) (get_or b j 0)
cipher-at v [] j h l = absurd (not-suc-le-zero l)
cipher-at [] (y ∷ b) j h l = absurd (not-suc-le-zero h)
cipher-at (x ∷ v) (y ∷ b) zero h l = refl
cipher-at (x ∷ v) (y ∷ b) (suc j) h l = cipher-at v b j (le_of_suc-le-suc h) (le_of_suc-le-suc l)

cipher-bit : (v b : Bytes) (i : ℕ) → length b ≤ length v → i < 8 * length b → bit_of (v ⊕₈ b) i ≡ bit_of v i ⊕ bit_of b i
cipher-bit v b i h l =
    ap (λ (y : ℕ). bit y (i % 8)) (cipher-at v b (i / 8) h (omega arith)) ∙ bit-xor (get_or v (i / 8) 0) (get_or b (i / 8) 0) (i % 8)

pub paper-bits : PaperBits
paper-bits =
    record {
      state_bits = paper-bit;
      bits_state = bit-back;
      pad_block = front;
      pad_frame = frame-bit;
      pad_one = one_bit;
      pad_zeros = zero_bits;
      xor_bits = xor-bit;
      cipher_bits = cipher-bit;
    }
