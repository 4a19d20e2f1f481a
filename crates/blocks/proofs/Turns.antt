-- What a turn, and the last block, of a loop over data does.
-- Assumes nothing.
use mathlib.Core.Path.{◌≡◌, refl, sym, ap, ap₂, ◌∙◌}
use mathlib.Core.List.{[], ◌++◌, append-nil}
use Prim.Native.Nat.{ℕ, ◌<◌, ◌+◌, ◌-◌, ◌≤◌}
use native.Mathlib.Omega.{arith}
use lib.ListN.{length, take, drop, length-drop, length-take}
use lib.Seq.{length-take-le, take_at, drop_at, drop-drop, take_all, take-add}
use Rattle.bytes_le.specs.Bytes.{Bytes, put_bytes}
use Rattle.permutation.specs.State.{State}
use Rattle.state_bytes.specs.StateBytes.{bytes_of}
use Rattle.bytes_le.proofs.Laws.{behind-put, length_part, part-part, take_put}
use Rattle.state_bytes.proofs.Lengths.{length-bytes}
use Rattle.blocks.specs.Sealing.{◌⊕₈◌, absorb, finish, xor_with}
use Rattle.blocks.specs.Ways.{Puts, Room, Takes, put_by, taken_by}
use Rattle.blocks.proofs.Blocks.{length-put, put-last, put-more, taken-last, taken-more}
use Rattle.blocks.proofs.Full.{room_left, unread}
use Rattle.blocks.proofs.Steps.{padded}
use Rattle.blocks.specs.WayLaws.{length-xor}

-- all that is left of d
pub rest : (d : Bytes) (at k : ℕ) → k ≡ length d - at → take k (drop at d) ≡ drop at d
rest d at k e = take_all k (drop at d) (rw length-drop (omega arith))

-- F is all that is put out, of the state and the data: what is put before index at, and what is left to put
pub record Written (F : Bytes → Bytes → Bytes) (put : Bytes → ℕ → Bytes → Bytes) (s₀ : State) (d o : Bytes) (to : ℕ) (s : State) (o₁ : Bytes) (at : ℕ) : Type 0 where
  pub left : F (bytes_of s) (drop at d) ≡ drop at (F (bytes_of s₀) d)
  pub put_so_far : o₁ ≡ put o to (take at (F (bytes_of s₀) d))

pub none_put : {needs : ℕ → ℕ} {put : Bytes → ℕ → Bytes → Bytes} → Puts needs put → (F : Bytes → Bytes → Bytes) (s : State) (d o : Bytes) (to : ℕ)
    → Written F put s d o to s o 0
none_put puts F s d o to = record { left = refl; put_so_far = puts.none o to }

-- ---- a turn of a loop over the n bytes d, and its end
-- what is left of d from index at on stands in c from index i on
pub record Left (c : Bytes) (i n : ℕ) (d : Bytes) (at : ℕ) : Type 0 where
  pub long : length d ≡ n
  pub block : (k : ℕ) → at + k ≤ n → take k (drop i c) ≡ take k (drop at d)

-- at index at and the state s
module _ {taken : Bytes → Bytes → Bytes} (laws : Takes taken) (r : ℕ) (hr : 0 < r) (hs : r < 160) (more : ℕ)
    {c d : Bytes} {i n at : ℕ} (a : Left c i n d at) (s : State) where
  more_left : r < n - at → r < length (drop at d)
  more_left h = rw (length-drop, a.long) h

  last-left : n - at ≤ r → length (drop at d) ≤ r
  last-left h = rw (length-drop, a.long) h

  all_left : take (n - at) (drop at d) ≡ drop at d
  all_left = rest d at (n - at) (ap (λ (n : ℕ). n - at) (sym a.long))

  -- the block is taken and padded
  absorbed : {b t : Bytes} (k f : ℕ) → k ≤ r → at + k ≤ n → b ≡ xor_with (bytes_of s) (taken (bytes_of s) (take k (drop i c)))
      → t ≡ finish b k f → t ≡ absorb (bytes_of s) (taken (bytes_of s) (take k (drop at d))) f
  absorbed {b} {t} k f hk h eb et =
      let p : Bytes = take k (drop at d) in
      let lv : length (bytes_of s) ≡ 160 = length-bytes s in
      let ld : length d ≡ n = a.long in
      let lp : length p ≡ k = length_part d at k (omega arith) in
      padded (bytes_of s) (taken (bytes_of s) p) b k f t (laws.sized (bytes_of s) p (omega arith) ∙ lp) (omega arith)
      (eb ∙ ap (λ (p : Bytes). xor_with (bytes_of s) (taken (bytes_of s) p)) (a.block k h)) et

  pub turn : {b t : Bytes} → r < n - at → b ≡ xor_with (bytes_of s) (taken (bytes_of s) (take r (drop i c))) → t ≡ finish b r more
      → (end : ℕ) → taken_by r taken more end t (drop (at + r) d) ≡ taken_by r taken more end (bytes_of s) (drop at d)
  turn h eb et end =
      ap₂ (taken_by r taken more end) (absorbed r more (omega arith) (omega arith) eb et) (sym (drop-drop r at d))
      ∙ sym (taken-more r hr taken more end (bytes_of s) (drop at d) (more_left h))

  pub ended : {b : Bytes} → n - at ≤ r → at ≤ n → b ≡ xor_with (bytes_of s) (taken (bytes_of s) (take (n - at) (drop i c)))
      → (end : ℕ) → finish b (n - at) end ≡ taken_by r taken more end (bytes_of s) (drop at d)
  ended h ha eb end =
      absorbed (n - at) end h (omega arith) eb refl
      ∙ ap (λ (b : Bytes). absorb (bytes_of s) (taken (bytes_of s) b) end) all_left
      ∙ sym (taken-last r hr taken more end (bytes_of s) (drop at d) (last-left h))

  -- ---- what is put out, of the block at index j
  module _ {needs : ℕ → ℕ} {put : Bytes → ℕ → Bytes → Bytes} (puts : Puts needs put) {s₀ : State} {o o₁ o₂ : Bytes} {to j : ℕ}
      (w : Written (put_by r taken more) put s₀ d o to s o₁ at) (ho : needs (to + n) ≤ length o) (ej : j ≡ to + at) where
    put_one : (k : ℕ) (y : Bytes) → k ≤ r → at + k ≤ n → put_by r taken more (bytes_of s) (drop at d) ≡ (bytes_of s ⊕₈ take k (drop at d)) ++ y
        → o₂ ≡ put o₁ j (bytes_of s ⊕₈ take k (drop i c))
        → (y ≡ drop (at + k) (put_by r taken more (bytes_of s₀) d)) × (o₂ ≡ put o to (take (at + k) (put_by r taken more (bytes_of s₀) d)))
    put_one k y hk h e eo =
        let p : Bytes = take k (drop at d) in
        let q : Bytes = bytes_of s ⊕₈ p in
        let z : Bytes = put_by r taken more (bytes_of s₀) d in
        let lv : length (bytes_of s) ≡ 160 = length-bytes s in
        let ld : length d ≡ n = a.long in
        let lp : length p ≡ k = length_part d at k (omega arith) in
        let lq : length q ≡ k = length-xor (bytes_of s) p (omega arith) ∙ lp in
        let lz : length z ≡ n = length-put r hr hs taken more d (bytes_of s₀) (length-bytes s₀) ∙ ld in
        let lt : length (take at z) ≡ at = length-take-le at z (omega arith) in
        let g : drop at z ≡ q ++ y = sym w.left ∙ e in
        let m : needs (to + (length (take at z) + length q)) ≤ needs (to + n) = puts.fewer _ _ (omega arith) in (
          sym (drop_at q y k lq) ∙ ap (drop k) (sym g) ∙ drop-drop k at z,
          eo ∙ ap₂ (λ (j : ℕ) (b : Bytes). put o₁ j (bytes_of s ⊕₈ b)) (ej ∙ ap (λ (k : ℕ). to + k) (sym lt)) (a.block k h)
              ∙ ap (λ (b : Bytes). put b (to + length (take at z)) q) w.put_so_far
              ∙ puts.append o (take at z) q to (omega arith)
              ∙ ap (put o to) (sym (take-add at k z ∙ ap (λ (b : Bytes). take at z ++ b) (ap (take k) g ∙ take_at q y k lq))),
        )

    pub put-turn : (t : State) {b : Bytes} → r < n - at → b ≡ xor_with (bytes_of s) (taken (bytes_of s) (take r (drop i c))) → bytes_of t ≡ finish b r more
        → o₂ ≡ put o₁ j (bytes_of s ⊕₈ take r (drop i c)) → Written (put_by r taken more) put s₀ d o to t o₂ (at + r)
    put-turn t h eb et eo =
        let q = put_one r _ (omega arith) (omega arith) (put-more r hr taken more (bytes_of s) (drop at d) (more_left h)) eo in
        record { left = ap₂ (put_by r taken more) (absorbed r more (omega arith) (omega arith) eb et) (sym (drop-drop r at d)) ∙ q.0; put_so_far = q.1 }

    pub put-end : n - at ≤ r → at ≤ n → o₂ ≡ put o₁ j (bytes_of s ⊕₈ take (n - at) (drop i c)) → o₂ ≡ put o to (put_by r taken more (bytes_of s₀) d)
    put-end h ha eo =
        let lz : length (put_by r taken more (bytes_of s₀) d) ≡ n = length-put r hr hs taken more d (bytes_of s₀) (length-bytes s₀) ∙ a.long in
        (put_one (n - at) [] h (omega arith)
        (put-last r hr taken more (bytes_of s) (drop at d) (last-left h) ∙ ap (λ (b : Bytes). bytes_of s ⊕₈ b) (sym all_left) ∙ sym (append-nil _)) eo).1
        ∙ ap (put o to) (take_all (at + (n - at)) (put_by r taken more (bytes_of s₀) d) (omega arith))

-- ---- of the n bytes from index from on, what is left when those before index at are put, and the room for it
module _ (taken : Bytes → Bytes → Bytes) (r : ℕ) (hr : 0 < r) (hs : r < 160) (more : ℕ) (bytes : Bytes → Bytes) {needs : ℕ → ℕ} {put : Bytes → ℕ → Bytes → Bytes}
    (puts : Puts needs put) (from n to : ℕ) (o : Bytes) (m : Room bytes needs put from n o to) {s₀ s : State} {o₁ : Bytes} (at : ℕ)
    (w : Written (put_by r taken more) put s₀ (take n (drop from (bytes o))) o to s o₁ at) where
  length-put_so_far : at ≤ n → length (take at (put_by r taken more (bytes_of s₀) (take n (drop from (bytes o))))) ≡ at
  length-put_so_far h =
      let d : Bytes = take n (drop from (bytes o)) in
      let lz : length (put_by r taken more (bytes_of s₀) d) ≡ n = length-put r hr hs taken more d (bytes_of s₀) (length-bytes s₀) ∙ length_part (bytes o) from n m.0 in
      length-take-le at _ (omega arith)

  pub left_in : at ≤ n → Left (bytes o₁) (from + at) n (take n (drop from (bytes o))) at
  left_in h =
      let e = unread bytes puts from n to o m _ at (length-put_so_far h) w.put_so_far h in
      record {
        long = length_part (bytes o) from n m.0;
        block = λ k g. ap (take k) (e.1 ∙ sym (drop-drop at from (bytes o))) ∙ sym (part-part (drop from (bytes o)) n at k g);
      }

  pub room_in : (l : ℕ) → at + l ≤ n → length o₁ ≡ length o → Room bytes needs put (from + at) l o₁ (to + at)
  room_in l h = room_left bytes puts from n to o m _ at (length-put_so_far (omega arith)) w.put_so_far l h

-- ---- a block that is copied, for whoever puts a message over its own ciphertext so
-- b₁ is b with at bytes written at its front. A block of it that begins behind them is copied: it is still that of b
pub copied : (block b z : Bytes) (at i k j : ℕ) {b₁ block₁ : Bytes} → b₁ ≡ put_bytes b 0 (take at z) → block₁ ≡ put_bytes block 0 (take j (drop i b₁)) → j ≡ k
    → at ≤ i → i + k ≤ length b → k ≤ length block → take k block₁ ≡ take k (drop i b)
copied block b z at i k j {b₁} {block₁} eb e ej h hb hk =
    let l : length (take at z) ≤ at = rw length-take (omega arith) in
    let d : drop i b₁ ≡ drop i b = ap (drop i) eb ∙ behind-put b 0 (take at z) i (omega arith) (omega arith) in
    ap (take k) (e ∙ ap₂ (λ (j : ℕ) (d : Bytes). put_bytes block 0 (take j d)) ej d)
    ∙ take_put block 0 (take k (drop i b)) k (rw (length_part b i k hb) (omega arith)) (omega arith)
