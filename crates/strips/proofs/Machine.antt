-- Strips give what whole sealing gives: the machine of single bytes, block by block, and over a whole message.
-- Assumes nothing.
use mathlib.Core.Path.{◌≡◌, refl, sym, ap, ap₂, ◌∙◌}
use mathlib.Core.Bool.{Bool, true, false, cond}
use mathlib.Core.List.{[], ◌∷◌, ◌++◌, append_assoc, append-nil}
use mathlib.Core.Logic.{⊎_elim}
use Prim.Native.Nat.{ℕ, zero, suc, ◌+◌, ◌%◌, ◌≤◌, ◌<◌, zero-le}
use native.Mathlib.Nat.{add-zero, eq-or-lt_of_le, mod-lt}
use native.Mathlib.Omega.{arith}
use borrow.Author.Tests.{eq-eqb, ne_eqb}
use lib.Bits.{bit_xor}
use lib.Dec.{eqb}
use lib.ListN.{length, get_or, take, drop, length-append, length-drop, length-set, take-append-drop}
use lib.Seq.{length-take-le}
use Rattle.bytes_le.specs.Bytes.{Bytes}
use Rattle.state_bytes.proofs.Lengths.{length-permuted}
use Rattle.blocks.specs.Sealing.{◌⊕₈◌, xor_at, xor_with, absorb, finish, absorb_message, encrypt, tag}
use Rattle.blocks.specs.WayLaws.{xor-none}
use Rattle.blocks.proofs.Xor.{get_or-xor-with, xor-snoc, xor-with-snoc}
use Rattle.blocks.proofs.Steps.{padded}
use Rattle.blocks.proofs.Blocks.{by_blocks, encrypt-last, encrypt-more, length-absorb, message-last, message-more}
use Rattle.strips.specs.Machine.{Held, held, make_room, step, cipher_byte, fed, fed_bytes, fill_of, ended}

-- ---- a strip after a strip
pub fed-join : (r : ℕ) (h : Held) (s t : Bytes) → fed r h (s ++ t) ≡ fed r (fed r h s) t
fed-join r h [] t = refl
fed-join r h (x ∷ s) t = fed-join r (step r h x) s t

pub bytes-join : (r : ℕ) (h : Held) (s t : Bytes) → fed_bytes r h (s ++ t) ≡ fed_bytes r h s ++ fed_bytes r (fed r h s) t
bytes-join r h [] t = refl
bytes-join r h (x ∷ s) t = ap (λ (l : Bytes). cipher_byte r h x ∷ l) (bytes-join r (step r h x) s t)

pub length-fed : (r : ℕ) (h : Held) (m : Bytes) → length (fed_bytes r h m) ≡ length m
length-fed r h [] = refl
length-fed r h (x ∷ m) = ap suc (length-fed r (step r h x) m)

-- ---- the state keeps its length
length-room : (r : ℕ) (h : Held) → length h.state ≡ 160 → length (make_room r h).state ≡ 160
unfolding make_room
length-room r h l = by (eqb h.fill r)
  where
    by : (b : Bool) → length (cond b (held (finish h.state r 1) 0) h).state ≡ 160
    by true = length-permuted 6 _
    by false = l

pub length-fed-state : (r : ℕ) (m : Bytes) (h : Held) → length h.state ≡ 160 → length (fed r h m).state ≡ 160
length-fed-state r [] h l = l
length-fed-state r (x ∷ m) h l = length-fed-state r m (step r h x) (simp length-set (length-room r h l))

module _ (r : ℕ) (hr : 0 < r) where
  -- ---- a block that is not full takes a byte as it is
  pub room_within : (v : Bytes) (n : ℕ) → n < r → make_room r (held v n) ≡ held v n
  unfolding make_room
  room_within v n h = let e : eqb n r ≡ false = ne_eqb n r (λ z. omega arith) in rw e refl

  -- and a full one is finished first
  pub room-full : (v : Bytes) → make_room r (held v r) ≡ held (finish v r 1) 0
  unfolding make_room
  room-full v = let e : eqb r r ≡ true = eq-eqb r r refl in rw e refl

  same-room : (g h : Held) (m : Bytes) → make_room r g ≡ make_room r h → 0 < length m → (fed r g m ≡ fed r h m) × (fed_bytes r g m ≡ fed_bytes r h m)
  same-room g h [] e l = absurd (omega arith)
  same-room g h (x ∷ m) e l =
      let s : step r g x ≡ step r h x = ap (λ (k : Held). held (xor_at k.state k.fill x) (k.fill + 1)) e in (
        ap (λ (k : Held). fed r k m) s,
        ap₂ (λ (y : ℕ) (k : Held). y ∷ fed_bytes r k m) (ap (λ (k : Held). bit_xor (get_or k.state k.fill 0) x) e) s,
      )

  pub across : (v m : Bytes) → 0 < length m
      → (fed r (held v r) m ≡ fed r (held (finish v r 1) 0) m) × (fed_bytes r (held v r) m ≡ fed_bytes r (held (finish v r 1) 0) m)
  across v m h = same-room (held v r) (held (finish v r 1) 0) m (room-full v ∙ sym (room_within (finish v r 1) 0 hr)) h

  -- ---- within a block that began at u: p is in it, q comes
  module _ (hs : r < 160) (u : Bytes) (hu : length u ≡ 160) where
    begun : Bytes → Held
    begun p = held (xor_with u p) (length p)

    turn : (p : Bytes) (x : ℕ) → length p < r
        → (step r (begun p) x ≡ begun (p ++ (x ∷ []))) × (cipher_byte r (begun p) x ≡ bit_xor (get_or u (length p) 0) x)
    unfolding begun
    turn p x h =
        let e = room_within (xor_with u p) (length p) h in
        let l : length p + 1 ≡ length (p ++ (x ∷ [])) = sym (length-append p (x ∷ [])) in (
          ap (λ (k : Held). held (xor_at k.state k.fill x) (k.fill + 1)) e ∙ ap₂ held (xor-with-snoc u p x (omega arith)) l,
          ap (λ (k : Held). bit_xor (get_or k.state k.fill 0) x) e ∙ ap (λ (y : ℕ). bit_xor y x) (get_or-xor-with u p),
        )

    within : (q p : Bytes) → length p + length q ≤ r
        → (fed r (begun p) q ≡ begun (p ++ q)) × ((u ⊕₈ p) ++ fed_bytes r (begun p) q ≡ u ⊕₈ (p ++ q))
    within [] p h = (ap begun (sym (append-nil p)), append-nil (u ⊕₈ p) ∙ ap (λ (p : Bytes). u ⊕₈ p) (sym (append-nil p)))
    within (x ∷ q) p h =
        let t = turn p x (omega arith) in
        let i = within q (p ++ (x ∷ [])) (rw length-append (omega arith)) in (
          ap (λ (k : Held). fed r k q) t.0 ∙ i.0 ∙ ap begun (append_assoc p (x ∷ []) q),
          ap₂ (λ (y : ℕ) (k : Held). (u ⊕₈ p) ++ (y ∷ fed_bytes r k q)) t.1 t.0
              ∙ sym (append_assoc (u ⊕₈ p) (bit_xor (get_or u (length p) 0) x ∷ []) (fed_bytes r (begun (p ++ (x ∷ []))) q))
              ∙ ap (λ (l : Bytes). l ++ fed_bytes r (begun (p ++ (x ∷ []))) q) (sym (xor-snoc u p x (omega arith)))
              ∙ i.1 ∙ ap (λ (p : Bytes). u ⊕₈ p) (append_assoc p (x ∷ []) q),
        )

    -- a block, or less
    pub fed-last : (m : Bytes) → length m ≤ r → fed r (held u 0) m ≡ held (xor_with u m) (length m)
    unfolding begun
    fed-last m h = (within m [] (omega arith)).0

    pub bytes-last : (m : Bytes) → length m ≤ r → fed_bytes r (held u 0) m ≡ u ⊕₈ m
    unfolding begun
    bytes-last m h = ap (λ (l : Bytes). l ++ fed_bytes r (held u 0) m) (sym (xor-none u)) ∙ (within m [] (omega arith)).1

    -- a full block, and more
    full_block : (m : Bytes) → r < length m → finish (xor_with u (take r m)) r 1 ≡ absorb u (take r m) 1
    full_block m h =
        padded u (take r m) (xor_with u (take r m)) r 1 (finish (xor_with u (take r m)) r 1) (length-take-le r m (omega arith)) (omega arith) refl refl

    more : (m : Bytes) → r < length m
        → (fed r (held u 0) m ≡ fed r (held (absorb u (take r m) 1) 0) (drop r m))
        × (fed_bytes r (held u 0) m ≡ (u ⊕₈ take r m) ++ fed_bytes r (held (absorb u (take r m) 1) 0) (drop r m))
    more m h =
        let lt : length (take r m) ≡ r = length-take-le r m (omega arith) in
        let e = sym (take-append-drop r m) in
        let f : fed r (held u 0) (take r m) ≡ held (xor_with u (take r m)) r = fed-last (take r m) (omega arith) ∙ ap (held (xor_with u (take r m))) lt in
        let a = across (xor_with u (take r m)) (drop r m) (rw length-drop (omega arith)) in
        let b = ap (λ (v : Bytes). held v 0) (full_block m h) in (
          ap (fed r (held u 0)) e ∙ fed-join r (held u 0) (take r m) (drop r m) ∙ ap (λ (k : Held). fed r k (drop r m)) f ∙ a.0
              ∙ ap (λ (k : Held). fed r k (drop r m)) b,
          ap (fed_bytes r (held u 0)) e ∙ bytes-join r (held u 0) (take r m) (drop r m)
              ∙ ap₂ (λ (l : Bytes) (k : Held). l ++ fed_bytes r k (drop r m)) (bytes-last (take r m) (omega arith)) f
              ∙ ap (λ (l : Bytes). (u ⊕₈ take r m) ++ l) (a.1 ∙ ap (λ (k : Held). fed_bytes r k (drop r m)) b),
        )

    pub fed-more : (m : Bytes) → r < length m → fed r (held u 0) m ≡ fed r (held (absorb u (take r m) 1) 0) (drop r m)
    fed-more m h = (more m h).0

    pub bytes-more : (m : Bytes) → r < length m
        → fed_bytes r (held u 0) m ≡ (u ⊕₈ take r m) ++ fed_bytes r (held (absorb u (take r m) 1) 0) (drop r m)
    bytes-more m h = (more m h).1

  -- ---- a whole message
  pub whole-bytes : r < 160 → (m u : Bytes) → length u ≡ 160 → fed_bytes r (held u 0) m ≡ encrypt r u m
  whole-bytes hs =
      by_blocks r hr (λ (m : Bytes). (u : Bytes) → length u ≡ 160 → fed_bytes r (held u 0) m ≡ encrypt r u m)
      (λ m h u hu. bytes-last hs u hu m h ∙ sym (encrypt-last r hr u m h))
      (λ m h ih u hu.
      bytes-more hs u hu m h
      ∙ ap (λ (l : Bytes). (u ⊕₈ take r m) ++ l) (ih (absorb u (take r m) 1) (length-absorb u (take r m) 1))
      ∙ sym (encrypt-more r hr u m h))

  pub whole-tag : r < 160 → (m u : Bytes) → length u ≡ 160 → ended (fed r (held u 0) m) ≡ tag (absorb_message r u m)
  whole-tag hs =
      by_blocks r hr (λ (m : Bytes). (u : Bytes) → length u ≡ 160 → ended (fed r (held u 0) m) ≡ tag (absorb_message r u m))
      (λ m h u hu.
      ap ended (fed-last hs u hu m h)
      ∙ ap tag (padded u m (xor_with u m) (length m) 0 (finish (xor_with u m) (length m) 0) refl (omega arith) refl refl ∙ sym (message-last r hr u m h)))
      (λ m h ih u hu.
      ap ended (fed-more hs u hu m h)
      ∙ ih (absorb u (take r m) 1) (length-absorb u (take r m) 1)
      ∙ ap tag (sym (message-more r hr u m h)))

  -- ---- the fill follows from the count
  pub fill-bound : (n : ℕ) → fill_of r n ≤ r
  fill-bound zero = zero-le
  fill-bound (suc n) = let h : n % r < r = mod-lt n hr in omega arith

-- ---- the fill of the count, in blocks of 128
pub fill_step : (n : ℕ) → fill_of 128 (suc n) ≡ cond (eqb (fill_of 128 n) 128) 0 (fill_of 128 n) + 1
fill_step zero = refl
fill_step (suc n) =
    ⊎_elim
    (λ (e : n % 128 + 1 ≡ 128). rw (eq-eqb (n % 128 + 1) 128 e) (omega arith))
    (λ (h : n % 128 + 1 < 128). rw (ne_eqb (n % 128 + 1) 128 (λ z. omega arith)) (omega arith))
    (eq-or-lt_of_le (fill-bound 128 (omega arith) (suc n)))

room-fill : (h : Held) → (make_room 128 h).fill ≡ cond (eqb h.fill 128) 0 h.fill
unfolding make_room
room-fill h = by (eqb h.fill 128)
  where
    by : (b : Bool) → (cond b (held (finish h.state 128 1) 0) h).fill ≡ cond b 0 h.fill
    by true = refl
    by false = refl

pub fed-fill : (m v : Bytes) (n : ℕ) → (fed 128 (held v (fill_of 128 n)) m).fill ≡ fill_of 128 (n + length m)
fed-fill [] v n = ap (fill_of 128) (sym (add-zero n))
fed-fill (x ∷ m) v n =
    let h : Held = held v (fill_of 128 n) in
    let e : suc n + length m ≡ n + length (x ∷ m) = omega arith in
    ap (λ (k : ℕ). (fed 128 (held (xor_at (make_room 128 h).state (make_room 128 h).fill x) k) m).fill) (ap (λ (k : ℕ). k + 1) (room-fill h) ∙ sym (fill_step n))
    ∙ fed-fill m (xor_at (make_room 128 h).state (make_room 128 h).fill x) (suc n)
    ∙ ap (fill_of 128) e
