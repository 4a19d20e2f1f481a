-- What a word more does to a state, and to the bytes that are put out.
-- Assumes nothing.
use mathlib.Core.Path.{◌≡◌, refl, sym, ap, ap₂, ◌∙◌}
use mathlib.Core.List.{[], ◌∷◌, ◌++◌}
use Prim.Native.Nat.{ℕ, ◌+◌, ◌≤◌}
use native.Mathlib.Nat.{le_refl}
use native.Mathlib.Omega.{arith}
use Rattle.std.proofs.lemmas.List.{nil_from_length}
use lib.ListN.{length, take, drop, length-drop}
use lib.Seq.{drop-drop, take-add}
use Rattle.bytes_le.specs.Bytes.{Bytes, put_bytes}
use Rattle.bytes_le.proofs.Laws.{length_part}
use Rattle.blocks.specs.Sealing.{◌⊕₈◌, xor_with}
use Rattle.blocks.specs.Ways.{Puts, Room, Takes}
use Rattle.blocks.specs.WayLaws.{length-xor, xor-append, xor-none}
use Rattle.blocks.proofs.Runs.{xor-with-run}

-- the bytes past those that were xored stay
drop-xor-with : (v x : Bytes) → drop (length x) (xor_with v x) ≡ drop (length x) v
drop-xor-with v [] = refl
drop-xor-with [] (y ∷ x) = refl
drop-xor-with (a ∷ v) (y ∷ x) = drop-xor-with v x

-- ---- t is v, into whose first j bytes x was xored
module _ (v x t : Bytes) (j : ℕ) (hx : length x ≡ j) (et : t ≡ xor_with v x) where
  left : drop j t ≡ drop j v
  left = ap (drop j) et ∙ rw hx at (drop-xor-with v x)

  -- the bytes y, which come next, are xored in too
  next : (y t₁ : Bytes) → j + length y ≤ length v → t₁ ≡ put_bytes t j (drop j t ⊕₈ y) → t₁ ≡ xor_with v (x ++ y)
  next y t₁ h e =
      e ∙ ap₂ (λ (b : Bytes) (k : ℕ). put_bytes b k (drop k b ⊕₈ y)) et (sym hx)
      ∙ xor-with-run v x y (omega arith)

-- l bytes of d, from index i on
abbrev part : Bytes → ℕ → ℕ → Bytes
part d i l = take l (drop i d)

part-more : (d : Bytes) (i j l n : ℕ) → j + l ≡ n → part d i n ≡ part d i j ++ part d (i + j) l
part-more d i j l n e = ap (part d i) (sym e) ∙ take-add j l (drop i d) ∙ ap (λ (b : Bytes). part d i j ++ take l b) (drop-drop j i d)

-- ---- room for n bytes, of which the first j are put: x
module _ (bytes : Bytes → Bytes) {needs : ℕ → ℕ} {put : Bytes → ℕ → Bytes → Bytes} (puts : Puts needs put)
    (at n to : ℕ) (o : Bytes) (m : Room bytes needs put at n o to) (x : Bytes) (j : ℕ) (lx : length x ≡ j) {o₁ : Bytes} (eo : o₁ ≡ put o to x) where
  -- the others are not yet read
  pub unread : j ≤ n → (length (bytes o₁) ≡ length (bytes o)) × (drop (at + j) (bytes o₁) ≡ drop (at + j) (bytes o))
  unread h =
      let f = puts.fewer (to + j) (to + n) (omega arith) in
      rw (lx, sym eo) at (m.4 o x at to (le_refl at) (omega arith) (rw lx (omega (arith, f, m.2))))

  -- room for l more
  pub room_left : (l : ℕ) → j + l ≤ n → length o₁ ≡ length o → Room bytes needs put (at + j) l o₁ (to + j)
  room_left l h e =
      let f = puts.fewer (to + j + l) (to + n) (omega arith) in
      let u = unread (omega arith) in
      (omega (arith, u.0, m.0), omega (arith, m.1), omega (arith, f, m.2), omega (arith, m.3), λ o b i k g e. m.4 o b i k (omega arith) (omega arith))

-- nothing is taken and put yet
pub none_yet : {taken : Bytes → Bytes → Bytes} → Takes taken → {needs : ℕ → ℕ} {put : Bytes → ℕ → Bytes → Bytes} → Puts needs put → (v o : Bytes) (to : ℕ)
    → (v ≡ xor_with v (taken v [])) × (o ≡ put o to (v ⊕₈ []))
none_yet {taken} laws {needs} {put} puts v o to =
    let e : taken v [] ≡ [] = nil_from_length (taken v []) (laws.sized v [] (omega arith)) in
    (ap (xor_with v) (sym e), puts.none o to ∙ ap (put o to) (sym (xor-none v)))

-- ---- of n bytes, the first j are taken and put, and the other l are those of the next word
module _ {taken : Bytes → Bytes → Bytes} (laws : Takes taken) (bytes : Bytes → Bytes) {needs : ℕ → ℕ} {put : Bytes → ℕ → Bytes → Bytes} (puts : Puts needs put)
    (i n to : ℕ) (o : Bytes) (m : Room bytes needs put i n o to) (j l : ℕ) (h : j + l ≤ n) (v : Bytes) (hv : n ≤ length v)
    {o₁ : Bytes} (eo : o₁ ≡ put o to (v ⊕₈ part (bytes o) i j)) where
  lp : length (part (bytes o) i j) ≡ j
  lp = length_part (bytes o) i j (omega (arith, m.0))

  lo : length (v ⊕₈ part (bytes o) i j) ≡ j
  lo = let ep : length (part (bytes o) i j) ≡ j = lp in length-xor v (part (bytes o) i j) (omega arith) ∙ ep

  pub next_room : length o₁ ≡ length o → Room bytes needs put (i + j) l o₁ (to + j)
  next_room = room_left bytes puts i n to o m (v ⊕₈ part (bytes o) i j) j lo eo l h

  pub one-more : {t t₁ o₂ : Bytes} → t ≡ xor_with v (taken v (part (bytes o) i j))
      → (t₁ ≡ put_bytes t j (drop j t ⊕₈ taken (drop j t) (part (bytes o₁) (i + j) l))) × (o₂ ≡ put o₁ (to + j) (drop j t ⊕₈ part (bytes o₁) (i + j) l))
      → (k : ℕ) → j + l ≡ k → (t₁ ≡ xor_with v (taken v (part (bytes o) i k))) × (o₂ ≡ put o to (v ⊕₈ part (bytes o) i k))
  one-more {t} et b k e =
      let d : Bytes = bytes o in
      let p : Bytes = part d i j in
      let q : Bytes = part d (i + j) l in
      let r : Bytes = drop j v in
      let ep : length p ≡ j = lp in
      let lq : length q ≡ l = length_part d (i + j) l (omega (arith, m.0)) in
      let hq : length q ≤ length r = rw length-drop (omega arith) in
      let lx : length (taken v p) ≡ j = laws.sized v p (omega arith) ∙ ep in
      let ly : length (taken r q) ≡ l = laws.sized r q hq ∙ lq in
      let eq : part (bytes o₁) (i + j) l ≡ q = ap (take l) (unread bytes puts i n to o m (v ⊕₈ p) j lo eo (omega arith)).1 in
      let s : part d i k ≡ p ++ q = part-more d i j l k e in
      let f = puts.fewer (to + k) (to + n) (omega arith) in
      let er : drop j t ≡ r = left v (taken v p) t j lx et in
      let en : j + l ≡ length (v ⊕₈ p) + length (r ⊕₈ q) = ap₂ (λ (a b : ℕ). a + b) (sym lo) (sym (length-xor r q hq ∙ lq)) in (
        next v (taken v p) t j lx et (taken r q) _ (omega arith) (b.0 ∙ ap₂ (λ (r q : Bytes). put_bytes t j (drop j t ⊕₈ taken r q)) er eq)
            ∙ ap (xor_with v) (sym (ap (taken v) s ∙ rw ep at (laws.append v p q))),
        b.1 ∙ ap₂ (λ (r q : Bytes). put o₁ (to + j) (r ⊕₈ q)) er eq
            ∙ ap₂ (λ (o : Bytes) (k : ℕ). put o (to + k) (r ⊕₈ q)) eo (sym lo)
            ∙ puts.append o (v ⊕₈ p) (r ⊕₈ q) to (rw (sym en, e) (omega (arith, f, m.2)))
            ∙ ap (put o to) (sym (ap (λ (b : Bytes). v ⊕₈ b) s ∙ rw ep at (xor-append v p q))),
      )
