-- Opening gives back what was sealed, and accepts only what sealing gives: for all sizes with a block and a secret number shorter than the state.
-- Assumes nothing.
use mathlib.Core.Path.{◌≡◌, refl, sym, ap, ap₂, ◌∙◌}
use mathlib.Core.List.{[], ◌++◌}
use Prim.Native.Nat.{ℕ, ◌<◌, ◌+◌, ◌-◌, ◌≤◌}
use mathlib.Core.Bool.{Bool, true, false, cond}
use native.Mathlib.Omega.{arith}
use lib.Dec.{leb}
use lib.ListN.{length, take, drop, length-append, take-append-drop, length-drop}
use lib.Seq.{length-take-le, take_at, drop_at, drop-drop}
use borrow.Author.Tests.{leb-true}
use mathlib.Core.Option.{Option, some, none}
use Rattle.bytes_le.specs.Bytes.{Bytes, same}
use Rattle.bytes_le.proofs.Same.{same_self, same_true}
use Rattle.state_bytes.proofs.Lengths.{length-permuted}
use Rattle.blocks.specs.Sealing.{◌⊕₈◌, absorb, absorb_message, decrypt, encrypt, expected_tag, keyed, message_of, message_part, ready, ready_of, sealed}
use Rattle.blocks.specs.Sealing.{secret_of, secret_part, tag, tag_part}
use Rattle.blocks.specs.declared.Sizes.{Sizes}
use Rattle.blocks.proofs.Blocks.{decrypt-encrypt, encrypt-decrypt, length-associated, length-decrypt, length-encrypt, length-message}
use Rattle.blocks.specs.WayLaws.{length-xor}
use Rattle.blocks.proofs.Xor.{xor-twice}

cond-true : {A : Type 0} (b : Bool) (x : Option A) (y : A) → cond b x none ≡ some y → (b ≡ true) × (x ≡ some y)
cond-true true x y e = (refl, e)
cond-true false x y e = let z : ◌≡◌ {A = ℕ} 0 1 = cc in absurd (omega arith)

-- the secret number and the message, where the tag agrees
unfoldable pub opened : Sizes → Bytes → Bytes → Bytes → Bytes → Option (Bytes × Bytes)
opened q key nonce ad c =
    cond (leb (q.secret + 16) (length c))
    (cond (same (expected_tag q key nonce ad c) (tag_part c)) (some (secret_of q key nonce c, message_of q key nonce ad c)) none)
    none

pub length-keyed : (k n : Bytes) → length (keyed k n) ≡ 160
unfolding keyed
length-keyed k n = length-permuted _ _

module _ (q : Sizes) (hb : 0 < q.block) (hr : q.block < 160) (hs : q.secret < 160) where
  pub length-ready : (v s a : Bytes) → length (ready q.block v s a) ≡ 160
  unfolding ready
  length-ready v s a = length-associated q.block hb (absorb v s 0) a

  pub length-tag : (v m : Bytes) → length (tag (absorb_message q.block v m)) ≡ 16
  length-tag v m =
      let e : length (absorb_message q.block v m) ≡ 160 = length-message q.block hb v m in
      length-take-le 16 (absorb_message q.block v m) (omega arith)

  module _ (k n s a m : Bytes) (hl : length s ≡ q.secret) where
    v : Bytes
    v = keyed k n

    u : Bytes
    u = ready q.block (keyed k n) s a

    c₀ : Bytes
    c₀ = keyed k n ⊕₈ s

    c₁ : Bytes
    c₁ = encrypt q.block (ready q.block (keyed k n) s a) m

    c₂ : Bytes
    c₂ = tag (absorb_message q.block (ready q.block (keyed k n) s a) m)

    is-sealed : sealed q k n s a m ≡ c₀ ++ (c₁ ++ c₂)
    unfolding sealed c₀ c₁ c₂
    is-sealed = refl

    l₀ : length c₀ ≡ q.secret
    unfolding c₀
    l₀ = let e : length (keyed k n) ≡ 160 = length-keyed k n in length-xor (keyed k n) s (omega arith) ∙ hl

    l₁ : length c₁ ≡ length m
    unfolding c₁
    l₁ = length-encrypt q.block hb hr m _ (length-ready (keyed k n) s a)

    l₂ : length c₂ ≡ 16
    unfolding c₂
    l₂ = length-tag _ m

    pub length-sealed : length (sealed q k n s a m) ≡ q.secret + (length m + 16)
    length-sealed = rw is-sealed (simp (length-append, l₀, l₁, l₂))

    secret-part : secret_part q (sealed q k n s a m) ≡ c₀
    secret-part = rw is-sealed (take_at c₀ (c₁ ++ c₂) q.secret l₀)

    pub secret-of-sealed : secret_of q k n (sealed q k n s a m) ≡ s
    unfolding secret_of c₀
    secret-of-sealed =
        let e : length (keyed k n) ≡ 160 = length-keyed k n in
        ap (λ (b : Bytes). keyed k n ⊕₈ b) secret-part ∙ xor-twice (keyed k n) s (omega arith)

    ready-in : ready_of q k n a (sealed q k n s a m) ≡ u
    unfolding ready_of u
    ready-in = ap (λ (b : Bytes). ready q.block (keyed k n) b a) secret-of-sealed

    message-part : message_part q (sealed q k n s a m) ≡ c₁
    message-part =
        let e : length (sealed q k n s a m) - (q.secret + 16) ≡ length m = rw length-sealed (omega arith) in
        rw (e, is-sealed, drop_at c₀ (c₁ ++ c₂) q.secret l₀) (take_at c₁ c₂ (length m) l₁)

    pub message-of-sealed : message_of q k n a (sealed q k n s a m) ≡ m
    unfolding message_of c₁ u
    message-of-sealed =
        ap₂ (decrypt q.block) ready-in message-part
        ∙ decrypt-encrypt q.block hb hr m (ready q.block (keyed k n) s a) (length-ready (keyed k n) s a)

    tag_in : expected_tag q k n a (sealed q k n s a m) ≡ c₂
    unfolding expected_tag c₂ u
    tag_in = ap₂ (λ (w b : Bytes). tag (absorb_message q.block w b)) ready-in message-of-sealed

    tag-part : tag_part (sealed q k n s a m) ≡ c₂
    tag-part =
        let e : length (sealed q k n s a m) - 16 ≡ q.secret + length m = rw length-sealed (omega arith) in
        let d : drop (q.secret + length m) (c₀ ++ (c₁ ++ c₂)) ≡ c₂ =
        sym (drop-drop (length m) q.secret (c₀ ++ (c₁ ++ c₂)))
        ∙ ap (drop (length m)) (drop_at c₀ (c₁ ++ c₂) q.secret l₀) ∙ drop_at c₁ c₂ (length m) l₁ in
        rw (e, is-sealed) d

    pub tag-of-sealed : same (expected_tag q k n a (sealed q k n s a m)) (tag_part (sealed q k n s a m)) ≡ true
    tag-of-sealed = simp (tag_in, tag-part, same_self c₂)

  -- the lengths of what a sealed message holds
  module _ (k n a c : Bytes) (h : q.secret + 16 ≤ length c) where
    pub length-secret-of : length (secret_of q k n c) ≡ q.secret
    unfolding secret_of
    length-secret-of =
        let l : length (take q.secret c) ≡ q.secret = length-take-le q.secret c (omega arith) in
        let lk : length (keyed k n) ≡ 160 = length-keyed k n in
        length-xor (keyed k n) (take q.secret c) (omega arith) ∙ l

    pub length-message-of : length (message_of q k n a c) ≡ length c - (q.secret + 16)
    unfolding message_of ready_of
    length-message-of =
        length-decrypt q.block hb hr (message_part q c) _ (length-ready (keyed k n) (secret_of q k n c) a)
        ∙ length-take-le (length c - (q.secret + 16)) (drop q.secret c) (rw length-drop (omega arith))

  first : Option (Bytes × Bytes) → Bytes
  first none = []
  first (some x) = x.0

  second : Option (Bytes × Bytes) → Bytes
  second none = []
  second (some x) = x.1

  parts : (c : Bytes) → q.secret + 16 ≤ length c → secret_part q c ++ (message_part q c ++ tag_part c) ≡ c
  parts c h =
      let e : length c - 16 ≡ q.secret + (length c - (q.secret + 16)) = omega arith in
      ap (λ (l : Bytes). secret_part q c ++ (message_part q c ++ l))
      (ap (λ (i : ℕ). drop i c) e ∙ sym (drop-drop (length c - (q.secret + 16)) q.secret c))
      ∙ ap (λ (l : Bytes). secret_part q c ++ l) (take-append-drop (length c - (q.secret + 16)) (drop q.secret c))
      ∙ take-append-drop q.secret c

  -- opening accepts only what sealing gives
  pub seal-open : (k n a c s m : Bytes) → opened q k n a c ≡ some (s, m) → c ≡ sealed q k n s a m
  unfolding opened sealed secret_of ready_of message_of expected_tag first second
  seal-open k n a c s m e =
      let p = cond-true (leb (q.secret + 16) (length c)) _ (s, m) e in
      let p₂ = cond-true (same (expected_tag q k n a c) (tag_part c)) _ (s, m) p.1 in
      let h : q.secret + 16 ≤ length c = leb-true _ _ p.0 in
      let t : expected_tag q k n a c ≡ tag_part c = same_true _ _ p₂.0 in
      let es : secret_of q k n c ≡ s = ap first p₂.1 in
      let em : message_of q k n a c ≡ m = ap second p₂.1 in
      let lv : length (keyed k n) ≡ 160 = length-keyed k n in
      let lt : length (take q.secret c) ≡ q.secret = length-take-le q.secret c (omega arith) in
      let x₀ : keyed k n ⊕₈ secret_of q k n c ≡ secret_part q c = xor-twice (keyed k n) (secret_part q c) (omega arith) in
      let x₁ : encrypt q.block (ready_of q k n a c) (message_of q k n a c) ≡ message_part q c =
      encrypt-decrypt q.block hb hr (message_part q c) (ready_of q k n a c) (length-ready (keyed k n) (secret_of q k n c) a) in
      sym
      (ap₂ (λ (s m : Bytes). sealed q k n s a m) (sym es) (sym em)
      ∙ ap₂ (λ (b l : Bytes). b ++ (l ++ expected_tag q k n a c)) x₀ x₁
      ∙ ap (λ (l : Bytes). secret_part q c ++ (message_part q c ++ l)) t
      ∙ parts c h)
