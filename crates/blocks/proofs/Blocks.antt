-- Data in blocks: each function over all blocks, by its first block and the rest.
-- Assumes nothing.
use mathlib.Core.Path.{◌≡◌, refl, sym, ap, ap₂, ◌∙◌}
use Prim.Native.Nat.{ℕ, zero, suc, ◌<◌, ◌+◌, ◌-◌, ◌*◌, ◌/◌, ◌≤◌}
use native.Mathlib.Nat.{le_refl, div-eq_of_lt, add-mul-div_right, one-mul}
use native.Mathlib.Omega.{arith}
use mathlib.Core.Logic.{⊎_elim}
use mathlib.Core.List.{◌++◌}
use lib.ListN.{length, take, drop, length-append, length-drop}
use lib.Seq.{length-take-le, take_at, drop_at}
use Rattle.bytes_le.specs.Bytes.{Bytes}
use Rattle.bits.proofs.Cases.{le-or-lt}
use Rattle.state_bytes.proofs.Lengths.{length-permuted}
use Rattle.blocks.specs.Sealing.{◌⊕₈◌, absorb, absorb_associated, absorb_blocks, absorb_message, blocks_before, decrypt, decrypt_blocks, encrypt, encrypt_blocks, pad, xor_with}
use Rattle.blocks.specs.Ways.{put_blocks, put_by, taken_blocks, taken_by}
use Rattle.blocks.specs.WayLaws.{length-xor}
use Rattle.blocks.proofs.Xor.{xor-twice}

pub length-absorb : (v b : Bytes) (f : ℕ) → length (absorb v b f) ≡ 160
unfolding absorb
length-absorb v b f = length-permuted 6 (xor_with v (pad b f))

module _ (r : ℕ) (hr : 0 < r) where
  -- ---- how many blocks stand before the last
  pub blocks-before-last : (d : Bytes) → length d ≤ r → blocks_before r (length d) ≡ 0
  unfolding blocks_before
  blocks-before-last d h = div-eq_of_lt (omega arith)

  pub blocks-before-more : (d : Bytes) → r < length d → blocks_before r (length d) ≡ suc (blocks_before r (length (drop r d)))
  unfolding blocks_before
  blocks-before-more d h =
      let e : length d - 1 ≡ (length (drop r d) - 1) + 1 * r = simp (length-drop, one-mul) (omega arith) in
      ap (λ (n : ℕ). n / r) e ∙ add-mul-div_right (length (drop r d) - 1) 1 hr ∙ (omega arith)

  -- what holds of a last block, and of data where it holds of all but the first block, holds of all data
  module _ (Q : Bytes → Type 0) (last : (d : Bytes) → length d ≤ r → Q d) (more : (d : Bytes) → r < length d → Q (drop r d) → Q d) where
    fuelled : (n : ℕ) (d : Bytes) → length d ≤ n → Q d
    fuelled zero d h = last d (omega arith)
    fuelled (suc n) d h =
        ⊎_elim (λ (l : length d ≤ r). last d l)
        (λ (g : r < length d). more d g (fuelled n (drop r d) (rw length-drop (omega arith))))
        (le-or-lt (length d) r)

    pub by_blocks : (d : Bytes) → Q d
    by_blocks d = fuelled (length d) d (le_refl (length d))

  -- ---- the functions over all blocks
  module _ (taken : Bytes → Bytes → Bytes) (more : ℕ) where
    pub taken-last : (end : ℕ) (v d : Bytes) → length d ≤ r → taken_by r taken more end v d ≡ absorb v (taken v d) end
    unfolding taken_by
    taken-last end v d h = rw (blocks-before-last d h)

    pub taken-more : (end : ℕ) (v d : Bytes) → r < length d → taken_by r taken more end v d ≡ taken_by r taken more end (absorb v (taken v (take r d)) more) (drop r d)
    unfolding taken_by
    taken-more end v d h = rw (blocks-before-more d h)

    pub put-last : (v d : Bytes) → length d ≤ r → put_by r taken more v d ≡ v ⊕₈ d
    unfolding put_by
    put-last v d h = rw (blocks-before-last d h)

    pub put-more : (v d : Bytes) → r < length d
        → put_by r taken more v d ≡ (v ⊕₈ take r d) ++ put_by r taken more (absorb v (taken v (take r d)) more) (drop r d)
    unfolding put_by
    put-more v d h = rw (blocks-before-more d h)

    pub length-taken : (end : ℕ) (d v : Bytes) → length (taken_by r taken more end v d) ≡ 160
    length-taken end =
        by_blocks (λ (d : Bytes). (v : Bytes) → length (taken_by r taken more end v d) ≡ 160)
        (λ d h v. ap length (taken-last end v d h) ∙ length-absorb v (taken v d) end)
        (λ d h ih v. ap length (taken-more end v d h) ∙ ih (absorb v (taken v (take r d)) more))

  -- ---- sealing takes the bytes themselves
  seal-blocks : (more end k : ℕ) (v d : Bytes) → taken_blocks r (λ (v b : Bytes). b) more end k v d ≡ absorb_blocks r more end k v d
  seal-blocks more end zero v d = refl
  seal-blocks more end (suc k) v d = seal-blocks more end k (absorb v (take r d) more) (drop r d)

  pub associated-taken : (v d : Bytes) → taken_by r (λ (v b : Bytes). b) 0 1 v d ≡ absorb_associated r v d
  unfolding taken_by absorb_associated
  associated-taken v d = seal-blocks 0 1 (blocks_before r (length d)) v d

  pub message-taken : (v d : Bytes) → taken_by r (λ (v b : Bytes). b) 1 0 v d ≡ absorb_message r v d
  unfolding taken_by absorb_message
  message-taken v d = seal-blocks 1 0 (blocks_before r (length d)) v d

  encrypt-blocks : (k : ℕ) (v d : Bytes) → put_blocks r (λ (v b : Bytes). b) 1 k v d ≡ encrypt_blocks r k v d
  encrypt-blocks zero v d = refl
  encrypt-blocks (suc k) v d = ap (λ (b : Bytes). (v ⊕₈ take r d) ++ b) (encrypt-blocks k (absorb v (take r d) 1) (drop r d))

  pub encrypt-put : (v d : Bytes) → put_by r (λ (v b : Bytes). b) 1 v d ≡ encrypt r v d
  unfolding put_by encrypt
  encrypt-put v d = encrypt-blocks (blocks_before r (length d)) v d

  decrypt-blocks : (k : ℕ) (v d : Bytes) → put_blocks r ◌⊕₈◌ 1 k v d ≡ decrypt_blocks r k v d
  decrypt-blocks zero v d = refl
  decrypt-blocks (suc k) v d = ap (λ (b : Bytes). (v ⊕₈ take r d) ++ b) (decrypt-blocks k (absorb v (v ⊕₈ take r d) 1) (drop r d))

  pub decrypt-put : (v d : Bytes) → put_by r ◌⊕₈◌ 1 v d ≡ decrypt r v d
  unfolding put_by decrypt
  decrypt-put v d = decrypt-blocks (blocks_before r (length d)) v d

  pub message-last : (v d : Bytes) → length d ≤ r → absorb_message r v d ≡ absorb v d 0
  message-last v d h = sym (message-taken v d) ∙ taken-last (λ (v b : Bytes). b) 1 0 v d h

  pub message-more : (v d : Bytes) → r < length d → absorb_message r v d ≡ absorb_message r (absorb v (take r d) 1) (drop r d)
  message-more v d h = sym (message-taken v d) ∙ taken-more (λ (v b : Bytes). b) 1 0 v d h ∙ message-taken _ _

  pub length-associated : (v d : Bytes) → length (absorb_associated r v d) ≡ 160
  length-associated v d = ap length (sym (associated-taken v d)) ∙ length-taken (λ (v b : Bytes). b) 0 1 d v

  pub length-message : (v d : Bytes) → length (absorb_message r v d) ≡ 160
  length-message v d = ap length (sym (message-taken v d)) ∙ length-taken (λ (v b : Bytes). b) 1 0 d v

  pub encrypt-last : (v d : Bytes) → length d ≤ r → encrypt r v d ≡ v ⊕₈ d
  encrypt-last v d h = sym (encrypt-put v d) ∙ put-last (λ (v b : Bytes). b) 1 v d h

  pub encrypt-more : (v d : Bytes) → r < length d
      → encrypt r v d ≡ (v ⊕₈ take r d) ++ encrypt r (absorb v (take r d) 1) (drop r d)
  encrypt-more v d h = sym (encrypt-put v d) ∙ put-more (λ (v b : Bytes). b) 1 v d h ∙ ap (λ (b : Bytes). (v ⊕₈ take r d) ++ b) (encrypt-put _ _)

  -- ---- a block is shorter than the state
  module _ (hs : r < 160) where
    length-first : (v d : Bytes) → length v ≡ 160 → r < length d → length (v ⊕₈ take r d) ≡ r
    length-first v d hv h =
        let e : length (take r d) ≡ r = length-take-le r d (omega arith) in
        length-xor v (take r d) (omega arith) ∙ e

    pub length-put : (taken : Bytes → Bytes → Bytes) (more : ℕ) (d v : Bytes) → length v ≡ 160 → length (put_by r taken more v d) ≡ length d
    length-put taken more =
        by_blocks (λ (d : Bytes). (v : Bytes) → length v ≡ 160 → length (put_by r taken more v d) ≡ length d)
        (λ d h v hv. ap length (put-last taken more v d h) ∙ length-xor v d (omega arith))
        (λ d h ih v hv.
        let u : Bytes = absorb v (taken v (take r d)) more in
        ap length (put-more taken more v d h)
        ∙ length-append (v ⊕₈ take r d) (put_by r taken more u (drop r d))
        ∙ ap₂ (λ (a b : ℕ). a + b) (length-first v d hv h) (ih u (length-absorb v (taken v (take r d)) more) ∙ length-drop r d)
        ∙ (omega arith))

    -- ---- what was put out is data in its turn: where it is taken by `back`, the same is taken of it, and the data is put out again
    module _ (taken back : Bytes → Bytes → Bytes) (turned : (v b : Bytes) → length b ≤ length v → back v (v ⊕₈ b) ≡ taken v b) (more : ℕ) where
      module _ (v d : Bytes) (hv : length v ≡ 160) (h : r < length d) where
        put-first : take r (put_by r taken more v d) ≡ v ⊕₈ take r d
        put-first = ap (take r) (put-more taken more v d h) ∙ take_at (v ⊕₈ take r d) _ r (length-first v d hv h)

        put-rest : drop r (put_by r taken more v d) ≡ put_by r taken more (absorb v (taken v (take r d)) more) (drop r d)
        put-rest = ap (drop r) (put-more taken more v d h) ∙ drop_at (v ⊕₈ take r d) _ r (length-first v d hv h)

        short : length (take r d) ≤ length v
        short = let e : length (take r d) ≡ r = length-take-le r d (omega arith) in omega arith

        back-first : back v (take r (put_by r taken more v d)) ≡ taken v (take r d)
        back-first = ap (back v) put-first ∙ turned v (take r d) short

      pub taken-back : (end : ℕ) (d v : Bytes) → length v ≡ 160 → taken_by r back more end v (put_by r taken more v d) ≡ taken_by r taken more end v d
      taken-back end =
          by_blocks (λ (d : Bytes). (v : Bytes) → length v ≡ 160 → taken_by r back more end v (put_by r taken more v d) ≡ taken_by r taken more end v d)
          (λ d h v hv.
          taken-last back more end v _ (rw (length-put taken more d v hv) h)
          ∙ ap (λ (b : Bytes). absorb v b end) (ap (back v) (put-last taken more v d h) ∙ turned v d (omega arith))
          ∙ sym (taken-last taken more end v d h))
          (λ d h ih v hv.
          taken-more back more end v _ (rw (length-put taken more d v hv) h)
          ∙ ap₂ (λ (a b : Bytes). taken_by r back more end (absorb v a more) b) (back-first v d hv h) (put-rest v d hv h)
          ∙ ih (absorb v (taken v (take r d)) more) (length-absorb v (taken v (take r d)) more)
          ∙ sym (taken-more taken more end v d h))

      pub put-back : (d v : Bytes) → length v ≡ 160 → put_by r back more v (put_by r taken more v d) ≡ d
      put-back =
          by_blocks (λ (d : Bytes). (v : Bytes) → length v ≡ 160 → put_by r back more v (put_by r taken more v d) ≡ d)
          (λ d h v hv.
          put-last back more v _ (rw (length-put taken more d v hv) h)
          ∙ ap (λ (c : Bytes). v ⊕₈ c) (put-last taken more v d h) ∙ xor-twice v d (omega arith))
          (λ d h ih v hv.
          let u : Bytes = absorb v (taken v (take r d)) more in
          put-more back more v _ (rw (length-put taken more d v hv) h)
          ∙ ap (λ (a : Bytes). (v ⊕₈ take r (put_by r taken more v d)) ++ put_by r back more (absorb v a more) (drop r (put_by r taken more v d))) (back-first v d hv h)
          ∙ ap₂ (λ (a b : Bytes). (v ⊕₈ a) ++ put_by r back more u b) (put-first v d hv h) (put-rest v d hv h)
          ∙ ap₂ (λ (a b : Bytes). a ++ b) (xor-twice v (take r d) (short v d hv h)) (ih u (length-absorb v (taken v (take r d)) more))
          ∙ lib.ListN.take-append-drop r d)

    -- ---- of a message and its ciphertext
    pub length-encrypt : (d v : Bytes) → length v ≡ 160 → length (encrypt r v d) ≡ length d
    length-encrypt d v hv = ap length (sym (encrypt-put v d)) ∙ length-put (λ (v b : Bytes). b) 1 d v hv

    pub length-decrypt : (d v : Bytes) → length v ≡ 160 → length (decrypt r v d) ≡ length d
    length-decrypt d v hv = ap length (sym (decrypt-put v d)) ∙ length-put ◌⊕₈◌ 1 d v hv

    -- decrypting undoes encrypting, and the other way round
    pub decrypt-encrypt : (d v : Bytes) → length v ≡ 160 → decrypt r v (encrypt r v d) ≡ d
    decrypt-encrypt d v hv =
        ap (decrypt r v) (sym (encrypt-put v d)) ∙ sym (decrypt-put v _) ∙ put-back (λ (v b : Bytes). b) ◌⊕₈◌ xor-twice 1 d v hv

    pub encrypt-decrypt : (d v : Bytes) → length v ≡ 160 → encrypt r v (decrypt r v d) ≡ d
    encrypt-decrypt d v hv =
        ap (encrypt r v) (sym (decrypt-put v d)) ∙ sym (encrypt-put v _) ∙ put-back ◌⊕₈◌ (λ (v b : Bytes). b) (λ v b h. refl) 1 d v hv

    -- the state after the message of a ciphertext
    pub checked-taken : (d v : Bytes) → length v ≡ 160 → taken_by r ◌⊕₈◌ 1 0 v d ≡ absorb_message r v (decrypt r v d)
    checked-taken d v hv =
        sym (ap (absorb_message r v) (sym (decrypt-put v d)) ∙ sym (message-taken v _) ∙ taken-back ◌⊕₈◌ (λ (v b : Bytes). b) (λ v b h. refl) 1 0 d v hv)
