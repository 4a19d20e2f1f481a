-- Sealing and opening (003, 2.6 to 2.11; 01, "Sealing and opening"), over the sizes of a variant. The state is its bytes.
-- Assumes nothing.
use Rattle.std.specs.Prelude.{[], ◌∷◌, ◌++◌, ℕ, zero, suc, ◌+◌, ◌-◌, ◌/◌, length, take, drop, replicate, get_or, set}
use Rattle.std.specs.Int.Bits.{bit_xor}
use Rattle.bytes_le.specs.Bytes.{Bytes}
use Rattle.state_bytes.specs.StateBytes.{permuted, start_bytes}
use Rattle.blocks.specs.declared.Sizes.{Sizes}
use Rattle.blocks.specs.Lengths.{tag_length, max_nonce}

-- ---- exclusive or
infixl 32 ◌⊕₈◌
-- the first bytes of v, as many as b has, xored with b (⊕ is of bits, ⊻ of words)
abbrev pub ◌⊕₈◌ : Bytes → Bytes → Bytes
[] ⊕₈ b = []
(x ∷ v) ⊕₈ [] = []
(x ∷ v) ⊕₈ (y ∷ b) = bit_xor x y ∷ (v ⊕₈ b)

-- v with b xored into its first bytes; the bytes after those stay
abbrev pub xor_with : Bytes → Bytes → Bytes
xor_with v [] = v
xor_with [] (y ∷ b) = []
xor_with (x ∷ v) (y ∷ b) = bit_xor x y ∷ xor_with v b

-- v with x xored into byte i
abbrev pub xor_at : Bytes → ℕ → ℕ → Bytes
xor_at v i x = set v i (bit_xor (get_or v i 0) x)

-- ---- one block (003, 2.7)
-- a block of L bytes gets its frame bit at bit 8L and a 1 at bit 8L + 1: bits 0 and 1 of byte L. The zeros that follow change nothing when xored in
abbrev pub padding : ℕ → ℕ
padding frame = frame + 2

abbrev pub pad : Bytes → ℕ → Bytes
pad b frame = b ++ (padding frame ∷ [])

-- the state after a block: it is padded and xored in, then P6
unfoldable pub absorb : Bytes → Bytes → ℕ → Bytes
absorb v b frame = permuted 6 (xor_with v (pad b frame))

-- the same, where the block's n bytes are xored in already
abbrev pub finish : Bytes → ℕ → ℕ → Bytes
finish v n frame = permuted 6 (xor_at v n (padding frame))

-- ---- data in blocks of r bytes
-- how many blocks stand before the last, for n bytes (01, "The paper leaves this open, and we fix it"). They are full; no data is one empty block; a positive
-- multiple of r has no block more
unfoldable pub blocks_before : ℕ → ℕ → ℕ
blocks_before r n = (n - 1) / r

module _ (r : ℕ) where
  -- the state after k full blocks with the frame bit `more`, and a last block with the frame bit `end`
  abbrev pub absorb_blocks : ℕ → ℕ → ℕ → Bytes → Bytes → Bytes
  absorb_blocks more end zero v d = absorb v d end
  absorb_blocks more end (suc k) v d = absorb_blocks more end k (absorb v (take r d) more) (drop r d)

  -- associated data: frame bit 1 for the last block, else 0
  unfoldable pub absorb_associated : Bytes → Bytes → Bytes
  absorb_associated v a = absorb_blocks 0 1 (blocks_before r (length a)) v a

  -- a message: frame bit 1 for each block but the last
  unfoldable pub absorb_message : Bytes → Bytes → Bytes
  absorb_message v m = absorb_blocks 1 0 (blocks_before r (length m)) v m

  -- the ciphertext of a message: each block is xored with the state, before padding
  abbrev pub encrypt_blocks : ℕ → Bytes → Bytes → Bytes
  encrypt_blocks zero v m = v ⊕₈ m
  encrypt_blocks (suc k) v m = (v ⊕₈ take r m) ++ encrypt_blocks k (absorb v (take r m) 1) (drop r m)

  unfoldable pub encrypt : Bytes → Bytes → Bytes
  encrypt v m = encrypt_blocks (blocks_before r (length m)) v m

  -- the message of a ciphertext
  abbrev pub decrypt_blocks : ℕ → Bytes → Bytes → Bytes
  decrypt_blocks zero v c = v ⊕₈ c
  decrypt_blocks (suc k) v c = (v ⊕₈ take r c) ++ decrypt_blocks k (absorb v (v ⊕₈ take r c) 1) (drop r c)

  unfoldable pub decrypt : Bytes → Bytes → Bytes
  decrypt v c = decrypt_blocks (blocks_before r (length c)) v c

-- ---- sealing
-- key and nonce are xored into the starting words from word 0 on, a nonce of 12 bytes with four zero bytes at its end; then P12 (003, 2.6, 2.10, 2.11)
unfoldable pub keyed : Bytes → Bytes → Bytes
keyed key nonce = permuted 12 (xor_with start_bytes (key ++ (nonce ++ replicate (max_nonce - length nonce) 0)))

-- the state after the secret-number block, which is empty in a variant without secret number, and the associated blocks
unfoldable pub ready : ℕ → Bytes → Bytes → Bytes → Bytes
ready r v secret ad = absorb_associated r (absorb v secret 0) ad

-- the tag: words 0 and 1 (003, 2.8)
abbrev pub tag : Bytes → Bytes
tag v = take tag_length v

-- a sealed message: the sealed secret number, the ciphertext and the tag
unfoldable pub sealed : Sizes → Bytes → Bytes → Bytes → Bytes → Bytes → Bytes
sealed q key nonce secret ad m =
    let v : Bytes = keyed key nonce in
    let u : Bytes = ready q.block v secret ad in
    (v ⊕₈ secret) ++ (encrypt q.block u m ++ tag (absorb_message q.block u m))

-- ---- opening (003, 2.9)
-- the three parts of a sealed message c
abbrev pub secret_part : Sizes → Bytes → Bytes
secret_part q c = take q.secret c

abbrev pub message_part : Sizes → Bytes → Bytes
message_part q c = take (length c - (q.secret + tag_length)) (drop q.secret c)

abbrev pub tag_part : Bytes → Bytes
tag_part c = drop (length c - tag_length) c

-- what c holds, whatever its tag: the secret number, the state after the associated blocks, the message, and the tag that belongs to them
unfoldable pub secret_of : Sizes → Bytes → Bytes → Bytes → Bytes
secret_of q key nonce c = keyed key nonce ⊕₈ secret_part q c

unfoldable pub ready_of : Sizes → Bytes → Bytes → Bytes → Bytes → Bytes
ready_of q key nonce ad c = ready q.block (keyed key nonce) (secret_of q key nonce c) ad

unfoldable pub message_of : Sizes → Bytes → Bytes → Bytes → Bytes → Bytes
message_of q key nonce ad c = decrypt q.block (ready_of q key nonce ad c) (message_part q c)

unfoldable pub expected_tag : Sizes → Bytes → Bytes → Bytes → Bytes → Bytes
expected_tag q key nonce ad c = tag (absorb_message q.block (ready_of q key nonce ad c) (message_of q key nonce ad c))
