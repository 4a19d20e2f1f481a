-- What absorbing, sealing and opening have in common (003, 2.6 to 2.9). Of the bytes b of a block, at the state v, `taken v b` is xored into v: b itself (2.7), or
-- of a ciphertext the message, v ⊕₈ b (2.9). What is put out, if anything is, is v ⊕₈ b. Only contracts of private functions name this file.
-- Assumes nothing.
use Rattle.std.specs.Prelude.{◌≡◌, [], ◌++◌, ℕ, zero, suc, ◌+◌, ◌≤◌, ◌<◌, length, take, drop}
use Rattle.bits.specs.Bits.{word_range}
use Rattle.bytes_le.specs.Bytes.{Bytes}
use Rattle.blocks.specs.Sealing.{◌⊕₈◌, absorb, blocks_before}

-- what is taken has as many bytes as the block, the state's bytes behind it do not matter, and bytes can be taken one run after the other
pub record Takes (taken : Bytes → Bytes → Bytes) : Type 0 where
  pub sized : (v b : Bytes) → length b ≤ length v → length (taken v b) ≡ length b
  pub front : (v b : Bytes) (n : ℕ) → length b ≤ n → taken (take n v) b ≡ taken v b
  pub append : (v b c : Bytes) → taken v (b ++ c) ≡ taken v b ++ taken (drop (length b) v) c

-- bytes can be put one run after the other; fewer bytes need no more room
pub record Puts (needs : ℕ → ℕ) (put : Bytes → ℕ → Bytes → Bytes) : Type 0 where
  pub fewer : (m n : ℕ) → m ≤ n → needs m ≤ needs n
  pub none : (o : Bytes) (to : ℕ) → o ≡ put o to []
  pub append : (o b c : Bytes) (to : ℕ) → needs (to + (length b + length c)) ≤ length o → put (put o to b) (to + length b) c ≡ put o to (b ++ c)

-- where bytes are read from index at on, and as many put from index to on, what is put leaves what is not yet read
abbrev pub Unread : (Bytes → Bytes) → (ℕ → ℕ) → (Bytes → ℕ → Bytes → Bytes) → ℕ → ℕ → Type 0
Unread bytes needs put at to =
    (o b : Bytes) (i j : ℕ) → at ≤ i → i + to ≡ j + at → needs (j + length b) ≤ length o
    → (length (bytes (put o j b)) ≡ length (bytes o)) × (drop (i + length b) (bytes (put o j b)) ≡ drop (i + length b) (bytes o))

-- n bytes can be read from index at on and put from index to on into out
abbrev pub Room : (Bytes → Bytes) → (ℕ → ℕ) → (Bytes → ℕ → Bytes → Bytes) → ℕ → ℕ → Bytes → ℕ → Type 0
Room bytes needs put at n out to =
    (at + n ≤ length (bytes out)) × (at + n < word_range) × (needs (to + n) ≤ length out) × (to + n < word_range) × Unread bytes needs put at to

module _ (r : ℕ) (taken : Bytes → Bytes → Bytes) (more : ℕ) where
  -- the state after k full blocks of r bytes with the frame bit `more`, and a last block with the frame bit `end`
  abbrev pub taken_blocks : ℕ → ℕ → Bytes → Bytes → Bytes
  taken_blocks end zero v d = absorb v (taken v d) end
  taken_blocks end (suc k) v d = taken_blocks end k (absorb v (taken v (take r d)) more) (drop r d)

  unfoldable pub taken_by : ℕ → Bytes → Bytes → Bytes
  taken_by end v d = taken_blocks end (blocks_before r (length d)) v d

  -- what is put out of those blocks
  abbrev pub put_blocks : ℕ → Bytes → Bytes → Bytes
  put_blocks zero v d = v ⊕₈ d
  put_blocks (suc k) v d = (v ⊕₈ take r d) ++ put_blocks k (absorb v (taken v (take r d)) more) (drop r d)

  unfoldable pub put_by : Bytes → Bytes → Bytes
  put_by v d = put_blocks (blocks_before r (length d)) v d
