-- The byte view is the paper's: bits are numbered as in 003, 2.3 and 2.7, and 01, "The permutation": bit z of word number w is state bit 64w + z, and byte j of a
-- block covers bits 8j to 8j + 7, low bit first. A padded block has the block's bits, the frame bit, a 1, and zeros; xoring bytes is xoring bits.
-- Assumes nothing.
use Rattle.std.specs.Prelude.{◌≡◌, Bool, true, false, ℕ, ◌+◌, ◌*◌, ◌/◌, ◌%◌, ◌≤◌, ◌<◌, eqb, length, get_or}
use Rattle.bits.specs.Bits.{bit, ◌⊕◌}
use Rattle.bytes_le.specs.Bytes.{Bytes, AllBytes}
use Rattle.permutation.specs.State.{at, state}
use Rattle.state_bytes.specs.StateBytes.{bytes_of, state_of}
use Rattle.blocks.specs.Sealing.{◌⊕₈◌, xor_with, pad}

-- bit i of a run of bytes; past its end there are zeros
abbrev pub bit_of : Bytes → ℕ → Bool
bit_of b i = bit (get_or b (i / 8) 0) (i % 8)

pub record PaperBits : Type 0 where
  -- v[64(x + 4y) + z] = S[x][y][z] (003, 2.3)
  pub state_bits : (S : ℕ → ℕ → ℕ) (x y z : ℕ) → x < 4 → y < 5 → z < 64 → bit_of (bytes_of (state S)) (64 * (x + 4 * y) + z) ≡ bit (S x y) z
  -- and back, of the state whose bytes are v
  pub bits_state : (v : Bytes) → AllBytes v → (x y z : ℕ) → x < 4 → y < 5 → z < 64 → bit (at (state_of v) x y) z ≡ bit_of v (64 * (x + 4 * y) + z)
  -- a block of L bytes, L = length b, with the frame bit f
  pub pad_block : (b : Bytes) (f i : ℕ) → i < 8 * length b → bit_of (pad b f) i ≡ bit_of b i
  pub pad_frame : (b : Bytes) (f : ℕ) → f < 2 → bit_of (pad b f) (8 * length b) ≡ eqb f 1
  pub pad_one : (b : Bytes) (f : ℕ) → f < 2 → bit_of (pad b f) (8 * length b + 1) ≡ true
  pub pad_zeros : (b : Bytes) (f : ℕ) → f < 2 → (i : ℕ) → bit_of (pad b f) (8 * length b + (2 + i)) ≡ false
  pub xor_bits : (v b : Bytes) (i : ℕ) → i < 8 * length v → bit_of (xor_with v b) i ≡ bit_of v i ⊕ bit_of b i
  -- the same of a ciphertext
  pub cipher_bits : (v b : Bytes) (i : ℕ) → length b ≤ length v → i < 8 * length b → bit_of (v ⊕₈ b) i ≡ bit_of v i ⊕ bit_of b i
