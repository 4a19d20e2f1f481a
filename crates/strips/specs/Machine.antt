-- A message in strips (01, "Afterwards"), byte by byte, in blocks of r bytes. A block that is full waits until one more byte comes, for its frame bit says
-- whether it was the last.
-- Assumes nothing.
use Rattle.std.specs.Prelude.{cond, [], ◌∷◌, ℕ, zero, suc, ◌+◌, ◌%◌, eqb, get_or}
use Rattle.std.specs.Int.Bits.{bit_xor}
use Rattle.bytes_le.specs.Bytes.{Bytes}
use Rattle.blocks.specs.Sealing.{xor_at, finish, tag}

-- the state's bytes; the block that waits is xored in, and has `fill` bytes
pub record Held : Type 0 where
  pub state : Bytes
  pub fill : ℕ

abbrev pub held : Bytes → ℕ → Held
held v n = record { state = v; fill = n }

module _ (r : ℕ) where
  -- one more byte comes: a full block was not the last
  unfoldable pub make_room : Held → Held
  make_room h = cond (eqb h.fill r) (held (finish h.state r 1) 0) h

  abbrev pub step : Held → ℕ → Held
  step h x = held (xor_at (make_room h).state (make_room h).fill x) ((make_room h).fill + 1)

  abbrev pub cipher_byte : Held → ℕ → ℕ
  cipher_byte h x = bit_xor (get_or (make_room h).state (make_room h).fill 0) x

  -- after a strip
  abbrev pub fed : Held → Bytes → Held
  fed h [] = h
  fed h (x ∷ m) = fed (step h x) m

  -- the ciphertext of a strip
  abbrev pub fed_bytes : Held → Bytes → Bytes
  fed_bytes h [] = []
  fed_bytes h (x ∷ m) = cipher_byte h x ∷ fed_bytes (step h x) m

  -- how many bytes the last block has, of n bytes: byte number i of a message is byte i % r of its block
  abbrev pub fill_of : ℕ → ℕ
  fill_of zero = 0
  fill_of (suc n) = n % r + 1

-- the end: the block that waits is the last
abbrev pub ended : Held → Bytes
ended h = tag (finish h.state h.fill 0)
