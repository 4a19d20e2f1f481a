-- Lengths in bytes that hold under every variant (003, 2.2, 2.6 and 2.8; 01, "Sealing and opening").
-- Assumes nothing.
use Rattle.std.specs.Prelude.{ℕ}

-- the tag
abbrev pub tag_length : ℕ
tag_length = 16

-- the most that key, nonce and secret number have, each the length in one of the variants (`icepole/proofs/Bounds.antt`). A shorter nonce is filled up to
-- `max_nonce`
abbrev pub max_key : ℕ
max_key = 32

abbrev pub max_nonce : ℕ
max_nonce = 16

abbrev pub max_secret : ℕ
max_secret = 16

-- associated data and message are at most so many bytes each
abbrev pub max_length : ℕ
max_length = 67108864
