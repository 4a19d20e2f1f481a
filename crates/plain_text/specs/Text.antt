-- Text as bytes, and numbers as text.
-- Assumes nothing.
use Rattle.std.specs.Prelude.{cond, ℕ, zero, suc, ◌+◌, ◌/◌, ◌%◌, ltb}
use mathlib.Core.List as list
use Prim.Native.Char.{code}
use Prim.Native.String.{String, [], ◌∷◌}
use Rattle.bytes_le.specs.Bytes.{Bytes}

-- the bytes of a text in ASCII
abbrev pub ascii : String → Bytes
ascii [] = list.[]
ascii (c ∷ s) = list.◌∷◌ (code c) (ascii s)

abbrev pub ascii_digit : ℕ → ℕ
ascii_digit n = 48 + n

-- the digits of n, at most k, before `after`: the last one is found first
abbrev pub digits_before : ℕ → ℕ → Bytes → Bytes
digits_before zero n after = after
digits_before (suc k) n after = cond (ltb n 10) (list.◌∷◌ (ascii_digit n) after) (digits_before k (n / 10) (list.◌∷◌ (ascii_digit (n % 10)) after))

-- a number below 2^64 has at most so many digits
abbrev pub max_digits : ℕ
max_digits = 20

-- such a number in decimal digits, with no zero in front
unfoldable pub decimal : ℕ → Bytes
decimal n = digits_before max_digits n list.[]

-- a word and a number
abbrev pub field : Bytes → ℕ → Bytes
field word n = list.◌++◌ word (decimal n)
