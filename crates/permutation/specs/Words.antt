-- What private functions, and two internal ones (`sum`, `rotate_column`), do on whole words, 64 bit positions at once. No other public contract and no claim names this
-- file: `proofs/` leads from it to `Permutation`.
-- Assumes nothing.
use Rattle.std.specs.Prelude.{List, [], ◌∷◌, ℕ, get_or}
use Rattle.std.specs.Int.Bits.{bit_xor}
use Rattle.bits.specs.Bits.{bit, word}
use Rattle.permutation.specs.State.{tabulate}
use Rattle.permutation.specs.Permutation.{rotl, sbox}

infixl 32 ◌⊻◌
abbrev pub ◌⊻◌ : ℕ → ℕ → ℕ
a ⊻ b = bit_xor a b

-- five words
abbrev pub Column : Type 0
Column = List ℕ

-- ---- μ: at each bit position the five words hold an element of GF(2^5), the word y its coefficient at a^y
abbrev pub twice_words : Column → Column
twice_words z = let Z : ℕ → ℕ = λ y. get_or z y 0 in Z 4 ∷ Z 0 ∷ (Z 1 ⊻ Z 4) ∷ Z 2 ∷ Z 3 ∷ []

abbrev pub times18_words : Column → Column
times18_words z = let Z : ℕ → ℕ = λ y. get_or z y 0 in Z 1 ∷ (Z 2 ⊻ Z 0) ∷ Z 3 ∷ Z 4 ∷ Z 0 ∷ []

abbrev pub sum_words : Column → Column → Column → Column → Column
sum_words p q t u = tabulate 5 (λ y. get_or p y 0 ⊻ get_or q y 0 ⊻ get_or t y 0 ⊻ get_or u y 0)

-- ---- ρ: a column with its offsets
abbrev pub rotl_column : Column → List ℕ → Column
rotl_column w k = tabulate 5 (λ y. rotl (get_or w y 0) (get_or k y 0))

-- ---- ψ: the S-box at each bit position of five words, by the paper's formula
abbrev pub sbox_words : Column → Column
sbox_words m = tabulate 5 (λ k. word (λ z. sbox (λ j. bit (get_or m j 0) z) k))
