-- What private functions do on whole words, 64 bit positions at once. No public contract and no claim names this file: `proofs/` leads from it to `Inverse`.
-- Assumes nothing.
use Rattle.std.specs.Prelude.{List, [], ◌∷◌, ℕ, cond, get_or}
use Rattle.bits.specs.Bits.{bit, word}
use Rattle.permutation.specs.Field.{element}
use Rattle.permutation.specs.State.{State, tabulate, slice}
use Rattle.permutation.specs.Permutation.{times}
use Rattle.permutation.specs.Words.{◌⊻◌, Column}
use Rattle.rounds_back.specs.Inverse.{sbox⁻¹}

-- ---- μ⁻¹: at each bit position the five words hold an element of GF(2^5), the word y its coefficient at a^y
-- a · p + q
abbrev pub times_a_plus_words : Column → Column → Column
times_a_plus_words p q =
    let P : ℕ → ℕ = λ y. get_or p y 0 in
    let Q : ℕ → ℕ = λ y. get_or q y 0 in
    (P 4 ⊻ Q 0) ∷ (P 0 ⊻ Q 1) ∷ (P 1 ⊻ P 4 ⊻ Q 2) ∷ (P 2 ⊻ Q 3) ∷ (P 3 ⊻ Q 4) ∷ []

-- the coefficient of n at a^k, which is 1 or 0, times p
abbrev pub digit_times_words : ℕ → ℕ → Column → Column
digit_times_words n k p = cond (element n k) p (0 ∷ 0 ∷ 0 ∷ 0 ∷ 0 ∷ [])

-- a row of a matrix times the column vector
abbrev pub row_words : List ℕ → State → Column
row_words r s = tabulate 5 (λ y. word (λ z. times (r ∷ []) (slice s z) 0 y))

-- ---- ψ⁻¹: the inverse S-box at each bit position of five words
abbrev pub sbox⁻¹Words : Column → Column
sbox⁻¹Words m = tabulate 5 (λ k. word (λ z. sbox⁻¹ (λ j. bit (get_or m j 0) z) k))
