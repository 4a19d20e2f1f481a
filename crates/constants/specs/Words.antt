-- What private functions do on whole lanes, 64 bit positions at once. No public contract and no claim names this file: `proofs/` leads from it to `Keccak`.
-- Assumes nothing.
use Rattle.std.specs.Prelude.{Bool, cond, List, ℕ, ◌-◌, eqb, get_or}
use Rattle.std.specs.Int.Bits.{bit_and}
use Rattle.bits.specs.Bits.{bit, word_range, word}
use Rattle.permutation.specs.State.{tabulate}
use Rattle.permutation.specs.Words.{◌⊻◌}

-- the five lanes of one x
abbrev pub Sheet : Type 0
Sheet = List ℕ

-- ---- θ: the parity of the five lanes, and d xored to each
abbrev pub parity_word : Sheet → ℕ
parity_word s = let A : ℕ → ℕ = λ y. get_or s y 0 in A 0 ⊻ A 1 ⊻ A 2 ⊻ A 3 ⊻ A 4

abbrev pub xor_each : Sheet → ℕ → Sheet
xor_each s d = tabulate 5 (λ y. get_or s y 0 ⊻ d)

-- ---- χ: the sheet p, with the two sheets after it
abbrev pub chi_sheet : Sheet → Sheet → Sheet → Sheet
chi_sheet p q s = tabulate 5 (λ y. get_or p y 0 ⊻ bit_and ((word_range - 1) - get_or q y 0) (get_or s y 0))

-- ---- ι: w with bit k set to b
abbrev pub with_bit : ℕ → ℕ → Bool → ℕ
with_bit w k b = word (λ z. cond (eqb z k) b (bit w z))
