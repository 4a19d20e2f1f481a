-- The permutation P of ICEPOLE (003, 2.5), with its tables (003, 2.5, 2.6 and Appendix A).
-- Assumes nothing.
use Rattle.std.specs.Prelude.{Bool, not, ◌&&◌, ℕ, zero, suc, ◌+◌, ◌-◌, ◌%◌, get_or}
use mathlib.Core.List.{List, [], ◌∷◌, foldr}
use Rattle.std.specs.Int.Bits.{bit_xor}
use Rattle.bits.specs.Bits.{◌⊕◌, bit, word_length, word}
use Rattle.permutation.specs.Field.{Element, element, sum, ◌·◌}
use Rattle.permutation.specs.State.{Grid, State, tabulate, at, set_word, state, slice}

-- ---- μ: every slice is the column vector (Z_0, Z_1, Z_2, Z_3), S[x][y][z] being the coefficient of Z_x at a^y. It is multiplied by the matrix
abbrev pub matrix : Grid
matrix =
    (2 ∷ 1 ∷ 1 ∷ 1 ∷ [])
    ∷ (1 ∷ 1 ∷ 18 ∷ 2 ∷ [])
    ∷ (1 ∷ 2 ∷ 1 ∷ 18 ∷ [])
    ∷ (1 ∷ 18 ∷ 2 ∷ 1 ∷ [])
    ∷ []

-- row x of a matrix, times the vector Z
abbrev pub times : Grid → (ℕ → Element) → ℕ → Element
times m Z x = sum (tabulate 4 (λ j. element (at m x j) · Z j))

abbrev pub mix : (ℕ → Element) → ℕ → Element
mix = times matrix

unfoldable pub μ : State → State
μ s = state (λ x y. word (λ z. mix (slice s z) x y))

-- ---- ρ: each word is rotated left by its offset
abbrev pub offsets : Grid
offsets =
    (0 ∷ 36 ∷ 3 ∷ 41 ∷ 18 ∷ [])
    ∷ (1 ∷ 44 ∷ 10 ∷ 45 ∷ 2 ∷ [])
    ∷ (62 ∷ 6 ∷ 43 ∷ 15 ∷ 61 ∷ [])
    ∷ (28 ∷ 55 ∷ 25 ∷ 21 ∷ 56 ∷ [])
    ∷ []

-- w rotated left by k: bit z moves to (z + k) mod 64, so that bit z of the result is bit (z - k) mod 64 of w (k at most 64)
unfoldable pub rotl : ℕ → ℕ → ℕ
rotl w k = word (λ z. bit w ((z + (word_length - k)) % word_length))

abbrev pub ρ : State → State
ρ s = state (λ x y. rotl (at s x y) (at offsets x y))

-- ---- π: S[x][y] moves to S[x'][y']
abbrev pub x' : ℕ → ℕ → ℕ
x' x y = (x + y) % 4

abbrev pub y' : ℕ → ℕ → ℕ
y' x y = ((x + y) % 4 + y + 1) % 5

-- the state t with S[x'][y'] := S[x][y] of s, for all x and y: the twenty targets differ, so every word of t is overwritten
abbrev pub moved : State → State → State
moved s t = foldr (λ x u. foldr (λ y v. set_word v (x' x y) (y' x y) (at s x y)) u (tabulate 5 (λ y. y))) t (tabulate 4 (λ x. x))

abbrev pub π : State → State
π s = moved s (state (λ x y. 0))

-- ---- ψ: the S-box on the five bits M_0 .. M_4 of each x and z, M_k being S[x][k][z]
abbrev pub sbox : (ℕ → Bool) → ℕ → Bool
sbox M k =
    M k ⊕ (not (M ((k + 1) % 5)) && M ((k + 2) % 5))
    ⊕ (M 0 && M 1 && M 2 && M 3 && M 4)
    ⊕ (not (M 0) && not (M 1) && not (M 2) && not (M 3) && not (M 4))

unfoldable pub ψ : State → State
ψ s = state (λ x y. word (λ z. sbox (slice s z x) y))

-- ---- κ: S[0][0] is xored with the constant of the round (003, Appendix A). Read as ordinary hex numbers, although 003 says "little-endian format";
-- the table decides, and not the polynomial of 003, 2.5 (both by 01, "The permutation")
abbrev pub constants : List ℕ
constants =
    0x0091A2B3C4D5E6F7
    ∷ 0x0048D159E26AF37B
    ∷ 0x002468ACF13579BD
    ∷ 0x00123456F89ABCDE
    ∷ 0x00091A2BFC4D5E6F
    ∷ 0x00048D15FE26AF37
    ∷ 0x0002468AFF13579B
    ∷ 0x000123457F89ABCD
    ∷ 0x000091A2BFC4D5E6
    ∷ 0x000048D1DFE26AF3
    ∷ 0x00002468EFF13579
    ∷ 0x00001234F7F89ABC
    ∷ []

-- the rounds that have a constant
abbrev pub max_rounds : ℕ
max_rounds = 12

-- S[0][0] := S[0][0] xor c
abbrev pub add_constant : State → ℕ → State
add_constant s c = set_word s 0 0 (bit_xor (at s 0 0) c)

-- of round n, below 12; from 12 on there is no constant, and no contract speaks of it
abbrev pub κ : State → ℕ → State
κ s n = add_constant s (get_or constants n 0)

-- ---- round number n, and the first n rounds: P 6 and P 12 are the paper's P_6 and P_12
unfoldable pub R : State → ℕ → State
R s n = κ (ψ (π (ρ (μ s)))) n

unfoldable pub P : ℕ → State → State
P zero s = s
P (suc n) s = R (P n s) n

-- ---- the state before key and nonce (003, 2.6): column x, rows 0 to 4. Ordinary hex numbers (01)
abbrev pub start : State
start =
    (0xFF97A42D7F8E6FD4 ∷ 0x90FEE5A0A44647C4 ∷ 0x8C5BDA0CD6192E76 ∷ 0xAD30A6F71B19059C ∷ 0x30935AB7D08FFC64 ∷ [])
    ∷ (0xEB5AA93F2317D635 ∷ 0xA9A6E6260D712103 ∷ 0x81A57C16DBCF555F ∷ 0x43B831CD0347C826 ∷ 0x01F22F1A11A5569F ∷ [])
    ∷ (0x05E5635A21D9AE61 ∷ 0x64BEFEF28CC970F2 ∷ 0x613670957BC46611 ∷ 0xB87C5A554FD00ECB ∷ 0x8C3EE88A1CCF32C8 ∷ [])
    ∷ (0x940C7922AE3A2614 ∷ 0x1841F924A2C509E4 ∷ 0x16F53526E70465C2 ∷ 0x75F644E97F30A13B ∷ 0xEAF1FF7B5CECA249 ∷ [])
    ∷ []
