-- The tables as change request N8 (02) has them made.
-- Assumes nothing.
use Rattle.std.specs.Prelude.{false, ◌&&◌, ◌||◌, List, ℕ, zero, suc, ◌+◌, ◌*◌, ◌/◌, ◌%◌, eqb}
use Rattle.bits.specs.Bits.{bit, digit, word}
use Rattle.permutation.specs.State.{State, tabulate, at, state}
use Rattle.constants.specs.Keccak.{StateArray, array, keccak_f}

-- ---- "One part runs Keccak-f[1600] of FIPS 202 on the zero state: the starting word S[x][y] is lane 5(x + 1) + y, lanes numbered along the first coordinate first."
abbrev pub zero_state : StateArray
zero_state = array (λ x y z. false)

-- lane number i is that of x = i mod 5 and y = i div 5 (as in FIPS 202, 3.1.2, where bit w(5y + x) + z of the string is A[x, y, z])
abbrev pub lane : StateArray → ℕ → ℕ
lane a i = at a (i % 5) (i / 5)

abbrev pub words_from_lanes : StateArray → State
words_from_lanes a = state (λ x y. lane a (5 * (x + 1) + y))

unfoldable pub starting_words : State
starting_words = words_from_lanes (keccak_f zero_state)

-- ---- "Another makes the round constants: start at hex 0123456789ABCDEF; each step shifts right by one and also sets bit 31 (one already set stays) when bits 0, 1, 3
-- and 4 before the shift hold an odd number of ones; the first step gives constant 0."
abbrev pub ones_of_four : ℕ → ℕ
ones_of_four r = digit (bit r 0) + digit (bit r 1) + digit (bit r 3) + digit (bit r 4)

unfoldable pub stepped : ℕ → ℕ
stepped r = word (λ z. bit r (z + 1) || (eqb z 31 && eqb (ones_of_four r % 2) 1))

-- the number after n steps
unfoldable pub after_steps : ℕ → ℕ
after_steps zero = 0x0123456789ABCDEF
after_steps (suc n) = stepped (after_steps n)

unfoldable pub round_constants : List ℕ
round_constants = tabulate 12 (λ n. after_steps (suc n))
