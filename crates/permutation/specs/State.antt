-- The state S of ICEPOLE (003, 2.3; 01, "The permutation"): four columns of five rows of 64-bit words, S[x][y]. (A "row" of 003, 2.3 is the five bits of one x and z.)
-- That word number w is x + 4y, and its bit z the state bit 64w + z, is defined with the bytes (`state_bytes`).
-- Assumes nothing.
use Rattle.std.specs.Prelude.{Bool, List, [], ◌∷◌, ◌≡◌, ℕ, zero, suc, ◌<◌, get_or, set}
use Rattle.bits.specs.Bits.{bit, word_range}

-- f 0, f 1, .., f (n - 1)
abbrev pub tabulate : {A : Type 0} → ℕ → (ℕ → A) → List A
tabulate zero f = []
tabulate (suc n) f = f 0 ∷ tabulate n (λ k. f (suc k))

-- numbers by two indices: a state and the offsets by x, then y; the matrix of μ by row, then column
abbrev pub Grid : Type 0
Grid = List (List ℕ)

-- m lists of n numbers, the number at x and y being f x y
abbrev pub grid : ℕ → ℕ → (ℕ → ℕ → ℕ) → Grid
grid m n f = tabulate m (λ x. tabulate n (f x))

-- the number at first index x and second index y: S[x][y]
abbrev pub at : Grid → ℕ → ℕ → ℕ
at s x y = get_or (get_or s x []) y 0

-- s with S[x][y] := w
abbrev pub set_word : Grid → ℕ → ℕ → ℕ → Grid
set_word s x y w = set s x (set (get_or s x []) y w)

abbrev pub State : Type 0
State = Grid

-- the state with S[x][y] = f x y
abbrev pub state : (ℕ → ℕ → ℕ) → State
state = grid 4 5

-- s is a state of the core: four columns of five words, each below 2^64
abbrev pub IsState : State → Type 0
IsState s = (S : ℕ → ℕ → ℕ) × ((x y : ℕ) → S x y < word_range) × (s ≡ state S)

-- slice z of s: S[x][y][z], bit z of S[x][y], at x and y
abbrev pub slice : State → ℕ → ℕ → ℕ → Bool
slice s z x y = bit (at s x y) z
