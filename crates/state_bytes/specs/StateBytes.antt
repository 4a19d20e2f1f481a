-- The state of ICEPOLE as its bytes (003, 2.3; 01, "The permutation"): bit z of word number w = x + 4y is state bit 64w + z, and byte j covers bits 8j to
-- 8j + 7, low bit first.
-- Assumes nothing.
use Rattle.std.specs.Prelude.{◌≡◌, List, [], ◌++◌, ℕ, zero, suc, ◌+◌, ◌*◌, ◌/◌, ◌%◌, ◌<◌, get_or, length}
use Rattle.permutation.specs.State.{State, tabulate, at}
use Rattle.permutation.specs.Permutation.{P, start}
use Rattle.bytes_le.specs.Bytes.{Bytes, le, le_at}

-- the words of a state, four columns by five, and its bytes
abbrev pub state_words : ℕ
state_words = 20

abbrev pub state_length : ℕ
state_length = 8 * state_words

-- four columns of five words
pub record Shape (s : State) : Type 0 where
  pub four : length s ≡ 4
  pub five : (x : ℕ) → x < 4 → length (get_or s x []) ≡ 5

-- word number w: S[x][y] with w = x + 4y
abbrev pub word_of : State → ℕ → ℕ
word_of s w = at s (w % 4) (w / 4)

-- the bytes of the words below w, each word low byte first
abbrev pub bytes_below : State → ℕ → Bytes
bytes_below s zero = []
bytes_below s (suc w) = bytes_below s w ++ le 8 (word_of s w)

-- the bytes of a state
unfoldable pub bytes_of : State → Bytes
bytes_of s = bytes_below s state_words

-- column x of the state whose bytes are v
unfoldable pub column : Bytes → ℕ → List ℕ
column v x = tabulate 5 (λ y. le_at 8 v (8 * (x + 4 * y)))

-- the state whose bytes are v
unfoldable pub state_of : Bytes → State
state_of v = tabulate 4 (column v)

-- the first n rounds, on the bytes
unfoldable pub permuted : ℕ → Bytes → Bytes
permuted n v = bytes_of (P n (state_of v))

-- the starting words (003, 2.6)
unfoldable pub start_bytes : Bytes
start_bytes = bytes_of start
