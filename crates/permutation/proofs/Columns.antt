-- A list of words is known by its bits, position by position. The bounds that this wants, for the operations on words.
-- Assumes nothing.
use mathlib.Core.Path.{◌≡◌, refl, ap}
use mathlib.Core.Bool.{Bool, false}
use mathlib.Core.List.{List, [], ◌∷◌, map}
use Prim.Native.Nat.{ℕ, suc, ◌-◌, ◌^◌, ◌<◌}
use native.Mathlib.Nat.{lt_of_le_of_lt}
use lib.Bits.{bit_and, bit_xor, bit_or, and_le_l, xor_lt, or_lt}
use lib.Pow.{ones_sub-lt}
use lib.ListN.{length, get_or}
use Rattle.bits.specs.Bits.{bit, word_range, word}
use Rattle.bits.proofs.Laws.{by_bits}
use Rattle.permutation.specs.State.{tabulate}

-- the complement of a word
abbrev pub ~ : ℕ → ℕ
~ a = (word_range - 1) - a

pub xor64 : {a b : ℕ} → a < 2 ^ 64 → b < 2 ^ 64 → bit_xor a b < 2 ^ 64
xor64 {a} {b} h l = xor_lt 64 a b h l

pub and64 : (a b : ℕ) → a < 2 ^ 64 → bit_and a b < 2 ^ 64
and64 a b h = lt_of_le_of_lt (and_le_l a b) h

pub not64 : (a : ℕ) → ~ a < 2 ^ 64
not64 a = ones_sub-lt 64 a

pub or64 : {a b : ℕ} → a < 2 ^ 64 → b < 2 ^ 64 → bit_or a b < 2 ^ 64
or64 {a} {b} h l = or_lt 64 a b h l

-- all words are below 2^64
abbrev pub Fit : List ℕ → Type 0
Fit [] = Unit {0}
Fit (w ∷ ws) = (w < 2 ^ 64) × Fit ws

head : List Bool → Bool
head l = get_or l 0 false

tail : List Bool → List Bool
tail [] = []
tail (b ∷ l) = l

-- words whose bits at each position z are f z 0, f z 1, .. are made of those bits
pub by-positions : (ws : List ℕ) (f : ℕ → ℕ → Bool) → Fit ws
    → ((z : ℕ) → z < 64 → map (λ w. bit w z) ws ≡ tabulate (length ws) (f z)) → ws ≡ tabulate (length ws) (λ y. word (λ z. f z y))
unfolding head tail
by-positions [] f h e = refl
by-positions (w ∷ ws) f h e = λ i.
    by_bits w (λ z. f z 0) h.0 (λ z l. ap head (e z l)) i
    ∷ by-positions ws (λ z y. f z (suc y)) h.1 (λ z l. ap tail (e z l)) i
