-- A state filled word by word, in the order of its bytes.
-- Assumes nothing.
use mathlib.Core.Path.{◌≡◌, refl, subst}
use mathlib.Core.Bool.{cond}
use mathlib.Core.Logic.{⊎_elim}
use Prim.Native.Nat.{ℕ, zero, suc, ◌+◌, ◌*◌, ◌/◌, ◌%◌, ◌≤◌, ◌<◌}
use native.Mathlib.Omega.{arith}
use lib.Dec.{ltb}
use Rattle.bits.proofs.Cases.{le-or-lt}
use Rattle.bytes_le.specs.Bytes.{Bytes, le_at}
use Rattle.permutation.specs.State.{State, set_word, state}
use Rattle.state_bytes.specs.StateBytes.{column, state_of, state_words}

-- the state whose first n words have their bytes in v; the other words are 0
abbrev pub filled : Bytes → ℕ → State
filled v n = state (λ x y. cond (ltb (x + 4 * y) n) (le_at 8 v (8 * (x + 4 * y))) 0)

-- what holds of each number below k
abbrev Each : (ℕ → Type 0) → ℕ → Type 0
Each Q zero = Unit {0}
Each Q (suc k) = Each Q k × Q k

each : (Q : ℕ → Type 0) (k : ℕ) → Each Q k → (n : ℕ) → n < k → Q n
each Q zero e n h = absurd (omega arith)
each Q (suc k) e n h =
    ⊎_elim
    (λ (l : suc n ≤ k). each Q k e.0 n l)
    (λ (l : k < suc n). let p : k ≡ n = omega arith in subst Q p e.1)
    (le-or-lt (suc n) k)

pub fill-next : (v : Bytes) (n : ℕ) → n < state_words → set_word (filled v n) (n % 4) (n / 4) (le_at 8 v (8 * n)) ≡ filled v (n + 1)
fill-next v = each (λ n. set_word (filled v n) (n % 4) (n / 4) (le_at 8 v (8 * n)) ≡ filled v (n + 1)) state_words ((((((((((((((((((((tt, refl), refl), refl), refl), refl), refl), refl), refl), refl), refl), refl), refl), refl), refl), refl), refl), refl), refl), refl), refl)

pub fill-all : (v : Bytes) → filled v state_words ≡ state_of v
unfolding state_of column
fill-all v = refl
