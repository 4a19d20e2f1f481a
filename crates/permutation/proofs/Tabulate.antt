-- Lists that are tabulated: what stands at an index, that every list is, and when two are the same.
-- Assumes nothing.
use mathlib.Core.Path.{◌≡◌, refl, ap, ap₂}
use mathlib.Core.List.{List, [], ◌∷◌}
use Prim.Native.Nat.{ℕ, zero, suc, ◌<◌}
use native.Mathlib.Nat.{not-suc-le-zero, le_of_suc-le-suc, zero-lt-suc}
use native.Mathlib.Omega.{arith}
use lib.ListN.{get_or, length}
use Rattle.permutation.specs.State.{tabulate}

pub get_or-tabulate : {A : Type 0} (n : ℕ) (f : ℕ → A) (i : ℕ) (d : A) → i < n → get_or (tabulate n f) i d ≡ f i
get_or-tabulate zero f i d h = absurd (not-suc-le-zero h)
get_or-tabulate (suc n) f zero d h = refl
get_or-tabulate (suc n) f (suc i) d h = get_or-tabulate n (λ k. f (suc k)) i d (le_of_suc-le-suc h)

-- what holds of every f k, and of d, holds of what stands at an index, or of d beside the list
pub get_or-each : {A : Type 0} (Q : A → Type 0) (n : ℕ) (f : ℕ → A) (d : A) → ((k : ℕ) → Q (f k)) → Q d → (i : ℕ) → Q (get_or (tabulate n f) i d)
get_or-each Q zero f d h q i = q
get_or-each Q (suc n) f d h q zero = h 0
get_or-each Q (suc n) f d h q (suc i) = get_or-each Q n (λ k. f (suc k)) d (λ k. h (suc k)) q i

pub tabulated : {A : Type 0} (n : ℕ) (l : List A) (d : A) → length l ≡ n → l ≡ tabulate n (λ k. get_or l k d)
tabulated zero [] d h = refl
tabulated zero (x ∷ l) d h = absurd (omega arith)
tabulated (suc n) [] d h = absurd (omega arith)
tabulated (suc n) (x ∷ l) d h = ap (λ (r : List _). x ∷ r) (tabulated n l d (omega arith))

pub tabulate_same : {A : Type 0} (n : ℕ) (f g : ℕ → A) → ((k : ℕ) → k < n → f k ≡ g k) → tabulate n f ≡ tabulate n g
tabulate_same zero f g h = refl
tabulate_same (suc n) f g h =
    ap₂ (λ (x : _) (l : List _). x ∷ l) (h 0 (zero-lt-suc n)) (tabulate_same n (λ k. f (suc k)) (λ k. g (suc k)) (λ k l. h (suc k) (let m : suc k < suc n = omega arith in m)))
