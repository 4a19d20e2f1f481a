-- Two functions of five bits are the same where their 32 values are, which computing shows.
-- Assumes nothing.
use mathlib.Core.Bool.{Bool, true, false}
use mathlib.Core.List.{[], ◌∷◌}
use mathlib.Core.Path.{◌≡◌}
use Prim.Native.Nat.{ℕ}
use lib.ListN.{get_or}

-- the two values of a function of one bit
abbrev both : {A : Type 0} → (Bool → A) → A × A
both f = (f false, f true)

both-same : {A : Type 0} (f g : Bool → A) → both f ≡ both g → (b : Bool) → f b ≡ g b
both-same f g h false = λ i. (h i).0
both-same f g h true = λ i. (h i).1

abbrev five : Bool → Bool → Bool → Bool → Bool → ℕ → Bool
five a b c d e k = get_or (a ∷ b ∷ c ∷ d ∷ e ∷ []) k false

-- bit by bit, the last first: if f and g are the same wherever the bits that are left are false or true, they are the same
pub everywhere : {A : Type 0} (f g : (ℕ → Bool) → A)
    → both (λ a. both (λ b. both (λ c. both (λ d. both (λ e. f (five a b c d e))))))
    ≡ both (λ a. both (λ b. both (λ c. both (λ d. both (λ e. g (five a b c d e))))))
    → (M : ℕ → Bool) → f (five (M 0) (M 1) (M 2) (M 3) (M 4)) ≡ g (five (M 0) (M 1) (M 2) (M 3) (M 4))
everywhere f g h M =
    both-same (λ e. f (five (M 0) (M 1) (M 2) (M 3) e)) (λ e. g (five (M 0) (M 1) (M 2) (M 3) e))
    (both-same (λ d. both (λ e. f (five (M 0) (M 1) (M 2) d e))) (λ d. both (λ e. g (five (M 0) (M 1) (M 2) d e)))
    (both-same (λ c. both (λ d. both (λ e. f (five (M 0) (M 1) c d e)))) (λ c. both (λ d. both (λ e. g (five (M 0) (M 1) c d e))))
    (both-same (λ b. both (λ c. both (λ d. both (λ e. f (five (M 0) b c d e))))) (λ b. both (λ c. both (λ d. both (λ e. g (five (M 0) b c d e)))))
    (both-same (λ a. both (λ b. both (λ c. both (λ d. both (λ e. f (five a b c d e))))))
    (λ a. both (λ b. both (λ c. both (λ d. both (λ e. g (five a b c d e)))))) h (M 0)) (M 1)) (M 2)) (M 3)) (M 4)
