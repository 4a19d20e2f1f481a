-- Exclusive or of bytes, and of a block into a state.
-- Assumes nothing.
use mathlib.Core.Path.{◌≡◌, refl, ap, ap₂}
use mathlib.Core.List.{[], ◌∷◌, ◌++◌}
use Prim.Native.Nat.{ℕ, ◌<◌, ◌≤◌}
use lib.ListN.{get_or, length}
use native.Mathlib.Nat.{not-suc-le-zero, le_of_suc-le-suc}
use lib.Bits.{bit_xor}
use Rattle.bytes_le.specs.Bytes.{Bytes}
use Rattle.bits.proofs.Tests.{number-xor-cancel}
use Rattle.blocks.specs.Sealing.{◌⊕₈◌, xor_at, xor_with}
use Rattle.blocks.specs.WayLaws.{xor-none}

pub xor-twice : (v b : Bytes) → length b ≤ length v → v ⊕₈ (v ⊕₈ b) ≡ b
xor-twice [] [] h = refl
xor-twice [] (y ∷ b) h = absurd (not-suc-le-zero h)
xor-twice (x ∷ v) [] h = refl
xor-twice (x ∷ v) (y ∷ b) h = ap₂ (λ (z : ℕ) (l : Bytes). z ∷ l) (number-xor-cancel x y) (xor-twice v b (le_of_suc-le-suc h))

-- the state's bytes past those that were xored
pub get_or-xor-with : (v b : Bytes) → get_or (xor_with v b) (length b) 0 ≡ get_or v (length b) 0
get_or-xor-with v [] = refl
get_or-xor-with [] (y ∷ b) = refl
get_or-xor-with (x ∷ v) (y ∷ b) = get_or-xor-with v b

-- one byte more
pub xor-with-snoc : (v b : Bytes) (z : ℕ) → length b < length v
    → xor_at (xor_with v b) (length b) z ≡ xor_with v (b ++ (z ∷ []))
xor-with-snoc [] b z h = absurd (not-suc-le-zero h)
xor-with-snoc (x ∷ v) [] z h = refl
xor-with-snoc (x ∷ v) (y ∷ b) z h = ap (λ (l : Bytes). bit_xor x y ∷ l) (xor-with-snoc v b z (le_of_suc-le-suc h))

pub xor-snoc : (v b : Bytes) (z : ℕ) → length b < length v
    → v ⊕₈ (b ++ (z ∷ [])) ≡ (v ⊕₈ b) ++ (bit_xor (get_or v (length b) 0) z ∷ [])
xor-snoc [] b z h = absurd (not-suc-le-zero h)
xor-snoc (x ∷ v) [] z h = ap (λ (l : Bytes). bit_xor x z ∷ l) (xor-none v)
xor-snoc (x ∷ v) (y ∷ b) z h = ap (λ (l : Bytes). bit_xor x y ∷ l) (xor-snoc v b z (le_of_suc-le-suc h))
