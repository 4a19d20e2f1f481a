-- The inverse S-box undoes the S-box, and the reverse, on all 32 values; so ψ is undone.
-- Assumes nothing.
use mathlib.Core.Bool.{Bool}
use mathlib.Core.List.{[], ◌∷◌}
use mathlib.Core.Path.{◌≡◌, refl}
use Prim.Native.Nat.{ℕ}
use Rattle.permutation.specs.State.{tabulate}
use Rattle.permutation.specs.Permutation.{sbox, ψ}
use Rattle.rounds_back.specs.Inverse.{sbox⁻¹, ψ⁻¹}
use Rattle.rounds_back.specs.Inverses.{Inverses}
use Rattle.rounds_back.proofs.FiveBits.{everywhere}
use Rattle.rounds_back.proofs.Slices.{slices-inverse}

pub box-back : (M : ℕ → Bool) → tabulate 5 (sbox⁻¹ (sbox M)) ≡ tabulate 5 M
box-back = everywhere (λ M. tabulate 5 (sbox⁻¹ (sbox M))) (tabulate 5) refl

pub box-forth : (M : ℕ → Bool) → tabulate 5 (sbox (sbox⁻¹ M)) ≡ tabulate 5 M
box-forth = everywhere (λ M. tabulate 5 (sbox (sbox⁻¹ M))) (tabulate 5) refl

pub psi-inverse : Inverses ψ ψ⁻¹
unfolding ψ ψ⁻¹
psi-inverse =
    slices-inverse (λ B x. sbox (B x)) (λ B x. sbox⁻¹ (B x)) (λ B. refl) (λ B. refl)
    (λ B i. box-back (B 0) i ∷ box-back (B 1) i ∷ box-back (B 2) i ∷ box-back (B 3) i ∷ [])
    (λ B i. box-forth (B 0) i ∷ box-forth (B 1) i ∷ box-forth (B 2) i ∷ box-forth (B 3) i ∷ [])
