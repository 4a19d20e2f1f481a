-- The equations of Appendix B agree with the matrix, for every state.
-- Assumes nothing.
use mathlib.Core.Path.{◌≡◌}
use mathlib.Core.Bool.{Bool, false}
use mathlib.Core.List.{List, []}
use Prim.Native.Nat.{ℕ}
use lib.ListN.{get_or}
use Rattle.bits.specs.Bits.{word}
use Rattle.bits.proofs.Xor.{xors}
use Rattle.permutation.specs.State.{State, tabulate, state, slice}
use Rattle.permutation.specs.Permutation.{mix, μ}
use Rattle.permutation.specs.AppendixB.{equations, solved, appendix_b}

-- the twenty bits of a slice
abbrev bits : (ℕ → ℕ → Bool) → List (List Bool)
bits f = tabulate 4 (λ x. tabulate 5 (f x))

slice-agrees : (s : State) (z : ℕ) → bits (solved (equations (slice s z))) ≡ bits (mix (slice s z))
slice-agrees s z = simp xors

pub appendix-b-agrees : (s : State) → appendix_b s ≡ μ s
unfolding appendix_b μ
appendix-b-agrees s i = state (λ x y. word (λ z. get_or (get_or (slice-agrees s z i) x []) y false))
