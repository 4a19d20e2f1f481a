-- The round undone, step by step, and so all rounds; from which follows that no two states lead to one.
-- Assumes nothing.
use mathlib.Core.Path.{◌≡◌, sym, ap, ◌∙◌}
use Prim.Native.Nat.{ℕ, zero, suc}
use lib.Bits.{bit_xor, xor_comm}
use lib.ListN.{get_or}
use Rattle.bits.proofs.Tests.{number-xor-cancel}
use Rattle.permutation.specs.State.{State, IsState, set_word, state}
use Rattle.permutation.specs.Permutation.{constants, κ, R, P}
use Rattle.permutation.proofs.Bounds.{kappa-state}
use Rattle.rounds_back.specs.Inverse.{R⁻¹, P⁻¹}
use Rattle.rounds_back.specs.Inverses.{Inverses}
use Rattle.rounds_back.proofs.Compose.{none, then}
use Rattle.rounds_back.proofs.Mixing.{mu-inverse}
use Rattle.rounds_back.proofs.Turning.{rho-inverse}
use Rattle.rounds_back.proofs.Places.{pi-inverse}
use Rattle.rounds_back.proofs.Box.{psi-inverse}

-- ---- κ undoes itself
xor-twice : (a c : ℕ) → bit_xor (bit_xor a c) c ≡ a
xor-twice a c = xor_comm (bit_xor a c) c ∙ ap (bit_xor c) (xor_comm a c) ∙ number-xor-cancel c a

kappa-twice : (n : ℕ) (s : State) → IsState s → κ (κ s n) n ≡ s
kappa-twice n s w =
    ap (λ (t : State). κ (κ t n) n) w.2
    ∙ ap (λ (v : ℕ). set_word (state w.0) 0 0 v) (xor-twice (w.0 0 0) (get_or constants n 0))
    ∙ sym w.2

pub kappa-inverse : (n : ℕ) → Inverses (λ s. κ s n) (λ s. κ s n)
kappa-inverse n = record { done = λ s w. kappa-state s w n; undone = λ s w. kappa-state s w n; back = kappa-twice n; forth = kappa-twice n }

-- ---- the round, and the rounds
pub round-inverse : (n : ℕ) → Inverses (λ s. R s n) (λ s. R⁻¹ s n)
unfolding R R⁻¹
round-inverse n = then (then (then (then mu-inverse rho-inverse) pi-inverse) psi-inverse) (kappa-inverse n)

pub rounds-inverse : (n : ℕ) → Inverses (P n) (P⁻¹ n)
unfolding P P⁻¹
rounds-inverse zero = none
rounds-inverse (suc n) = then (rounds-inverse n) (round-inverse n)
