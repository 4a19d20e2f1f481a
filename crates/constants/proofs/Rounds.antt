-- Rounds with θ, π and χ on whole lanes, by which the prover computes; ρ and ι are as defined. With all five bit by bit, 24 rounds are too long for it.
-- Assumes nothing.
use mathlib.Core.Path.{◌≡◌, refl, ap, ◌∙◌}
use Prim.Native.Nat.{ℕ, zero, suc}
use Rattle.bits.proofs.Laws.{number-below}
use Rattle.permutation.specs.State.{tabulate}
use Rattle.constants.specs.Keccak.{StateArray, walk, θ, ρ, π, ι, Rnd, rounds}
use Rattle.constants.proofs.Lanes.{Fits, set-fits, theta-sheet, pi-sheet, chi-sheet, theta-fits, pi-fits, chi-fits, theta-agrees, pi-agrees, chi-agrees}

unfoldable pub theta : StateArray → StateArray
theta a = tabulate 5 (theta-sheet a)

unfoldable pub pi : StateArray → StateArray
pi a = tabulate 5 (pi-sheet a)

unfoldable pub chi : StateArray → StateArray
chi a = tabulate 5 (chi-sheet a)

unfoldable pub lane-rounds : ℕ → StateArray → StateArray
lane-rounds zero a = a
lane-rounds (suc n) a = ι (chi (pi (ρ (theta (lane-rounds n a))))) n

walk-fits : (a : StateArray) → Fits a → (t : ℕ) → Fits (walk a t).lanes
walk-fits a h zero = h
walk-fits a h (suc t) = set-fits (walk a t).lanes (walk a t).x (walk a t).y _ (number-below 64 _) (walk-fits a h t)

rho-fits : (a : StateArray) → Fits a → Fits (ρ a)
unfolding ρ
rho-fits a h = walk-fits a h 24

iota-fits : (a : StateArray) (i : ℕ) → Fits a → Fits (ι a i)
unfolding ι
iota-fits a i h = set-fits a 0 0 _ (number-below 64 _) h

round-fits : (a : StateArray) (i : ℕ) → Fits (Rnd a i)
unfolding Rnd
round-fits a i = iota-fits _ i (chi-fits _)

rounds-fit : (n : ℕ) (a : StateArray) → Fits a → Fits (rounds n a)
unfolding rounds
rounds-fit zero a h = h
rounds-fit (suc n) a h = round-fits (rounds n a) n

round-agrees : (a : StateArray) (i : ℕ) → Fits a → ι (chi (pi (ρ (theta a)))) i ≡ Rnd a i
unfolding theta pi chi Rnd
round-agrees a i h =
    ap (λ (b : StateArray). ι (chi (pi (ρ b))) i) (theta-agrees a h)
    ∙ ap (λ (b : StateArray). ι (chi b) i) (pi-agrees (ρ (θ a)) (rho-fits (θ a) (theta-fits a)))
    ∙ ap (λ (b : StateArray). ι b i) (chi-agrees (π (ρ (θ a))) (pi-fits (ρ (θ a))))

pub rounds-agree : (n : ℕ) (a : StateArray) → Fits a → lane-rounds n a ≡ rounds n a
unfolding lane-rounds rounds
rounds-agree zero a h = refl
rounds-agree (suc n) a h =
    ap (λ (b : StateArray). ι (chi (pi (ρ (theta b)))) n) (rounds-agree n a h) ∙ round-agrees (rounds n a) n (rounds-fit n a h)
