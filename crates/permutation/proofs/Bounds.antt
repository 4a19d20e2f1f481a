-- The words of a state that the program holds are below 2^64, whatever the number of its columns; and so are those that a round leaves.
-- Assumes nothing.
use mathlib.Core.Path.{refl, ap}
use mathlib.Core.List.{List, [], ◌∷◌}
use Prim.Native.Nat.{ℕ, zero, suc, ◌^◌, ◌<◌}
use lib.Bits.{bit_xor}
use lib.Dec.{lit<}
use lib.ListN.{get_or}
use mir.Syntax.{w64}
use mir.Val.{Val}
use denote.Array.{Array, each}
use denote.Laws.{Is}
use denote.Plain.{UInt}
use denote.Shadow.{shadow}
use borrow.Author.Rules.{elem_Fits}
use Rattle.bits.specs.Bits.{word}
use Rattle.bits.proofs.Laws.{number-below}
use Rattle.permutation.specs.State.{Grid, State, IsState, at, slice}
use Rattle.permutation.specs.Permutation.{μ, ρ, π, ψ, κ, R, constants, sbox}
use Rattle.permutation.proofs.Columns.{Fit, xor64}

rows : (xs : List (List ℕ)) (us : List Val) → shadow (each (List ℕ) (Array (UInt w64) 5).own_val xs us) → (x y : ℕ) → at xs x y < 2 ^ 64
rows [] us p x y = lit< tt
rows (r ∷ xs) [] p x y = absurd p
rows (r ∷ xs) (u ∷ us) p zero y = (elem_Fits w64 w64 r p.0.0 y p.0.1.1 tt).fits
rows (r ∷ xs) (u ∷ us) p (suc x) y = rows xs us p.1 x y

pub words : {n : ℕ} (s : Grid) (vs : List Val) → Is (Array (Array (UInt w64) 5) n) s vs → (x y : ℕ) → at s x y < 2 ^ 64
words s vs p = rows s p.0 p.1.1

-- ---- κ leaves a state of the core, and so does a round, whatever it was given
pub fit-below : (l : List ℕ) → Fit l → (n : ℕ) → get_or l n 0 < 2 ^ 64
fit-below [] f n = lit< tt
fit-below (c ∷ l) f zero = f.0
fit-below (c ∷ l) f (suc n) = fit-below l f.1 n

constants-fit : Fit constants
constants-fit = (lit< tt, (lit< tt, (lit< tt, (lit< tt, (lit< tt, (lit< tt, (lit< tt, (lit< tt, (lit< tt, (lit< tt, (lit< tt, (lit< tt, tt))))))))))))

module _ (S : ℕ → ℕ → ℕ) (c : ℕ) where
  -- S with c xored into its first word
  abbrev mixed : ℕ → ℕ → ℕ
  mixed zero zero = bit_xor (S 0 0) c
  mixed zero (suc y) = S zero (suc y)
  mixed (suc x) y = S (suc x) y

  mixed-below : ((x y : ℕ) → S x y < 2 ^ 64) → c < 2 ^ 64 → (x y : ℕ) → mixed x y < 2 ^ 64
  mixed-below h hc zero zero = xor64 (h 0 0) hc
  mixed-below h hc zero (suc y) = h zero (suc y)
  mixed-below h hc (suc x) y = h (suc x) y

pub kappa-state : (s : State) → IsState s → (n : ℕ) → IsState (κ s n)
kappa-state s w n =
    let c : ℕ = get_or constants n 0 in
    (mixed w.0 c, mixed-below w.0 c w.1 (fit-below constants constants-fit n), ap (λ (t : State). κ t n) w.2)

pub round-state : (s : State) (n : ℕ) → IsState (R s n)
unfolding R ψ
round-state s n =
    let t : State = π (ρ (μ s)) in
    kappa-state (ψ t) (λ x y. word (λ z. sbox (slice t z x) y), λ x y. number-below 64 (λ z. sbox (slice t z x) y), refl) n
