-- Change request N10 (02): "To test rare bit patterns the bench wants an input that leads to a given state. From a wanted state and r from 0 to 12, give the state from
-- which r rounds, constants from 0, reach it. There is always just one, which is to be shown, by undoing each of the five steps. Rounds forward after rounds back, and
-- the reverse, are the identity. It refuses r above 12 with 20."
-- The call is `rounds_back::drive`, whose contract is that it answers `driven d s r`, as `answered` reads its Result, for both directions d, every state s and every r;
-- and the C calls, one for each direction, which do the same to the first 160 bytes of a slice (`after_rounds`, `rounds_refusal`). The steps undone are defined in
-- `crates/rounds_back/specs/Inverse.antt`, and Inverses in `Inverses.antt` beside it; IsState in `crates/permutation/specs/State.antt`.
-- Assumes nothing.
use Rattle.std.specs.Prelude.{Bool, cond, List, ◌++◌, ◌↔◌, ◌≡◌, ℕ, ◌≤◌, ◌<◌, eqb, length, take, drop}
use Rattle.bits.specs.Bits.{word_range}
use Rattle.bytes_le.specs.Bytes.{Bytes, AllBytes}
use Rattle.permutation.specs.Field.{element}
use Rattle.permutation.specs.State.{Grid, State, IsState, tabulate, at}
use Rattle.permutation.specs.Permutation.{times, matrix, μ, ρ, π, sbox, ψ, κ, R, P}
use Rattle.state_bytes.specs.StateBytes.{Shape, bytes_of, state_of}
use Rattle.rounds_back.specs.Inverse.{matrix⁻¹, μ⁻¹, ρ⁻¹, π⁻¹, sbox⁻¹, ψ⁻¹, R⁻¹, P⁻¹}
use Rattle.rounds_back.specs.Inverses.{Inverses}
use Rattle.rounds_back.specs.Driven.{driven}
use Rattle.rounds_back.specs.declared.Direction.{Direction}
use Rattle.rounds_back.specs.declared.Direction.TheVariants.{Back, Forward}
use Rattle.core_c.specs.Calls.{after_rounds}

-- the product of two matrices over GF(2^5): at row x and column i the coefficients of row x of a times column i of b
abbrev pub product : Grid → Grid → List (List (List Bool))
product a b = tabulate 4 (λ x. tabulate 4 (λ i. tabulate 5 (times a (λ j. element (at b j i)) x)))

-- the element 1 where row and column are the same, else 0
abbrev pub identity : List (List (List Bool))
identity = tabulate 4 (λ x. tabulate 4 (λ i. tabulate 5 (element (cond (eqb x i) 1 0))))

pub record RoundsBack : Type 0 where
  -- ---- "by undoing each of the five steps": each is undone after it is done, and done after it is undone, on every state
  pub mu : Inverses μ μ⁻¹
  pub rho : Inverses ρ ρ⁻¹
  pub pi : Inverses π π⁻¹
  pub psi : Inverses ψ ψ⁻¹
  pub kappa : (n : ℕ) → Inverses (λ s. κ s n) (λ s. κ s n)
  -- the matrix of μ⁻¹ is the inverse of that of μ, and the S-box of ψ⁻¹ of that of ψ, on the 32 values of five bits
  pub matrices : (product matrix⁻¹ matrix ≡ identity) × (product matrix matrix⁻¹ ≡ identity)
  pub boxes : (M : ℕ → Bool) → (tabulate 5 (sbox⁻¹ (sbox M)) ≡ tabulate 5 M) × (tabulate 5 (sbox (sbox⁻¹ M)) ≡ tabulate 5 M)
  -- ---- "Rounds forward after rounds back, and the reverse, are the identity": a round, and r rounds (r may pass 12: those rounds have no constant, and xor 0)
  pub round : (n : ℕ) → Inverses (λ s. R s n) (λ s. R⁻¹ s n)
  pub rounds : (r : ℕ) → Inverses (P r) (P⁻¹ r)
  -- ---- "There is always just one" from which r rounds reach the wanted state; and so no two states lead to the same
  pub just_one : (r : ℕ) (wanted : State) → IsState wanted
      → (s : State) × IsState s × (P r s ≡ wanted) × ((t : State) → IsState t → P r t ≡ wanted → t ≡ s)
  pub unique : (r : ℕ) (s t : State) → IsState s → IsState t → P r s ≡ P r t → s ≡ t
  -- the states of which all this speaks are those that the program holds: Shape and bound are what the type [[u64; 5]; 4] tells (`held` of `rounds_back::drive`)
  pub states : (s : State) → IsState s ↔ (Shape s × ((x y : ℕ) → at s x y < word_range))
  -- ---- the calls: "From a wanted state and r from 0 to 12, give the state from which r rounds, constants from 0, reach it"
  pub gives : (wanted : State) → IsState wanted → (r : ℕ) → r ≤ 12
      → ((driven Back wanted r).state ≡ bytes_of (P⁻¹ r wanted)) × (P r (state_of (driven Back wanted r).state) ≡ wanted)
  -- rounds forward arrive where r rounds lead
  pub arrives : (s : State) (r : ℕ) → r ≤ 12 → (driven Forward s r).state ≡ bytes_of (P r s)
  -- "It refuses r above 12 with 20", and nothing else. (That the state is all zeros then is a part of demand 1)
  pub refuses : (d : Direction) (s : State) (r : ℕ) → (((driven d s r).refusal ≡ 20) ↔ (12 < r)) × (((driven d s r).refusal ≡ 0) ↔ (r ≤ 12))
  -- ---- the C calls do the same to the first 160 bytes of a slice, and later bytes stay
  pub in_place : (d : Direction) (r : ℕ) (b : Bytes) → r ≤ 12 → 160 ≤ length b → after_rounds d r b ≡ (driven d (state_of (take 160 b)) r).state ++ drop 160 b
  -- one after the other they leave every slice as it was, of whatever length, whatever r is
  pub forward_after_back : (r : ℕ) (b : Bytes) → AllBytes b → after_rounds Forward r (after_rounds Back r b) ≡ b
  pub back_after_forward : (r : ℕ) (b : Bytes) → AllBytes b → after_rounds Back r (after_rounds Forward r b) ≡ b
