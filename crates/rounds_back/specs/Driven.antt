-- What the call answers (02, N10): "From a wanted state and r from 0 to 12, give the state from which r rounds, constants from 0, reach it. .. It refuses r above 12
-- with 20." Rounds forward have the same limits, so that the bench can see where they arrive.
-- Assumes nothing.
use Rattle.std.specs.Prelude.{Result, cond, ℕ, ltb, replicate}
use Rattle.bytes_le.specs.Bytes.{Bytes}
use Rattle.permutation.specs.State.{State}
use Rattle.permutation.specs.Permutation.{max_rounds, P}
use Rattle.state_bytes.specs.StateBytes.{state_length, bytes_of}
use Rattle.refusals.specs.declared.Refusal.{Refusal}
use Rattle.refusals.specs.Numbers.{number_of, value_or}
use Rattle.rounds_back.specs.Inverse.{P⁻¹}
use Rattle.rounds_back.specs.declared.Direction.{Direction}
use Rattle.rounds_back.specs.declared.Direction.TheVariants.{Back, Forward}

-- Back: the state from which the first n rounds lead to s. Forward: the state to which they lead from s
abbrev pub ran : Direction → ℕ → State → State
ran Back n s = P⁻¹ n s
ran Forward n s = P n s

-- the answer: the refusal number, or 0, and the state as its bytes in word order
pub record Driven : Type 0 where
  pub refusal : ℕ
  pub state : Bytes

-- the state t
abbrev pub driven_to : State → Driven
driven_to t = record { refusal = 0; state = bytes_of t }

-- the refusal number
abbrev pub too_many_rounds : ℕ
too_many_rounds = 20

-- refused: the state is all zeros
abbrev pub not_driven : Driven
not_driven = record { refusal = too_many_rounds; state = replicate state_length 0 }

unfoldable pub driven : Direction → State → ℕ → Driven
driven direction s r = cond (ltb max_rounds r) not_driven (driven_to (ran direction r s))

-- what an answer of the code says
abbrev pub answered : Result Bytes Refusal → Driven
answered a = record { refusal = number_of a; state = value_or (λ b. b) not_driven.state a }
