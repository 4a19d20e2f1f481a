-- The claims about the permutation, beside the contracts of `permutation::p::<6>`, `p::<12>` and `start_state`.
-- Assumes nothing.
use Rattle.std.specs.Prelude.{◌≡◌, ℕ, ◌+◌, ◌%◌, ◌≤◌, ◌<◌}
use Rattle.bits.specs.Bits.{bit, word_length}
use Rattle.permutation.specs.State.{State}
use Rattle.permutation.specs.Permutation.{μ, rotl}
use Rattle.permutation.specs.AppendixB.{appendix_b}

-- the equations of Appendix B agree with the matrix, for every state
abbrev pub AppendixBAgrees : Type 0
AppendixBAgrees = (s : State) → appendix_b s ≡ μ s

-- ρ as the paper says it: rotation by k moves bit z into position (z + k) modulo 64
abbrev pub BitsMove : Type 0
BitsMove = (w k z : ℕ) → k ≤ word_length → z < word_length → bit (rotl w k) ((z + k) % word_length) ≡ bit w z
