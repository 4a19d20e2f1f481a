-- `rounds_back::psi_back` meets its contract: each column is what `sbox_back` ensures.
-- Assumes nothing.
use mathlib.Core.List.{[], ◌∷◌}
use Rattle.rounds_back.specs.Inverse.{ψ⁻¹}
use Rattle.rounds_back.proofs.psi_back.Goals as goal

pub returns : goal.returns
unfolding ψ⁻¹
returns c i =
    c.sbox_back.ensures i
    ∷ c.sbox_back-2.ensures i
    ∷ c.sbox_back-3.ensures i
    ∷ c.sbox_back-4.ensures i
    ∷ []
