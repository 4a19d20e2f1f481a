-- `rounds_back::row` meets its contract. The loop's invariant: t is the row times the vector, by the coefficients from a^k on.
-- Assumes nothing.
use mathlib.Core.List.{[], ◌∷◌}
use mathlib.Core.Path.{◌≡◌}
use Prim.Native.Nat.{◌-◌}
use Rattle.rounds_back.proofs.Horner.{upper_words}
use Rattle.rounds_back.proofs.row.Given as goal

abbrev pub invariant-loop-k : goal.invariant-loop-k
invariant-loop-k g l = l.t ≡ upper_words (g.row.N0 ∷ g.row.N1 ∷ g.row.N2 ∷ g.row.N3 ∷ []) l.s (5 - l.k) l.k
