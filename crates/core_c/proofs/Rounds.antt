-- The numbers of the calls that run rounds, by cases, and what they leave.
-- Assumes nothing.
use mathlib.Core.Bool.{Bool, cond}
use mathlib.Core.Logic.{⊎_elim}
use mathlib.Core.Path.{◌≡◌, sym, ap, ap₂, ◌∙◌}
use Prim.Native.Nat.{ℕ, ◌≤◌, ◌<◌}
use lib.Dec.{ltb}
use native.Mathlib.Omega.{arith}
use lib.ListN.{length, take}
use borrow.Author.Tests.{eq-eqb, le-ltb, lt-ltb, ne_eqb}
use Rattle.bits.proofs.Cases.{le-or-lt}
use Rattle.bytes_le.specs.Bytes.{Bytes, put_bytes}
use Rattle.permutation.specs.State.{State}
use Rattle.permutation.specs.Permutation.{max_rounds}
use Rattle.state_bytes.specs.StateBytes.{bytes_of, state_length, state_of}
use Rattle.rounds_back.specs.Driven.{ran}
use Rattle.rounds_back.specs.declared.Direction.{Direction}
use Rattle.core_c.specs.Calls.{after_rounds, rounds_refusal}

module _ (r n : ℕ) where
  pub too_many : max_rounds < r → rounds_refusal r n ≡ 20
  too_many h = ap (λ (b : Bool). cond b 20 (cond (ltb n state_length) 5 0)) (lt-ltb max_rounds r h)

  pub too_short : r ≤ max_rounds → n < state_length → rounds_refusal r n ≡ 5
  too_short h k = ap₂ (λ (a b : Bool). cond a 20 (cond b 5 0)) (le-ltb max_rounds r h) (lt-ltb n state_length k)

  pub fits : r ≤ max_rounds → state_length ≤ n → rounds_refusal r n ≡ 0
  fits h k = ap₂ (λ (a b : Bool). cond a 20 (cond b 5 0)) (le-ltb max_rounds r h) (le-ltb n state_length k)

  -- no refusal: the rounds are within the limit, and the slice has room
  pub within : rounds_refusal r n ≡ 0 → (r ≤ max_rounds) × (state_length ≤ n)
  within e =
      ⊎_elim
      (λ h. ⊎_elim (λ k. (h, k)) (λ k. absurd (let f : 5 ≡ 0 = sym (too_short h k) ∙ e in omega arith)) (le-or-lt state_length n))
      (λ h. absurd (let f : 20 ≡ 0 = sym (too_many h) ∙ e in omega arith))
      (le-or-lt r max_rounds)

module _ (direction : Direction) (r : ℕ) (b : Bytes) where
  pub refused-leaves : (n : ℕ) → n ≡ rounds_refusal r (length b) → (n ≡ 0 → ⊥) → b ≡ after_rounds direction r b
  unfolding after_rounds
  refused-leaves n e h =
      sym (ap (λ (t : Bool). cond t (put_bytes b 0 (bytes_of (ran direction r (state_of (take state_length b))))) b) (ne_eqb (rounds_refusal r (length b)) 0 (λ z. h (e ∙ z))))

  -- the state s in the slice, the state t that the rounds come to, and the slice c with t
  pub done-leaves : rounds_refusal r (length b) ≡ 0 → (s t : State) (c : Bytes)
      → s ≡ state_of (take state_length b) → t ≡ ran direction r s → c ≡ put_bytes b 0 (bytes_of t) → c ≡ after_rounds direction r b
  unfolding after_rounds
  done-leaves z s t c es et ec =
      ec
      ∙ ap (λ (u : State). put_bytes b 0 (bytes_of u)) (et ∙ ap (ran direction r) es)
      ∙ sym (ap (λ (t : Bool). cond t (put_bytes b 0 (bytes_of (ran direction r (state_of (take state_length b))))) b) (eq-eqb (rounds_refusal r (length b)) 0 z))
