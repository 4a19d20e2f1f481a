-- N10: from the laws of the steps undone (`rounds_back`), and of the C calls (`core_c`).
-- Assumes nothing.
use mathlib.Core.List.{◌++◌}
use mathlib.Core.Logic.{⊎_elim, ◌↔◌}
use mathlib.Core.Path.{◌≡◌, refl, sym, ap, ◌∙◌}
use Prim.Native.Nat.{ℕ, ◌≤◌, ◌<◌}
use native.Mathlib.Omega.{arith}
use lib.ListN.{length, take, drop}
use Rattle.bits.proofs.Cases.{le-or-lt}
use Rattle.bytes_le.specs.Bytes.{Bytes}
use Rattle.permutation.specs.State.{State, IsState}
use Rattle.permutation.specs.Permutation.{P}
use Rattle.state_bytes.specs.StateBytes.{bytes_of, state_of}
use Rattle.state_bytes.proofs.View.{shaped-state, state-held, state-shaped}
use Rattle.rounds_back.specs.Inverse.{P⁻¹}
use Rattle.rounds_back.specs.Inverses.{Inverses}
use Rattle.rounds_back.specs.Driven.{Driven, driven}
use Rattle.rounds_back.specs.declared.Direction.{Direction}
use Rattle.rounds_back.specs.declared.Direction.TheVariants.{Back, Forward}
use Rattle.rounds_back.proofs.Answers.{driven-above, driven-within}
use Rattle.rounds_back.proofs.Box.{box-back, box-forth, psi-inverse}
use Rattle.rounds_back.proofs.Mixing.{mu-inverse}
use Rattle.rounds_back.proofs.Places.{pi-inverse}
use Rattle.rounds_back.proofs.Rounds.{kappa-inverse, round-inverse, rounds-inverse}
use Rattle.rounds_back.proofs.Turning.{rho-inverse}
use Rattle.core_c.specs.Calls.{after_rounds}
use Rattle.core_c.proofs.Rounds.{fits}
use Rattle.core_c.proofs.ThereAndBack.{calls_back, first-call}
use Rattle.claims.specs.RoundsBack.{RoundsBack}

-- ---- just one
module _ (r : ℕ) where
  abbrev inverse : Inverses (P r) (P⁻¹ r)
  inverse = rounds-inverse r

  one : (wanted : State) → IsState wanted → (s : State) × IsState s × (P r s ≡ wanted) × ((t : State) → IsState t → P r t ≡ wanted → t ≡ s)
  one wanted w = (P⁻¹ r wanted, inverse.undone wanted w, inverse.forth wanted w, λ t h e. sym (inverse.back t h) ∙ ap (P⁻¹ r) e)

  none-meet : (s t : State) → IsState s → IsState t → P r s ≡ P r t → s ≡ t
  none-meet s t hs ht e = sym (inverse.back s hs) ∙ ap (P⁻¹ r) e ∙ inverse.back t ht

-- ---- the calls
gives : (wanted : State) → IsState wanted → (r : ℕ) → r ≤ 12
    → ((driven Back wanted r).state ≡ bytes_of (P⁻¹ r wanted)) × (P r (state_of (driven Back wanted r).state) ≡ wanted)
gives wanted w r h =
    let e = ap (λ (d : Driven). d.state) (driven-within Back wanted r h) in
    let i = rounds-inverse r in
    (e, ap (λ (b : Bytes). P r (state_of b)) e ∙ ap (P r) (state-held (P⁻¹ r wanted) (i.undone wanted w)) ∙ i.forth wanted w)

module _ (d : Direction) (s : State) (r : ℕ) where
  abbrev number : ℕ
  number = (driven d s r).refusal

  within : r ≤ 12 → number ≡ 0
  within h = ap (λ (a : Driven). a.refusal) (driven-within d s r h)

  above : 12 < r → number ≡ 20
  above h = ap (λ (a : Driven). a.refusal) (driven-above d s r h)

  refuses : ((number ≡ 20) ↔ (12 < r)) × ((number ≡ 0) ↔ (r ≤ 12))
  refuses = (
    (λ e. ⊎_elim (λ h. absurd (let f : 0 ≡ 20 = sym (within h) ∙ e in omega arith)) (λ h. h) (le-or-lt r 12), above),
    (λ e. ⊎_elim (λ h. h) (λ h. absurd (let f : 20 ≡ 0 = sym (above h) ∙ e in omega arith)) (le-or-lt r 12), within),
  )

in_place : (d : Direction) (r : ℕ) (b : Bytes) → r ≤ 12 → 160 ≤ length b → after_rounds d r b ≡ (driven d (state_of (take 160 b)) r).state ++ drop 160 b
in_place d r b h k =
    first-call d r b (fits r (length b) h k) ∙ ap (λ (a : Driven). a.state ++ drop 160 b) (sym (driven-within d (state_of (take 160 b)) r h))

pub rounds-back : RoundsBack
rounds-back =
    record {
      mu = mu-inverse;
      rho = rho-inverse;
      pi = pi-inverse;
      psi = psi-inverse;
      kappa = kappa-inverse;
      matrices = (refl, refl);
      boxes = λ M. (box-back M, box-forth M);
      round = round-inverse;
      rounds = rounds-inverse;
      just_one = one;
      unique = none-meet;
      states = λ s. (state-shaped s, λ h. shaped-state s h.0 h.1);
      gives = gives;
      arrives = λ s r h. ap (λ (a : Driven). a.state) (driven-within Forward s r h);
      refuses = refuses;
      in_place = in_place;
      forward_after_back = λ r. calls_back Back Forward r (rounds-inverse r).undone (rounds-inverse r).forth;
      back_after_forward = λ r. calls_back Forward Back r (rounds-inverse r).done (rounds-inverse r).back;
    }
