-- One round is judged, and the verdict on the rounds from it on is that on the rest, or that this one differs.
-- Assumes nothing.
use mathlib.Core.Path.{◌≡◌, refl, sym, ap, ap₂, ◌∙◌}
use mathlib.Core.Bool.{Bool, true, false, cond, not}
use Prim.Native.Nat.{ℕ, suc, ◌+◌, ◌-◌, ◌<◌}
use native.Mathlib.Omega.{arith}
use lib.Dec.{eqb}
use lib.Pointwise.{pointwise}
use Rattle.bytes_le.specs.Bytes.{Bytes}
use Rattle.permutation.specs.State.{State}
use Rattle.permutation.specs.Permutation.{R}
use Rattle.round_log.proofs.Same.{states-same}
use Rattle.round_log.specs.RoundLog.{state_at, same_state, round_agrees, judged, Differs}

module _ (log : Bytes) (r i : ℕ) (h : i < r) where
  turn : judged log i (r - i) ≡ cond (round_agrees log i) (judged log (i + 1) (r - (i + 1))) (Differs i)
  unfolding judged
  turn =
      let e : r - i ≡ suc (r - (i + 1)) = omega arith in
      let f : suc i ≡ i + 1 = omega arith in
      ap (judged log i) e ∙ ap (λ (k : ℕ). cond (round_agrees log i) (judged log k (r - (i + 1))) (Differs i)) f

  -- by the code's own states, and its test d of whether they differ
  pub judged-by : (before expected after : State) → before ≡ state_at log i → expected ≡ R before i → after ≡ state_at log (i + 1) → (d : Bool)
      → d ≡ not (pointwise (pointwise eqb) expected after) → cond d (Differs i) (judged log (i + 1) (r - (i + 1))) ≡ judged log i (r - i)
  unfolding round_agrees
  judged-by before expected after eb ee ea d e =
      let f : i + 1 ≡ suc i = omega arith in
      let agrees : pointwise (pointwise eqb) expected after ≡ round_agrees log i =
      states-same expected after ∙ ap₂ same_state (ee ∙ ap (λ (s : State). R s i) eb) (ea ∙ ap (state_at log) f) in
      ap (λ (b : Bool). cond b (Differs i) (judged log (i + 1) (r - (i + 1)))) (e ∙ ap not agrees) ∙ turned (round_agrees log i) ∙ sym turn
    where
      turned : (t : Bool) → cond (not t) (Differs i) (judged log (i + 1) (r - (i + 1))) ≡ cond t (judged log (i + 1) (r - (i + 1))) (Differs i)
      turned true = refl
      turned false = refl
