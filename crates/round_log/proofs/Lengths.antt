-- The lengths of logs: which they are, and what the verdict is for those and for all others.
-- Assumes nothing.
use mathlib.Core.Path.{◌≡◌, refl, ap, ap₂, ◌∙◌}
use mathlib.Core.Bool.{Bool, true, false, cond, ◌&&◌}
use Prim.Native.Nat.{ℕ, ◌+◌, ◌*◌, ◌≤◌}
use native.Mathlib.Omega.{arith}
use lib.Dec.{eqb, leb}
use lib.ListN.{length}
use borrow.Author.Tests.{eq-eqb, eqb-true, le-leb, leb-true}
use Rattle.bits.proofs.Cases.{and-true}
use Rattle.bytes_le.specs.Bytes.{Bytes}
use Rattle.permutation.specs.Permutation.{max_rounds}
use Rattle.round_log.specs.RoundLog.{log_length, rounds_in, is_log_length, judged, verdict, Refused}

-- n bytes are a log of r rounds
abbrev pub LogOf : ℕ → ℕ → Type 0
LogOf r n = (1 ≤ r) × (r ≤ max_rounds) × (n ≡ log_length r)

pub length-told : (n : ℕ) → is_log_length n ≡ true → LogOf (rounds_in n) n
length-told n e =
    let p = and-true _ (leb (rounds_in n) max_rounds) e in
    let q = and-true (eqb n (log_length (rounds_in n))) (leb 1 (rounds_in n)) p.0 in
    (leb-true 1 (rounds_in n) q.1, leb-true (rounds_in n) max_rounds p.1, eqb-true n (log_length (rounds_in n)) q.0)

pub rounds-told : (n r : ℕ) → LogOf r n → rounds_in n ≡ r
rounds-told n r h = let e : n ≡ 160 * (1 + r) = h.2 in omega arith

pub length-right : (n r : ℕ) → LogOf r n → is_log_length n ≡ true
length-right n r h =
    let e : rounds_in n ≡ r = rounds-told n r h in
    ap (λ (k : ℕ). eqb n (log_length k) && leb 1 k && leb k max_rounds) e
    ∙ ap₂ (λ (a b : Bool). a && b) (ap₂ (λ (a b : Bool). a && b) (eq-eqb n (log_length r) h.2) (le-leb 1 r h.0)) (le-leb r max_rounds h.1)

module _ (log : Bytes) where
  pub verdict-judged : (r : ℕ) → LogOf r (length log) → verdict log ≡ judged log 0 r
  unfolding verdict
  verdict-judged r h =
      ap₂ (λ (b : Bool) (k : ℕ). cond b (judged log 0 k) (Refused 19)) (length-right (length log) r h) (rounds-told (length log) r h)

  pub verdict-refused : ((r : ℕ) → LogOf r (length log) → ⊥) → verdict log ≡ Refused 19
  unfolding verdict
  verdict-refused none = by (is_log_length (length log)) refl
    where
      by : (b : Bool) → is_log_length (length log) ≡ b → cond (is_log_length (length log)) (judged log 0 (rounds_in (length log))) (Refused 19) ≡ Refused 19
      by true e = absurd (none (rounds_in (length log)) (length-told (length log) e))
      by false e = ap (λ (b : Bool). cond b (judged log 0 (rounds_in (length log))) (Refused 19)) e
