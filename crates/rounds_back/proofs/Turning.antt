-- ρ undone: a word rotated by k bits and by the rest is as it was.
-- Assumes nothing.
use mathlib.Core.Path.{◌≡◌, refl, sym, ap, ◌∙◌}
use Prim.Native.Nat.{ℕ, ◌+◌, ◌-◌, ◌%◌, ◌^◌, ◌<◌}
use native.Mathlib.Omega.{arith}
use Rattle.bits.specs.Bits.{bit}
use Rattle.bits.proofs.Laws.{by_bits, made-of-bits, number_same}
use Rattle.permutation.specs.State.{State, at, state}
use Rattle.permutation.specs.Permutation.{offsets, rotl, ρ}
use Rattle.permutation.proofs.Rotation.{bit-rotl, rotl-below}
use Rattle.rounds_back.specs.Inverse.{ρ⁻¹}
use Rattle.rounds_back.specs.Inverses.{Inverses}

-- rotated by j, then by k, where every bit comes back
whole-turn : (w j k : ℕ) → w < 2 ^ 64 → ((z : ℕ) → z < 64 → ((z + (64 - k)) % 64 + (64 - j)) % 64 ≡ z) → rotl (rotl w j) k ≡ w
whole-turn w j k h e =
    by_bits (rotl (rotl w j) k) (bit w) (rotl-below (rotl w j) k)
    (λ z l. bit-rotl (rotl w j) k z l ∙ bit-rotl w j ((z + (64 - k)) % 64) (omega arith) ∙ ap (bit w) (e z l))
    ∙ made-of-bits 64 w h

turn-back : (w k : ℕ) → w < 2 ^ 64 → rotl (rotl w k) (64 - k) ≡ w
turn-back w k h = whole-turn w k (64 - k) h (λ z l. omega arith)

turn-forth : (w k : ℕ) → w < 2 ^ 64 → rotl (rotl w (64 - k)) k ≡ w
turn-forth w k h = whole-turn w (64 - k) k h (λ z l. omega arith)

-- not turned, and turned once
pub whole-circle : (w : ℕ) → rotl w 0 ≡ rotl w 64
unfolding rotl
whole-circle w =
    number_same 64 (λ z. bit w ((z + 64) % 64)) (λ z. bit w ((z + 0) % 64)) (λ z l. ap (bit w) (let e : (z + 64) % 64 ≡ (z + 0) % 64 = omega arith in e))

pub rho-inverse : Inverses ρ ρ⁻¹
rho-inverse =
    record {
      done = λ s w. (λ x y. rotl (at s x y) (at offsets x y), λ x y. rotl-below (at s x y) (at offsets x y), refl);
      undone = λ s w. (λ x y. rotl (at s x y) (64 - at offsets x y), λ x y. rotl-below (at s x y) (64 - at offsets x y), refl);
      back = λ s w. ap (λ (t : State). ρ⁻¹ (ρ t)) w.2 ∙ (λ i. state (λ x y. turn-back (w.0 x y) (at offsets x y) (w.1 x y) i)) ∙ sym w.2;
      forth = λ s w. ap (λ (t : State). ρ (ρ⁻¹ t)) w.2 ∙ (λ i. state (λ x y. turn-forth (w.0 x y) (at offsets x y) (w.1 x y) i)) ∙ sym w.2;
    }
