-- The laws of the ways through data, and of the places that bytes are put into.
-- Assumes nothing.
use mathlib.Core.Path.{◌≡◌, refl, sym, ap, ◌∙◌}
use mathlib.Core.List.{[], ◌∷◌, ◌++◌}
use Prim.Native.Nat.{ℕ, zero, suc, ◌+◌, ◌≤◌}
use native.Mathlib.Nat.{not-suc-le-zero, le_of_suc-le-suc}
use native.Mathlib.Omega.{arith}
use lib.Bits.{bit_xor}
use lib.ListN.{length, take, drop}
use Rattle.bytes_le.specs.Bytes.{Bytes, put_bytes}
use Rattle.bytes_le.proofs.Laws.{put-none, put-put}
use Rattle.blocks.specs.Sealing.{◌⊕₈◌}
use Rattle.blocks.specs.Ways.{Puts, Takes}

-- ---- exclusive or of bytes
pub xor-none : (v : Bytes) → v ⊕₈ [] ≡ []
xor-none [] = refl
xor-none (x ∷ v) = refl

pub length-xor : (v b : Bytes) → length b ≤ length v → length (v ⊕₈ b) ≡ length b
length-xor [] [] h = refl
length-xor [] (y ∷ b) h = absurd (not-suc-le-zero h)
length-xor (x ∷ v) [] h = refl
length-xor (x ∷ v) (y ∷ b) h = ap suc (length-xor v b (le_of_suc-le-suc h))

-- only so many bytes count
pub xor-front : (v b : Bytes) (n : ℕ) → length b ≤ n → take n v ⊕₈ b ≡ v ⊕₈ b
xor-front v [] n h = xor-none (take n v) ∙ sym (xor-none v)
xor-front v (y ∷ b) zero h = absurd (not-suc-le-zero h)
xor-front [] (y ∷ b) (suc n) h = refl
xor-front (x ∷ v) (y ∷ b) (suc n) h = ap (λ (l : Bytes). bit_xor x y ∷ l) (xor-front v b n (le_of_suc-le-suc h))

pub xor-append : (v b c : Bytes) → v ⊕₈ (b ++ c) ≡ (v ⊕₈ b) ++ (drop (length b) v ⊕₈ c)
xor-append v [] c = sym (ap (λ (l : Bytes). l ++ (v ⊕₈ c)) (xor-none v))
xor-append [] (y ∷ b) c = refl
xor-append (x ∷ v) (y ∷ b) c = ap (λ (l : Bytes). bit_xor x y ∷ l) (xor-append v b c)

-- ---- the laws
pub seal_takes : Takes (λ (v b : Bytes). b)
seal_takes = record { sized = λ v b h. refl; front = λ v b n h. refl; append = λ v b c. refl }

pub open_takes : Takes ◌⊕₈◌
open_takes = record { sized = length-xor; front = xor-front; append = xor-append }

pub written_puts : Puts (λ (n : ℕ). n) put_bytes
written_puts = record {
  fewer = λ m n h. h;
  none = put-none;
  append = λ o b c to h. put-put o to b c (to + length b) refl (omega arith);
}

pub nowhere_puts : Puts (λ (n : ℕ). 0) (λ (o : Bytes) (to : ℕ) (b : Bytes). o)
nowhere_puts = record { fewer = λ m n h. omega arith; none = λ o to. refl; append = λ o b c to h. refl }
