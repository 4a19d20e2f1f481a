-- Exclusive or of runs of bytes, and of words as their bytes.
-- Assumes nothing.
use mathlib.Core.Path.{◌≡◌, refl, sym, ap, ap₂, ◌∙◌}
use mathlib.Core.List.{[], ◌∷◌, ◌++◌}
use Prim.Native.Nat.{ℕ, zero, suc, ◌+◌, ◌/◌, ◌≤◌}
use native.Mathlib.Nat.{not-suc-le-zero, le_of_suc-le-suc}
use native.Mathlib.Omega.{arith}
use lib.Bits.{bit_xor, xor_shr, xor_mod}
use lib.ListN.{length, drop}
use Rattle.bytes_le.specs.Bytes.{Bytes, le, put_bytes}
use Rattle.bytes_le.proofs.Laws.{put_front, put_next}
use Rattle.blocks.specs.Sealing.{◌⊕₈◌, xor_with}
use Rattle.blocks.specs.WayLaws.{length-xor, xor-none}

-- the bytes of an exclusive or of words
pub le-xor : (n a b : ℕ) → le n (bit_xor a b) ≡ le n a ⊕₈ le n b
le-xor zero a b = refl
le-xor (suc n) a b =
    ap₂ (λ (x : ℕ) (l : Bytes). x ∷ l) (xor_mod a b 8)
    (ap (le n) (xor_shr a b 8) ∙ le-xor n (a / 256) (b / 256))

xor-with-front : (v q : Bytes) → length q ≤ length v → xor_with v q ≡ (v ⊕₈ q) ++ drop (length q) v
xor-with-front v [] h = ap (λ (l : Bytes). l ++ v) (sym (xor-none v))
xor-with-front [] (y ∷ q) h = absurd (not-suc-le-zero h)
xor-with-front (x ∷ v) (y ∷ q) h = ap (λ (l : Bytes). bit_xor x y ∷ l) (xor-with-front v q (le_of_suc-le-suc h))

-- a run more is xored in
pub xor-with-run : (v p q : Bytes) → length p + length q ≤ length v
    → put_bytes (xor_with v p) (length p) (drop (length p) (xor_with v p) ⊕₈ q) ≡ xor_with v (p ++ q)
xor-with-run v [] q h =
    put_front v (v ⊕₈ q)
    ∙ ap (λ (k : ℕ). (v ⊕₈ q) ++ drop k v) (length-xor v q (omega arith))
    ∙ sym (xor-with-front v q (omega arith))
xor-with-run [] (y ∷ p) q h = absurd (omega arith)
xor-with-run (x ∷ v) (y ∷ p) q h =
    put_next (bit_xor x y) (xor_with v p) (length p) (drop (length p) (xor_with v p) ⊕₈ q)
    ∙ ap (λ (l : Bytes). bit_xor x y ∷ l) (xor-with-run v p q (omega arith))
