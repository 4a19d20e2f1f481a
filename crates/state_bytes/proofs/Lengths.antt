-- A state has `state_length` bytes.
-- Assumes nothing.
use mathlib.Core.Path.{◌≡◌, refl, ap, ◌∙◌}
use Prim.Native.Nat.{ℕ, zero, suc, ◌+◌, ◌*◌}
use native.Mathlib.Omega.{arith}
use lib.ListN.{length, length-append}
use Rattle.bytes_le.specs.Bytes.{Bytes, le}
use Rattle.permutation.specs.Permutation.{P}
use Rattle.permutation.specs.State.{State}
use Rattle.state_bytes.specs.StateBytes.{bytes_below, bytes_of, permuted, state_of, word_of}

pub length-below : (s : State) (w : ℕ) → length (bytes_below s w) ≡ w * 8
length-below s zero = refl
length-below s (suc w) = length-append (bytes_below s w) (le 8 (word_of s w)) ∙ ap (λ (n : ℕ). n + 8) (length-below s w) ∙ (omega arith)

pub length-bytes : (s : State) → length (bytes_of s) ≡ 160
unfolding bytes_of
length-bytes s = length-below s 20

pub length-permuted : (n : ℕ) (v : Bytes) → length (permuted n v) ≡ 160
unfolding permuted
length-permuted n v = length-bytes (P n (state_of v))
