-- RC is made bit by bit.
-- Assumes nothing.
use mathlib.Core.Path.{◌≡◌, sym, ap, ◌∙◌}
use mathlib.Core.Bool.{cond}
use Prim.Native.Nat.{ℕ, suc, ◌+◌, ◌-◌, ◌*◌, ◌%◌, ◌^◌, ◌≤◌, ◌<◌}
use native.Mathlib.Numerals.{add-one}
use native.Mathlib.Omega.{arith}
use lib.Dec.{eqb}
use lib.Pow.{pow_mono}
use Rattle.bits.specs.Bits.{bit, word}
use Rattle.bits.proofs.Laws.{number_same, one_shifted, bit-number}
use Rattle.constants.specs.Keccak.{rc, RC}
use Rattle.constants.specs.Words.{with_bit}

pub one-to-64 : (j : ℕ) → j < 7 → (1 ≤ 1 * 2 ^ j % 2 ^ 32) × (1 * 2 ^ j % 2 ^ 32 ≤ 64)
one-to-64 j l =
    let e = one_shifted 32 j (omega arith) in
    let h : 2 ^ 0 ≤ 2 ^ j = pow_mono {i = 0} {j = j} (omega arith) in
    let m : 2 ^ j ≤ 2 ^ 6 = pow_mono {i = j} {j = 6} (omega arith) in (
      omega (arith, e, h),
      omega (arith, e, m),
    )

pub next_bit : (j i : ℕ) → j < 7 → with_bit (word (RC j i)) (1 * 2 ^ j % 2 ^ 32 - 1) (rc (j + 7 * i)) ≡ word (RC (j + 1) i)
next_bit j i l =
    ap (λ (n : ℕ). with_bit (word (RC j i)) (n - 1) (rc (j + 7 * i))) (one_shifted 32 j (omega arith))
    ∙ number_same 64 (λ z. cond (eqb z (2 ^ j - 1)) (rc (j + 7 * i)) (bit (word (RC j i)) z)) (RC (suc j) i)
    (λ z h. ap (cond (eqb z (2 ^ j - 1)) (rc (j + 7 * i))) (bit-number 64 (RC j i) z h))
    ∙ ap (λ (n : ℕ). word (RC n i)) (sym (add-one j))
