-- Exclusive or of numbers cancels, so that it is 0 exactly where they are equal; an or is 0 exactly where both numbers are.
-- Assumes nothing.
use mathlib.Core.Path.{◌≡◌, refl, sym, ap, ap₂, ◌∙◌}
use mathlib.Core.Bool.{Bool, true, false, cond}
use Prim.Native.Nat.{ℕ, zero, suc, ◌<◌, ◌+◌, ◌*◌, ◌/◌, ◌%◌}
use native.Mathlib.Nat.{mod-lt, zero-lt-suc, div-add-mod'}
use native.Mathlib.Omega.{arith}
use lib.Arith.{bin_ind}
use lib.Bits.{bit_xor, bit_or, and_le_r, or_add_and, xor_self, xor_zero_r, xor_shr, xor_mod, differ, xor_step}
use lib.Dec.{eqb}
use borrow.Author.Tests.{eq-eqb, ne_eqb, eqb-true, eqb-false}
use Rattle.bits.proofs.Cases.{two}

bits-cancel : (x y : ℕ) → x < 2 → y < 2 → differ x (differ x y) ≡ y
bits-cancel x y hx hy =
    two (λ a. differ a (differ a y) ≡ y) refl (two (λ b. differ 1 (differ 1 b) ≡ b) refl refl y hy) x hx

xor-half : (a b : ℕ) → bit_xor a b / 2 ≡ bit_xor (a / 2) (b / 2)
xor-half a b = xor_shr a b 1

differ-bits : (x y : ℕ) → x < 2 → y < 2 → bit_xor x y ≡ differ x y
differ-bits x y hx hy = two (λ a. bit_xor a y ≡ differ a y) refl (two (λ b. bit_xor 1 b ≡ differ 1 b) refl refl y hy) x hx

xor-odd : (a b : ℕ) → bit_xor a b % 2 ≡ differ (a % 2) (b % 2)
xor-odd a b = xor_mod a b 1 ∙ differ-bits (a % 2) (b % 2) (mod-lt a (zero-lt-suc 1)) (mod-lt b (zero-lt-suc 1))

-- xor with the same number twice
pub number-xor-cancel : (a b : ℕ) → bit_xor a (bit_xor a b) ≡ b
number-xor-cancel =
    bin_ind (λ (n : ℕ). (b : ℕ) → bit_xor n (bit_xor n b) ≡ b) (λ b. refl)
    (λ n ih b.
    xor_step n (bit_xor n b)
    ∙ ap₂ (λ (x y : ℕ). x * 2 + y) (ap (bit_xor (n / 2)) (xor-half n b) ∙ ih (b / 2))
    (ap (differ (n % 2)) (xor-odd n b) ∙ bits-cancel (n % 2) (b % 2) (mod-lt n (zero-lt-suc 1)) (mod-lt b (zero-lt-suc 1)))
    ∙ div-add-mod' b 2)

xor-equal : (a b : ℕ) → bit_xor a b ≡ 0 → a ≡ b
xor-equal a b e = sym (xor_zero_r a) ∙ ap (bit_xor a) (sym e) ∙ number-xor-cancel a b

pub xor-test : (a b : ℕ) → eqb (bit_xor a b) 0 ≡ eqb a b
xor-test a b = by (eqb a b) refl
  where
    by : (t : Bool) → eqb a b ≡ t → eqb (bit_xor a b) 0 ≡ t
    by true e = eq-eqb (bit_xor a b) 0 (ap (bit_xor a) (sym (eqb-true a b e)) ∙ xor_self a)
    by false e = ne_eqb (bit_xor a b) 0 (λ z. eqb-false a b e (xor-equal a b z))

or-none : (a b : ℕ) → bit_or a b ≡ 0 → a ≡ 0
or-none a b e = omega (arith, or_add_and a b, and_le_r a b)

pub or-test : (x y : ℕ) → eqb (bit_or x y) 0 ≡ cond (eqb x 0) (eqb y 0) false
or-test zero y = refl
or-test (suc x) y =
    ne_eqb (bit_or (suc x) y) 0 (λ z. let n : suc x ≡ 0 = or-none (suc x) y z in omega arith)
    ∙ ap (λ (b : Bool). cond b (eqb y 0) false) (sym (ne_eqb (suc x) 0 (λ z. omega arith)))
