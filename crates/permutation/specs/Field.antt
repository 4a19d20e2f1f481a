-- GF(2^5): polynomials in a over GF(2), modulo a^5 + a^2 + 1 (003, 2.5, which writes x for a). The element p has the coefficient p k at a^k, for k below 5;
-- what it has at 5 and above is never used.
-- Assumes nothing.
use Rattle.std.specs.Prelude.{Bool, false, ◌&&◌, ℕ, zero, suc, ◌/◌, ◌%◌, ◌^◌, eqb}
use mathlib.Core.List.{List, foldr}
use Rattle.bits.specs.Bits.{◌⊕◌}

abbrev pub Element : Type 0
Element = ℕ → Bool

-- the element that the paper writes as the number n: its coefficient at a^k is binary digit k of n, so 18 is a^4 + a
abbrev pub element : ℕ → Element
element n k = eqb (n / 2 ^ k % 2) 1

-- the sum, coefficient by coefficient
abbrev pub plus : Element → Element → Element
plus p q k = p k ⊕ q k

abbrev pub sum : List Element → Element
sum = foldr plus (λ k. false)

-- a · q, its coefficients at 1, a, a^2, and above: each moves up by one, and q4 · a^5 is q4 · (a^2 + 1)
abbrev pub times_a : Element → Element
times_a q zero = q 4
times_a q (suc zero) = q 0
times_a q (suc (suc zero)) = q 1 ⊕ q 4
times_a q (suc (suc (suc k))) = q (suc (suc k))

-- p · q, for a p of n coefficients: p0 · q + a · ((p1 + p2 · a + ..) · q)
abbrev pub times_n : ℕ → Element → Element → Element
times_n zero p q = λ k. false
times_n (suc n) p q = plus (λ k. p 0 && q k) (times_a (times_n n (λ k. p (suc k)) q))

infixl 36 ◌·◌
-- the product in GF(2^5) (in 003, 2.3, · is the bitwise and)
abbrev pub ◌·◌ : Element → Element → Element
p · q = times_n 5 p q
