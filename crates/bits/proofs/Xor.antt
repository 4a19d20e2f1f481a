-- Exclusive or of bits: the laws by which `simp xors` puts a sum of bits in order and cancels what stands twice.
-- Assumes nothing.
use mathlib.Core.Path.{◌≡◌, refl, sym, ap, ◌∙◌}
use mathlib.Core.Bool.{Bool, true, false, not, ◌&&◌, beq}
use Rattle.bits.specs.Bits.{◌⊕◌}

pub xor-false : (a : Bool) → a ⊕ false ≡ a
xor-false false = refl
xor-false true = refl

pub xor-true : (a : Bool) → a ⊕ true ≡ not a
xor-true false = refl
xor-true true = refl

-- exclusive or of bools, as code has it
pub differ : (a b : Bool) → not (beq a b) ≡ a ⊕ b
differ false false = refl
differ false true = refl
differ true false = refl
differ true true = refl

pub xor_self : (a : Bool) → a ⊕ a ≡ false
xor_self false = refl
xor_self true = refl

pub xor_comm : (a b : Bool) → a ⊕ b ≡ b ⊕ a
xor_comm false b = sym (xor-false b)
xor_comm true false = refl
xor_comm true true = refl

pub xor_assoc : (a b c : Bool) → (a ⊕ b) ⊕ c ≡ a ⊕ (b ⊕ c)
xor_assoc false b c = refl
xor_assoc true false c = refl
xor_assoc true true false = refl
xor_assoc true true true = refl

pub xor-left : (a b c : Bool) → a ⊕ (b ⊕ c) ≡ b ⊕ (a ⊕ c)
xor-left a b c = sym (xor_assoc a b c) ∙ ap (λ (x : Bool). x ⊕ c) (xor_comm a b) ∙ xor_assoc b a c

pub xor-cancel : (a b : Bool) → a ⊕ (a ⊕ b) ≡ b
xor-cancel a b = sym (xor_assoc a a b) ∙ ap (λ (x : Bool). x ⊕ b) (xor_self a)

pub false-xor : (a : Bool) → false ⊕ a ≡ a
false-xor a = refl

pub true-and : (a : Bool) → true && a ≡ a
true-and a = refl

pub false-and : (a : Bool) → false && a ≡ false
false-and a = refl

pub ruleset xors = (false-xor, true-and, false-and, xor_assoc, xor_comm, xor-left, xor_self, xor-cancel, xor-false)
