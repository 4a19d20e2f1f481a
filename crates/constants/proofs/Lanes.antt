-- The steps of Keccak-f on whole lanes agree with FIPS 202's formulas at each bit.
-- Assumes nothing.
use mathlib.Core.Path.{◌≡◌, sym, ap, ◌∙◌}
use mathlib.Core.Bool.{Bool, true, ◌&&◌}
use mathlib.Core.List.{[], ◌∷◌}
use Prim.Native.Nat.{ℕ, ◌+◌, ◌*◌, ◌%◌, ◌^◌, ◌<◌}
use lib.Bits.{bit_and}
use lib.Dec.{lit<}
use lib.ListN.{get_or}
use Rattle.bits.specs.Bits.{◌⊕◌, bit, word}
use Rattle.bits.proofs.Xor.{xor-true}
use Rattle.bits.proofs.Laws.{by_bits, made-of-bits, number-below, bit-number, bit-xor, bit-and, bit_not}
use Rattle.permutation.specs.State.{tabulate, grid, at, set_word}
use Rattle.permutation.specs.Permutation.{rotl}
use Rattle.permutation.specs.Words.{◌⊻◌}
use Rattle.permutation.proofs.Columns.{~, xor64, and64, not64}
use Rattle.permutation.proofs.Rotation.{rotl-below, bit-rotl}
use Rattle.constants.specs.Keccak.{StateArray, bit_at, array, θ, π, χ, ι, RC, iota_constant}
use Rattle.constants.specs.Words.{Sheet, parity_word, xor_each}
use Rattle.constants.proofs.Lists.{tabulate-each, set-each}

-- every lane is a word
abbrev pub Fits : StateArray → Type 0
Fits a = (x y : ℕ) → at a x y < 2 ^ 64

abbrev SheetFits : Sheet → Type 0
SheetFits s = (y : ℕ) → get_or s y 0 < 2 ^ 64

none : SheetFits []
none y = lit< tt

pub array-fits : (f : ℕ → ℕ → ℕ → Bool) → Fits (array f)
array-fits f =
    tabulate-each SheetFits [] 5 (λ x. tabulate 5 (λ y. word (f x y))) none
    (λ x. tabulate-each (λ w. w < 2 ^ 64) 0 5 (λ y. word (f x y)) (lit< tt) (λ y. number-below 64 (f x y)))

pub set-fits : (a : StateArray) (x y w : ℕ) → w < 2 ^ 64 → Fits a → Fits (set_word a x y w)
set-fits a x y w h fits = set-each SheetFits [] a x _ (set-each (λ v. v < 2 ^ 64) 0 (get_or a x []) y w h (fits x)) fits

module _ (a : StateArray) where
  abbrev A : ℕ → ℕ → ℕ → Bool
  A = bit_at a

  -- the sheet of x mod 5
  abbrev sheet : ℕ → Sheet
  sheet x = get_or a (x % 5) []

  -- θ on whole lanes: D, a lane and a sheet. By the let the prover computes D once for a sheet
  abbrev theta-sum : ℕ → ℕ
  theta-sum x = parity_word (sheet (x + 4)) ⊻ rotl (parity_word (sheet (x + 1))) 1

  abbrev theta-lane : ℕ → ℕ → ℕ
  theta-lane x y = at a x y ⊻ theta-sum x

  abbrev pub theta-sheet : ℕ → Sheet
  theta-sheet x = let d : ℕ = theta-sum x in xor_each (get_or a x []) d

  -- and at each bit
  abbrev parity : ℕ → ℕ → Bool
  parity x z = A x 0 z ⊕ A x 1 z ⊕ A x 2 z ⊕ A x 3 z ⊕ A x 4 z

  abbrev theta-bit : ℕ → ℕ → ℕ → Bool
  theta-bit x y z = A x y z ⊕ (parity ((x + 4) % 5) z ⊕ parity ((x + 1) % 5) ((z + 63) % 64))

  -- π
  abbrev pub pi-sheet : ℕ → Sheet
  pi-sheet x = at a x x ∷ at a ((x + 3) % 5) x ∷ at a ((x + 6) % 5) x ∷ at a ((x + 9) % 5) x ∷ at a ((x + 12) % 5) x ∷ []

  abbrev pi-bit : ℕ → ℕ → ℕ → Bool
  pi-bit x y = A ((x + 3 * y) % 5) x

  -- χ
  abbrev chi-lane : ℕ → ℕ → ℕ
  chi-lane x y = at a x y ⊻ bit_and (~ (at a ((x + 1) % 5) y)) (at a ((x + 2) % 5) y)

  abbrev pub chi-sheet : ℕ → Sheet
  chi-sheet x = tabulate 5 (chi-lane x)

  abbrev chi-bit : ℕ → ℕ → ℕ → Bool
  chi-bit x y z = A x y z ⊕ ((A ((x + 1) % 5) y z ⊕ true) && A ((x + 2) % 5) y z)

  -- what these steps make are words, whatever they are given
  pub theta-fits : Fits (θ a)
  unfolding θ
  theta-fits = array-fits theta-bit

  pub pi-fits : Fits (π a)
  unfolding π
  pi-fits = array-fits pi-bit

  pub chi-fits : Fits (χ a)
  unfolding χ
  chi-fits = array-fits chi-bit

  module _ (h : Fits a) where
    pub theta-agrees : tabulate 5 theta-sheet ≡ θ a
    unfolding θ
    theta-agrees i =
        grid 5 5
        (λ x y. by_bits (theta-lane x y) (theta-bit x y) (search (xor64, rotl-below, h) depth 12) (λ z l. simp (bit-xor, bit-rotl)) i)

    pub pi-agrees : tabulate 5 pi-sheet ≡ π a
    unfolding π
    pi-agrees i = grid 5 5 (λ x y. sym (made-of-bits 64 (at a ((x + 3 * y) % 5) x) (h ((x + 3 * y) % 5) x)) i)

    bit-complement : (x y z : ℕ) → z < 64 → bit (~ (at a x y)) z ≡ A x y z ⊕ true
    bit-complement x y z l = bit_not 64 (at a x y) z (h x y) l ∙ sym (xor-true (A x y z))

    pub chi-agrees : tabulate 5 chi-sheet ≡ χ a
    unfolding χ
    chi-agrees i =
        grid 5 5
        (λ x y. by_bits (chi-lane x y) (chi-bit x y) (search (xor64, and64, not64, h) depth 12) (λ z l. simp (bit-xor, bit-and, bit-complement)) i)

    pub iota-agrees : (i : ℕ) → set_word a 0 0 (at a 0 0 ⊻ iota_constant i) ≡ ι a i
    unfolding ι
    iota-agrees i =
        ap (set_word a 0 0)
        (by_bits (at a 0 0 ⊻ iota_constant i) (λ z. A 0 0 z ⊕ RC 7 i z) (xor64 (h 0 0) (number-below 64 (RC 7 i)))
        (λ z l. bit-xor (at a 0 0) (iota_constant i) z ∙ ap (λ (b : Bool). A 0 0 z ⊕ b) (bit-number 64 (RC 7 i) z l)))
