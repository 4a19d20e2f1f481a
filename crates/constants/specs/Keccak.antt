-- Keccak-f[1600] as FIPS 202 defines it (3.1 to 3.4), in its notation and bit by bit. There b is 1600, w is 64 and l is 6. No number of a table is copied in: the
-- offsets of ρ and the constants of ι come from the standard's rules.
-- Assumes nothing.
use Rattle.std.specs.Prelude.{Bool, true, false, cond, ◌&&◌, List, [], ◌∷◌, ℕ, zero, suc, ◌+◌, ◌-◌, ◌*◌, ◌/◌, ◌%◌, ◌^◌, eqb, get_or}
use Rattle.bits.specs.Bits.{◌⊕◌, bit, word_length, word}
use Rattle.permutation.specs.State.{Grid, grid, at, set_word}

infix 34 ◌minus◌modulo◌
-- (a - b) mod m, for m above 0
abbrev pub ◌minus◌modulo◌ : ℕ → ℕ → ℕ → ℕ
a minus b modulo m = (a + (m - b % m)) % m

-- ---- the state array (3.1): five by five lanes of w bits. Lane (x, y) is held as the word whose bit z is A[x, y, z]
abbrev pub StateArray : Type 0
StateArray = Grid

-- A[x, y, z]
abbrev pub bit_at : StateArray → ℕ → ℕ → ℕ → Bool
bit_at a x y z = bit (at a x y) z

-- the state array with A[x, y, z] = f x y z
abbrev pub array : (ℕ → ℕ → ℕ → Bool) → StateArray
array f = grid 5 5 (λ x y. word (f x y))

-- ---- θ (3.2.1, algorithm 1)
unfoldable pub θ : StateArray → StateArray
θ a =
    let A : ℕ → ℕ → ℕ → Bool = bit_at a in
    let C : ℕ → ℕ → Bool = λ x z. A x 0 z ⊕ A x 1 z ⊕ A x 2 z ⊕ A x 3 z ⊕ A x 4 z in
    let D : ℕ → ℕ → Bool = λ x z. C (x minus 1 modulo 5) z ⊕ C ((x + 1) % 5) (z minus 1 modulo word_length) in
    array (λ x y z. A x y z ⊕ D x z)

-- ---- ρ (3.2.2, algorithm 2): a loop over t from 0 to 23. Before each turn it has x, y and A'
pub record Walk : Type 0 where
  pub x : ℕ
  pub y : ℕ
  pub lanes : StateArray

-- turn t: A'[x, y, z] = A[x, y, (z - (t + 1)(t + 2)/2) mod w] for all z, then (x, y) = (y, (2x + 3y) mod 5)
abbrev pub rho_turn : StateArray → ℕ → Walk → Walk
rho_turn a t s =
    let A : ℕ → ℕ → ℕ → Bool = bit_at a in
    record {
      x = s.y;
      y = (2 * s.x + 3 * s.y) % 5;
      lanes = set_word s.lanes s.x s.y (word (λ z. A s.x s.y (z minus (t + 1) * (t + 2) / 2 modulo word_length)));
    }

-- before turn t. Lane (0, 0) of A' is that of A, to which no turn comes; the other lanes are here A's at first, and each is replaced in one turn
abbrev pub walk : StateArray → ℕ → Walk
walk a zero = record { x = 1; y = 0; lanes = a }
walk a (suc t) = rho_turn a t (walk a t)

unfoldable pub ρ : StateArray → StateArray
ρ a = (walk a 24).lanes

-- ---- π (3.2.3, algorithm 3)
unfoldable pub π : StateArray → StateArray
π a = let A : ℕ → ℕ → ℕ → Bool = bit_at a in array (λ x y z. A ((x + 3 * y) % 5) x z)

-- ---- χ (3.2.4, algorithm 4)
unfoldable pub χ : StateArray → StateArray
χ a = let A : ℕ → ℕ → ℕ → Bool = bit_at a in array (λ x y z. A x y z ⊕ ((A ((x + 1) % 5) y z ⊕ true) && A ((x + 2) % 5) y z))

-- ---- rc (3.2.5, algorithm 5). R is a string of 8 bits, R[0] first. One turn of the loop: R = 0 || R; then R[0], R[4], R[5] and R[6] are xored with R[8]; then R is
-- cut to 8 bits
abbrev pub register_turn : List Bool → List Bool
register_turn s =
    let R : ℕ → Bool = λ i. get_or (false ∷ s) i false in
    (R 0 ⊕ R 8) ∷ R 1 ∷ R 2 ∷ R 3 ∷ (R 4 ⊕ R 8) ∷ (R 5 ⊕ R 8) ∷ (R 6 ⊕ R 8) ∷ R 7 ∷ []

-- R after n turns, from 10000000 on
abbrev pub register : ℕ → List Bool
register zero = true ∷ false ∷ false ∷ false ∷ false ∷ false ∷ false ∷ false ∷ []
register (suc n) = register_turn (register n)

-- R[0] after t mod 255 turns; after none it is 1, as step 1 says
abbrev pub rc : ℕ → Bool
rc t = get_or (register (t % 255)) 0 false

-- ---- ι (3.2.5, algorithm 6), in the round with index i. RC is w zeros; then, for j from 0 to l, RC[2^j - 1] = rc(j + 7i). RC n i z is RC[z] after the first n of these
abbrev pub RC : ℕ → ℕ → ℕ → Bool
RC zero i z = false
RC (suc j) i z = cond (eqb z (2 ^ j - 1)) (rc (j + 7 * i)) (RC j i z)

-- RC as a lane
abbrev pub iota_constant : ℕ → ℕ
iota_constant i = word (RC 7 i)

unfoldable pub ι : StateArray → ℕ → StateArray
ι a i = set_word a 0 0 (word (λ z. bit_at a 0 0 z ⊕ RC 7 i z))

-- ---- the round with index i (3.3), and the first n rounds
unfoldable pub Rnd : StateArray → ℕ → StateArray
Rnd a i = ι (χ (π (ρ (θ a)))) i

unfoldable pub rounds : ℕ → StateArray → StateArray
rounds zero a = a
rounds (suc n) a = Rnd (rounds n a) n

-- ---- Keccak-f[1600] (3.3, algorithm 7, and 3.4): 12 + 2l rounds, from index 0 on; here from array to array, without the strings at both ends (3.1.2, 3.1.3)
abbrev pub keccak_f : StateArray → StateArray
keccak_f = rounds 24
