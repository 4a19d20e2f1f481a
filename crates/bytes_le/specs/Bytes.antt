-- Bytes in a buffer, and numbers as little-endian bytes (01: "All multi-byte numbers are little-endian").
-- Assumes nothing.
use Rattle.std.specs.Prelude.{Bool, true, false, cond, List, [], ◌∷◌, ◌++◌, ℕ, zero, suc, ◌+◌, ◌*◌, ◌/◌, ◌%◌, ◌<◌, eqb, length, take, drop}

-- runs of bytes, as numbers; where it matters that they are below 256, `AllBytes` says so
abbrev pub Bytes : Type 0
Bytes = List ℕ

-- every number is below 256
abbrev pub AllBytes : Bytes → Type 0
AllBytes [] = Unit {0}
AllBytes (b ∷ bs) = (b < 256) × AllBytes bs

-- whether two runs of bytes, or of other numbers, are the same
abbrev pub same : Bytes → Bytes → Bool
same [] [] = true
same [] (y ∷ ys) = false
same (x ∷ xs) [] = false
same (x ∷ xs) (y ∷ ys) = cond (eqb x y) (same xs ys) false

-- b with vs instead of what stood from index i on
unfoldable pub put_bytes : Bytes → ℕ → Bytes → Bytes
put_bytes b i vs = take i b ++ (vs ++ drop (i + length vs) b)

-- the n low bytes of x, low byte first
abbrev pub le : ℕ → ℕ → Bytes
le zero x = []
le (suc n) x = x % 256 ∷ le n (x / 256)

-- the number whose bytes these are, low byte first
abbrev pub unle : Bytes → ℕ
unle [] = 0
unle (b ∷ bs) = b + 256 * unle bs

-- the number of n bytes that stands in b from index i on; where fewer are left, of those
unfoldable pub le_at : ℕ → Bytes → ℕ → ℕ
le_at n b i = unle (take n (drop i b))
