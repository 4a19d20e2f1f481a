-- Runs of bytes that are below 256: what makes and keeps them.
-- Assumes nothing.
use mathlib.Core.Path.{◌≡◌, refl, sym, ap, ◌∙◌}
use mathlib.Core.List.{[], ◌∷◌, ◌++◌}
use Prim.Native.Nat.{ℕ, zero, suc, ◌+◌, ◌*◌, ◌/◌, ◌%◌, ◌^◌, ◌≤◌, ◌<◌}
use native.Mathlib.Nat.{lt_of_lt_of_le, mod-lt, pow-le-pow_right, pow-suc, zero-lt-suc}
use native.Mathlib.Omega.{arith}
use lib.ListN.{length, take, drop, length-take}
use Rattle.bytes_le.specs.Bytes.{Bytes, AllBytes, le, unle, le_at}
use Rattle.bytes_le.proofs.Laws.{length_part}

pub all-le : (n x : ℕ) → AllBytes (le n x)
all-le zero x = tt
all-le (suc n) x = (mod-lt x (zero-lt-suc 255), all-le n (x / 256))

pub all_append : (a b : Bytes) → AllBytes a → AllBytes b → AllBytes (a ++ b)
all_append [] b ha hb = hb
all_append (x ∷ a) b ha hb = (ha.0, all_append a b ha.1 hb)

pub all_take : (n : ℕ) (b : Bytes) → AllBytes b → AllBytes (take n b)
all_take zero b h = tt
all_take (suc n) [] h = tt
all_take (suc n) (x ∷ b) h = (h.0, all_take n b h.1)

pub all_drop : (n : ℕ) (b : Bytes) → AllBytes b → AllBytes (drop n b)
all_drop zero b h = h
all_drop (suc n) [] h = tt
all_drop (suc n) (x ∷ b) h = all_drop n b h.1

-- ---- bytes and their numbers
pub le-unle : (bs : Bytes) → AllBytes bs → le (length bs) (unle bs) ≡ bs
le-unle [] b = refl
le-unle (x ∷ xs) b =
    let h = b.0 in
    let e₁ : (x + 256 * unle xs) % 256 ≡ x = omega arith in
    let e₂ : (x + 256 * unle xs) / 256 ≡ unle xs = omega arith in
    let t = le-unle xs b.1 in
    rw (e₁, e₂, t)

pub unle-less : (bs : Bytes) → AllBytes bs → unle bs < 256 ^ length bs
unle-less [] b = omega arith
unle-less (x ∷ xs) b =
    let h = b.0 in
    let t = unle-less xs b.1 in
    let e = pow-suc 256 (length xs) in
    rw e (omega arith)

module _ (f : Bytes) (fb : AllBytes f) where
  -- the number at an index, also where fewer than n bytes are left
  pub le_at-less : (n at : ℕ) → le_at n f at < 256 ^ n
  unfolding le_at
  le_at-less n at =
      let part : Bytes = take n (drop at f) in
      let h : length part ≤ n = rw length-take (omega arith) in
      lt_of_lt_of_le (unle-less part (all_take n (drop at f) (all_drop at f fb))) (pow-le-pow_right {n = 256} (zero-lt-suc 255) h)

  pub le-at : (n at : ℕ) → at + n ≤ length f → le n (le_at n f at) ≡ take n (drop at f)
  unfolding le_at
  le-at n at h =
      ap (λ (k : ℕ). le k (unle (take n (drop at f)))) (sym (length_part f at n h)) ∙ le-unle (take n (drop at f)) (all_take n (drop at f) (all_drop at f fb))
