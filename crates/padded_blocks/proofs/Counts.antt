-- The calls of a seal lead to the state of which its tag is taken, and how many they are.
-- Assumes nothing.
use mathlib.Core.List.{List, [], ◌∷◌, ◌++◌, map}
use mathlib.Core.Path.{◌≡◌, refl, ap, ap₂, sym, ◌∙◌}
use Prim.Native.Nat.{ℕ, zero, suc, ◌+◌}
use native.Mathlib.Omega.{arith}
use lib.ListN.{length, take, drop, length-append}
use Rattle.bytes_le.specs.Bytes.{Bytes}
use Rattle.state_bytes.specs.StateBytes.{permuted}
use Rattle.blocks.specs.Sealing.{◌⊕₈◌, xor_with, absorb, absorb_blocks, absorb_associated, absorb_message, blocks_before, encrypt, keyed, ready, tag, sealed}
use Rattle.padded_blocks.specs.PaddedBlocks.{in_blocks, padded_blocks, seal_blocks, Permuting, permuting, state_after, calls_of, seal_calls, SealingState, SealedBy}

pub after-append : (v : Bytes) (cs ds : List Permuting) → state_after v (cs ++ ds) ≡ state_after (state_after v cs) ds
after-append v [] ds = refl
after-append v (c ∷ cs) ds = after-append (permuted c.rounds (xor_with v c.input)) cs ds

map-append : (xs ys : List Bytes) → map (permuting 6) (xs ++ ys) ≡ map (permuting 6) xs ++ map (permuting 6) ys
map-append [] ys = refl
map-append (x ∷ xs) ys = ap (λ (l : List Permuting). permuting 6 x ∷ l) (map-append xs ys)

module _ (r : ℕ) where
  -- ---- the state
  absorbed : (more end k : ℕ) (v d : Bytes) → absorb_blocks r more end k v d ≡ state_after v (map (permuting 6) (in_blocks r more end k d))
  unfolding absorb
  absorbed more end zero v d = refl
  absorbed more end (suc k) v d = absorbed more end k (absorb v (take r d) more) (drop r d)

  -- from the keyed state on
  absorbed-all : (v secret ad m : Bytes) → absorb_message r (ready r v secret ad) m ≡ state_after v (map (permuting 6) (padded_blocks r secret ad m))
  unfolding absorb_message ready absorb_associated padded_blocks absorb
  absorbed-all v secret ad m =
      let a = in_blocks r 0 1 (blocks_before r (length ad)) ad in
      let b = in_blocks r 1 0 (blocks_before r (length m)) m in
      let u = absorb v secret 0 in
      absorbed 1 0 (blocks_before r (length m)) _ m
      ∙ ap (λ (w : Bytes). state_after w (map (permuting 6) b)) (absorbed 0 1 (blocks_before r (length ad)) u ad)
      ∙ sym (after-append u (map (permuting 6) a) (map (permuting 6) b))
      ∙ ap (state_after u) (sym (map-append a b))

  -- ---- how many
  length-in : (more end k : ℕ) (d : Bytes) → length (in_blocks r more end k d) ≡ suc k
  length-in more end zero d = refl
  length-in more end (suc k) d = ap suc (length-in more end k (drop r d))

  pub seal-blocks : (secret ad m : Bytes) → seal_blocks r secret ad m ≡ suc (suc (blocks_before r (length ad)) + suc (blocks_before r (length m)))
  unfolding seal_blocks padded_blocks
  seal-blocks secret ad m =
      ap suc (length-append (in_blocks r 0 1 (blocks_before r (length ad)) ad) _ ∙ ap₂ ◌+◌ (length-in 0 1 _ ad) (length-in 1 0 _ m))

-- ---- the calls of a seal
pub sealing-state : SealingState
unfolding seal_calls keyed
sealing-state r key nonce secret ad m = absorbed-all r (keyed key nonce) secret ad m

pub sealed-by : SealedBy
unfolding sealed
sealed-by q key nonce secret ad m =
    ap (λ (v : Bytes). (keyed key nonce ⊕₈ secret) ++ (encrypt q.block (ready q.block (keyed key nonce) secret ad) m ++ tag v))
    (sealing-state q.block key nonce secret ad m)

of-six : (bs : List Bytes) → (calls_of 12 (map (permuting 6) bs) ≡ 0) × (calls_of 6 (map (permuting 6) bs) ≡ length bs)
of-six [] = (refl, refl)
of-six (b ∷ bs) = let h = of-six bs in (omega arith, omega arith)

-- one P12, and a P6 for each padded block
pub seal-calls : (r : ℕ) (key nonce secret ad m : Bytes)
    → (calls_of 12 (seal_calls r key nonce secret ad m) ≡ 1) × (calls_of 6 (seal_calls r key nonce secret ad m) ≡ seal_blocks r secret ad m)
unfolding seal_calls seal_blocks
seal-calls r key nonce secret ad m = let h = of-six (padded_blocks r secret ad m) in (omega arith, omega arith)

pub calls-append : (n : ℕ) (cs ds : List Permuting) → calls_of n (cs ++ ds) ≡ calls_of n cs + calls_of n ds
calls-append n [] ds = omega arith
calls-append n (c ∷ cs) ds = let h = calls-append n cs ds in omega arith
