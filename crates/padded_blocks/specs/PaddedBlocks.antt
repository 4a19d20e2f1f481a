-- The padded blocks that a seal absorbs, and the calls of the permutation that it makes (003, 2.6 to 2.8; 01, "Sealing and opening"; 02, N4).
-- Assumes nothing.
use Rattle.std.specs.Prelude.{cond, List, [], ◌∷◌, ◌++◌, map, ◌≡◌, ℕ, zero, suc, ◌+◌, ◌-◌, eqb, length, take, drop, replicate}
use Rattle.bytes_le.specs.Bytes.{Bytes}
use Rattle.state_bytes.specs.StateBytes.{permuted, start_bytes}
use Rattle.blocks.specs.declared.Sizes.{Sizes}
use Rattle.blocks.specs.Lengths.{max_nonce}
use Rattle.blocks.specs.Sealing.{◌⊕₈◌, xor_with, pad, blocks_before, absorb_message, encrypt, keyed, ready, tag, sealed}

-- ---- blocks of r bytes
module _ (r : ℕ) where
  -- data as k full blocks with the frame bit `more`, and a last block with the frame bit `end`, each padded
  abbrev pub in_blocks : (more end k : ℕ) → Bytes → List Bytes
  in_blocks more end zero d = pad d end ∷ []
  in_blocks more end (suc k) d = pad (take r d) more ∷ in_blocks more end k (drop r d)

  -- the padded blocks of a seal, in order: the secret number's, which is one under every variant, the associated ones, and the message's. The frame bit is 1 for
  -- the last associated block and for each message block but the last
  unfoldable pub padded_blocks : (secret ad m : Bytes) → List Bytes
  padded_blocks secret ad m = pad secret 0 ∷ (in_blocks 0 1 (blocks_before r (length ad)) ad ++ in_blocks 1 0 (blocks_before r (length m)) m)

  -- how many there are
  unfoldable pub seal_blocks : (secret ad m : Bytes) → ℕ
  seal_blocks secret ad m = length (padded_blocks secret ad m)

-- ---- calls of the permutation
-- a call: what is xored into the state before it, and its rounds
pub record Permuting : Type 0 where
  pub input : Bytes
  pub rounds : ℕ

abbrev pub permuting : ℕ → Bytes → Permuting
permuting rounds input = record { input = input; rounds = rounds }

-- the state after calls, one after the other
abbrev pub state_after : Bytes → List Permuting → Bytes
state_after v [] = v
state_after v (c ∷ cs) = state_after (permuted c.rounds (xor_with v c.input)) cs

-- how many of them have n rounds
abbrev pub calls_of : ℕ → List Permuting → ℕ
calls_of n [] = 0
calls_of n (c ∷ cs) = cond (eqb c.rounds n) 1 0 + calls_of n cs

-- those of a seal: a P12 of the starting words with key and nonce, then a P6 for each padded block
unfoldable pub seal_calls : (r : ℕ) (key nonce secret ad m : Bytes) → List Permuting
seal_calls r key nonce secret ad m =
    permuting 12 (key ++ (nonce ++ replicate (max_nonce - length nonce) 0)) ∷ map (permuting 6) (padded_blocks r secret ad m)

-- ---- that these are the calls of sealing: the state of which the tag is taken is the one after them, from the starting words on
abbrev pub SealingState : Type 0
SealingState = (r : ℕ) (key nonce secret ad m : Bytes)
    → absorb_message r (ready r (keyed key nonce) secret ad) m ≡ state_after start_bytes (seal_calls r key nonce secret ad m)

-- so that a sealed message is said by them
abbrev pub SealedBy : Type 0
SealedBy = (q : Sizes) (key nonce secret ad m : Bytes)
    → sealed q key nonce secret ad m
    ≡ (keyed key nonce ⊕₈ secret)
    ++ (encrypt q.block (ready q.block (keyed key nonce) secret ad) m ++ tag (state_after start_bytes (seal_calls q.block key nonce secret ad m)))
