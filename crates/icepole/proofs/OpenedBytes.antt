-- What opening gives is bytes where the sealed message is bytes.
-- Assumes nothing.
use mathlib.Core.List.{[], ◌∷◌}
use Prim.Native.Nat.{ℕ, zero, suc, ◌+◌, ◌-◌}
use lib.Bits.{xor_lt}
use lib.ListN.{take, drop, length}
use Rattle.bytes_le.specs.Bytes.{AllBytes, Bytes, le}
use Rattle.permutation.specs.Permutation.{P}
use Rattle.permutation.specs.State.{State}
use Rattle.state_bytes.specs.StateBytes.{bytes_below, bytes_of, permuted, state_of, word_of}
use Rattle.bytes_le.proofs.All.{all_append, all_drop, all-le, all_take}
use Rattle.blocks.specs.Sealing.{◌⊕₈◌, absorb, absorb_associated, absorb_blocks, blocks_before, decrypt, decrypt_blocks, keyed, message_of, message_part, pad}
use Rattle.blocks.specs.Sealing.{ready, ready_of, secret_of, secret_part, xor_with}
use Rattle.blocks.specs.declared.Sizes.{Sizes}

all-below : (s : State) (w : ℕ) → AllBytes (bytes_below s w)
all-below s zero = tt
all-below s (suc w) = all_append (bytes_below s w) (le 8 (word_of s w)) (all-below s w) (all-le 8 (word_of s w))

all-permuted : (n : ℕ) (v : Bytes) → AllBytes (permuted n v)
unfolding permuted bytes_of
all-permuted n v = all-below (P n (state_of v)) 20

all-absorb : (v b : Bytes) (f : ℕ) → AllBytes (absorb v b f)
unfolding absorb
all-absorb v b f = all-permuted 6 (xor_with v (pad b f))

all-keyed : (k n : Bytes) → AllBytes (keyed k n)
unfolding keyed
all-keyed k n = all-permuted 12 _

all-xor : (v b : Bytes) → AllBytes v → AllBytes b → AllBytes (v ⊕₈ b)
all-xor [] b hv hb = tt
all-xor (x ∷ v) [] hv hb = tt
all-xor (x ∷ v) (y ∷ b) hv hb = (xor_lt 8 x y hv.0 hb.0, all-xor v b hv.1 hb.1)

module _ (r : ℕ) where
  all_blocks : (more end k : ℕ) (v d : Bytes) → AllBytes (absorb_blocks r more end k v d)
  all_blocks more end zero v d = all-absorb v d end
  all_blocks more end (suc k) v d = all_blocks more end k (absorb v (take r d) more) (drop r d)

  all-decrypted : (k : ℕ) (v c : Bytes) → AllBytes v → AllBytes c → AllBytes (decrypt_blocks r k v c)
  all-decrypted zero v c hv hc = all-xor v c hv hc
  all-decrypted (suc k) v c hv hc =
      all_append (v ⊕₈ take r c) _ (all-xor v (take r c) hv (all_take r c hc))
      (all-decrypted k (absorb v (v ⊕₈ take r c) 1) (drop r c) (all-absorb v (v ⊕₈ take r c) 1) (all_drop r c hc))

  all-decrypt : (v c : Bytes) → AllBytes v → AllBytes c → AllBytes (decrypt r v c)
  unfolding decrypt
  all-decrypt v c = all-decrypted (blocks_before r (length c)) v c

module _ (q : Sizes) (k n a c : Bytes) (hc : AllBytes c) where
  pub secret-bytes : AllBytes (secret_of q k n c)
  unfolding secret_of
  secret-bytes = all-xor (keyed k n) (secret_part q c) (all-keyed k n) (all_take q.secret c hc)

  all-ready : AllBytes (ready_of q k n a c)
  unfolding ready_of ready absorb_associated
  all-ready = all_blocks q.block 0 1 (blocks_before q.block (length a)) (absorb (keyed k n) (secret_of q k n c) 0) a

  pub message-bytes : AllBytes (message_of q k n a c)
  unfolding message_of
  message-bytes =
      all-decrypt q.block (ready_of q k n a c) (message_part q c) all-ready
      (all_take (length c - (q.secret + 16)) (drop q.secret c) (all_drop q.secret c hc))
