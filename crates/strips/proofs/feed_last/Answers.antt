-- `strips::feed_last` meets its contract: the last block, full or not, is xored in and waits.
-- Assumes nothing.
use Prim.Native.Nat.{◌-◌}
use mathlib.Core.Path.{refl}
use native.Mathlib.Omega.{arith}
use borrow.Author.Rules.{rules}
use lib.ListN.{length}
use Rattle.state_bytes.specs.StateBytes.{bytes_of}
use Rattle.state_bytes.proofs.Lengths.{length-bytes}
use Rattle.strips.proofs.Turns.{last}
use Rattle.strips.proofs.feed_last.Goals as goal

pub returns-then-m-at-eq-BLOCK_BYTES : goal.returns-then-m-at-eq-BLOCK_BYTES
returns-then-m-at-eq-BLOCK_BYTES c =
    let a = c.args in
    last a.m.now a.at 128 (omega arith) (omega arith) (bytes_of a.s.now) (length-bytes _) _ _ _ _ _ (search rules) (length-bytes _)
    c.encrypt_words.ensures.0 c.store_state.ensures c.encrypt_words.ensures.1

pub returns : goal.returns
returns c =
    let a = c.args in
    last a.m.now a.at (length a.m.now - a.at) refl (omega arith) (bytes_of a.s.now) (length-bytes _) _ _ _ _ _ (search rules) (length-bytes _)
    c.encrypt_bytes.ensures.0 c.store_state-2.ensures c.encrypt_bytes.ensures.1
