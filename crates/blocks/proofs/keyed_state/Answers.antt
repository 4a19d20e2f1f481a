-- `blocks::keyed_state` meets its contract: key and nonce are xored in, then P12.
-- Assumes nothing.
use mathlib.Core.Path.{◌≡◌, sym, ap, ap₂, ◌∙◌}
use mathlib.Core.List.{◌++◌, append_assoc}
use Prim.Native.Nat.{◌+◌, ◌-◌}
use native.Mathlib.Omega.{arith}
use lib.ListN.{length, take, drop, replicate, length-append}
use lib.Seq.{take_all}
use Rattle.state_bytes.specs.StateBytes.{permuted, start_bytes}
use Rattle.blocks.specs.Lengths.{max_nonce}
use Rattle.blocks.specs.Sealing.{keyed, xor_with}
use Rattle.blocks.proofs.Steps.{xor-with-zeros}
use Rattle.blocks.proofs.keyed_state.Goals as goal

pub returns : goal.returns
unfolding keyed
returns c =
    let a = c.args in
    let k = a.x.key.now in
    let n = a.x.nonce.now in
    let e : take (length k + length n) (drop 0 (k ++ n)) ≡ k ++ n = take_all (length k + length n) (k ++ n) (rw length-append (omega arith)) in
    c.permute.ensures
    ∙ ap (permuted 12)
    (c.take_bytes.ensures.0
    ∙ ap₂ xor_with c.start.ensures e
    ∙ sym (xor-with-zeros start_bytes (k ++ n) (max_nonce - length n)) ∙ ap (xor_with start_bytes) (append_assoc k n (replicate (max_nonce - length n) 0)))
