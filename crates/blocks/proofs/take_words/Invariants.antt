-- `blocks::take_words` meets its contract. The loop's invariant: the words below w are taken and put.
-- Assumes nothing.
use mathlib.Core.Path.{◌≡◌}
use Prim.Native.Nat.{◌*◌}
use lib.ListN.{take, drop}
use Rattle.bytes_le.specs.Bytes.{Bytes}
use Rattle.state_bytes.specs.StateBytes.{bytes_of}
use Rattle.blocks.specs.Sealing.{◌⊕₈◌, xor_with}
use Rattle.blocks.proofs.take_words.Given as goal

abbrev pub invariant-loop-w : goal.invariant-loop-w
invariant-loop-w g l =
    let v : Bytes = bytes_of l.initial.s in
    let d : Bytes = take (8 * l.w) (drop l.at (g.S.Source.bytes l.d l.initial.out)) in
    (bytes_of l.s ≡ xor_with v (g.A.Way.taken v d)) × (l.out ≡ g.K.Sink.put l.initial.out l.to (v ⊕₈ d))
