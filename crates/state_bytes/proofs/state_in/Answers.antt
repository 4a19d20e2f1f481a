-- `state_bytes::state_in` meets its contract. The loop's invariant: the first w words are filled.
-- Assumes nothing.
use mathlib.Core.Path.{◌≡◌, ap, ap₂, ◌∙◌}
use Prim.Native.Nat.{ℕ, ◌/◌, ◌%◌, ◌<◌}
use native.Mathlib.Omega.{arith}
use lib.ListN.{take, drop}
use Rattle.bytes_le.specs.Bytes.{Bytes}
use Rattle.permutation.specs.State.{State, set_word}
use Rattle.state_bytes.specs.StateBytes.{state_length, state_words}
use Rattle.state_bytes.proofs.Filled.{filled, fill-next, fill-all}
use Rattle.state_bytes.proofs.state_in.Goals as goal

pub loop-w-preserved : goal.loop-w-preserved
loop-w-preserved c =
    let w = c.loop-w.w in
    let v : Bytes = take state_length (drop c.args.at c.args.b.now) in
    let h : w < state_words = omega arith in
    ap₂ (λ (s : State) (k : ℕ). set_word s (w % 4) (w / 4) k) c.loop-w.invariant c.word_in.ensures ∙ fill-next v w h

pub returns : goal.returns
returns c =
    let v : Bytes = take state_length (drop c.args.at c.args.b.now) in
    let e : c.loop-w.w ≡ state_words = omega arith in
    c.loop-w.invariant ∙ ap (filled v) e ∙ fill-all v
