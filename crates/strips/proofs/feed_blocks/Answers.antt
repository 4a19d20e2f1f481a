-- `strips::feed_blocks` meets its contract. The loop's invariant: what is left gives, from here on, what the whole was to give.
-- Assumes nothing.
use mathlib.Core.Path.{◌∙◌}
use native.Mathlib.Omega.{arith}
use Rattle.state_bytes.specs.StateBytes.{bytes_of}
use Rattle.state_bytes.proofs.Lengths.{length-bytes}
use Rattle.strips.proofs.Turns.{block-fed, block-put}
use Rattle.strips.proofs.feed_blocks.Goals as goal

pub loop-at-preserved : goal.loop-at-preserved
loop-at-preserved c =
    let l = c.loop-at in
    let m = c.args.m.now in
    let h = c.loop-at-test.true in
    let q = c.encrypt_words.ensures in
    let f = c.finish.ensures in
    let s = bytes_of l.s in (
      omega arith,
      block-fed m l.at h s _ _ (length-bytes l.s) q.0 f ∙ l.invariant.1,
      block-put m l.at h s _ _ (length-bytes l.s) q.0 f l.out _ (omega arith) q.1 ∙ l.invariant.2,
    )
