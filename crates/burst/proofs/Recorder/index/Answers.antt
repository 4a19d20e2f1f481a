-- `burst::Recorder::index` meets its contract. The loop's invariant: the entries before x are put.
-- Assumes nothing.
use mathlib.Core.Path.{◌≡◌, refl, ap, ◌∙◌}
use Prim.Native.Nat.{ℕ, ◌*◌}
use native.Mathlib.Omega.{arith}
use lib.ListN.{length, take}
use lib.Seq.{length-take-le, take_all}
use Rattle.burst.specs.Editions.{max_entries}
use Rattle.burst.specs.Index.{entry_of, index_bytes}
use Rattle.burst.specs.Recorder.{recorder_index}
use Rattle.burst.proofs.Puts.{index-turn}
use Rattle.burst.proofs.Recorder.index.Goals as goal

pub loop-x-init : goal.loop-x-init
unfolding index_bytes
loop-x-init c = (refl, refl, refl)

pub loop-x-preserved : goal.loop-x-preserved
loop-x-preserved c =
    let l = c.loop-x in
    let p = c.put_entry-at in
    let es = take c.args.self.now.kept.0 c.args.self.now.entries in
    let z : length c.args.self.now.entries ≡ max_entries = omega arith in
    let n = length-take-le c.args.self.now.kept.0 c.args.self.now.entries (omega (arith, z, c.requires)) in (
      omega (arith, p.ensures.0, l.invariant.0),
      p.auto.out ∙ l.invariant.1,
      ap (λ (k : ℕ). take k p.new.out) p.ensures.0
          ∙ index-turn es (entry_of 0 0 0) l.b p.new.out l.x-index l.at c.loop-x-test.true l.invariant.0
          (omega (arith, n, c.loop-x-test.true, c.requires, l.invariant.0, l.invariant.1)) p.ensures.1 l.invariant.2,
    )

pub returns : goal.returns
unfolding recorder_index
returns c =
    let l = c.loop-x in
    let r = c.args.self.now in
    let es = take r.kept.0 r.entries in
    let z : length r.entries ≡ max_entries = omega arith in
    let n = length-take-le r.kept.0 r.entries (omega (arith, z, c.requires)) in
    let e : 12 * r.kept.0 ≡ l.at = omega (arith, n, c.loop-x-test.false, l.invariant.0, c.loop-x.auto.x-index-end) in
    (l.invariant.1, ap (λ (k : ℕ). take k l.b) e ∙ l.invariant.2 ∙ ap index_bytes (take_all l.x-index es (omega (arith, c.loop-x-test.false))))
