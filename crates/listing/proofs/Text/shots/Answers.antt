-- `listing::Text::shots` meets its contract. The loop's invariant: the lines that are left, behind the text, make what was to be made.
-- Assumes nothing.
use mathlib.Core.List.{◌++◌, append_assoc, append-nil}
use mathlib.Core.Path.{◌≡◌, sym, ap, ap₂, ◌∙◌}
use Prim.Native.Nat.{ℕ, suc, ◌+◌, ◌-◌, ◌*◌}
use native.Mathlib.Omega.{arith}
use Rattle.bytes_le.specs.Bytes.{Bytes}
use Rattle.reader.specs.Front.{entries_at}
use Rattle.listing.specs.Listing.{shot_lines}
use Rattle.listing.proofs.Lines.{no-shots, more-shots}
use Rattle.listing.proofs.Text.shots.Goals as goal

pub loop-place-preserved : goal.loop-place-preserved
loop-place-preserved c =
    let l = c.loop-place in
    let a = c.args in
    let e = c.entry_at-e in
    let x = e.result in
    let left = a.kept.0 - (l.place + 1) in
    let here = a.start + c.index_length.result in
    let m : suc left ≡ a.kept.0 - l.place = omega (arith, c.loop-place-test) in
    let q : here ≡ a.start + 12 * l.place = omega (arith, c.index_length.ensures) in
    let r : a.start + 12 * (l.place + 1) ≡ here + 12 = omega (arith, c.index_length.ensures) in
    let lines : ℕ → ℕ → Bytes = λ n i. shot_lines (entries_at n i a.f.now) in (
      omega (arith, m, l.invariant.0, c.shot.ensures.most),
      ap₂ (λ (t : Bytes) (i : ℕ). t ++ lines left i) c.shot.ensures.text r
          ∙ append_assoc l.self _ (lines left (here + 12))
          ∙ ap (λ (v : Bytes). l.self ++ v) (more-shots a.f.now left here x e.ensures)
          ∙ ap₂ (λ (n i : ℕ). l.self ++ lines n i) m q
          ∙ l.invariant.1,
    )

pub returns : goal.returns
returns c =
    let l = c.loop-place in
    let a = c.args in
    let here = a.start + 12 * l.place in
    let n : a.kept.0 - l.place ≡ 0 = omega (arith, c.loop-place-test) in
    sym (append-nil l.self)
    ∙ ap (λ (v : Bytes). l.self ++ v) (sym (ap (λ (k : ℕ). shot_lines (entries_at k here a.f.now)) n ∙ no-shots a.f.now 0 here))
    ∙ l.invariant.1
