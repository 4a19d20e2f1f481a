-- `reader::Reading::verify_closing` meets its contract.
-- Assumes nothing.
use mathlib.Core.Path.{◌≡◌, refl, sym, ap, ap₂, ◌∙◌}
use Prim.Native.Nat.{ℕ, ◌+◌, ◌-◌, ◌*◌}
use native.Mathlib.Omega.{arith}
use lib.ListN.{length, take, drop, length-drop}
use lib.Seq.{length-take-le}
use Rattle.burst.specs.Fields.{entry_length}
use Rattle.burst.specs.Parts.{seal_length}
use Rattle.reader.proofs.Rules.{Reads, front, reads}
use Rattle.reader.proofs.Opens.{closing-answer}
use Rattle.reader.proofs.Reading.verify_closing.Goals as goal
use Rattle.reader.proofs.Reading.verify_closing.Goals.{Start}

-- what the front rules say of row and header
here : (c : Start) → let r = c.args.self.now in Reads r.f.now r.e r.h
here c = let r = c.args.self.now in reads _ _ _ r.header r.edition (front _ r.ruled)

pub slice_bounds-verify_part-end : goal.slice_bounds-verify_part-end
slice_bounds-verify_part-end c =
    let g = here (goal.at.slice_bounds-verify_part-end c).Start in
    let r = c.args.self.now in sym (length-take-le r.e.header r.f.now (omega (arith, g)))

pub slice_bounds-verify_part-count : goal.slice_bounds-verify_part-count
slice_bounds-verify_part-count c = let g = here (goal.at.slice_bounds-verify_part-count c).Start in omega (arith, g)

pub slice_bounds-verify_part-start : goal.slice_bounds-verify_part-start
slice_bounds-verify_part-start c = let g = here (goal.at.slice_bounds-verify_part-start c).Start in omega (arith, g)

pub slice_bounds-verify_part-end-2 : goal.slice_bounds-verify_part-end-2
slice_bounds-verify_part-end-2 c = let g = here (goal.at.slice_bounds-verify_part-end-2 c).Start in omega (arith, g)

pub slice_bounds-verify_part-count-2 : goal.slice_bounds-verify_part-count-2
slice_bounds-verify_part-count-2 c = let g = here (goal.at.slice_bounds-verify_part-count-2 c).Start in omega (arith, g)

pub slice_bounds-verify_part-start-2 : goal.slice_bounds-verify_part-start-2
slice_bounds-verify_part-start-2 c = let g = here (goal.at.slice_bounds-verify_part-start-2 c).Start in omega (arith, g)

pub verify_part-requires : goal.verify_part-requires
verify_part-requires c =
    let r = c.args.self.now in
    let f = r.f.now in
    let h = r.h in
    let g = here (goal.at.verify_part-requires c).Start in
    let l₁ = length-take-le r.e.header f (omega (arith, g)) in
    let d₂ = length-drop h.index f in
    let l₂ = length-take-le (h.closing - h.index) (drop h.index f) (omega (arith, g, d₂)) in
    let d₃ = length-drop h.closing f in
    let l₃ = length-take-le (length f - h.closing) (drop h.closing f) (omega (arith, g, d₃)) in
    (r.keyed, omega (arith, l₁, l₂, g), omega (arith, l₃, g), omega (arith, l₃, g))

pub returns : goal.returns
returns c =
    let r = c.args.self.now in
    let f = r.f.now in
    let h = r.h in
    let g = here (goal.at.returns c).Start in
    let q₁ : h.closing - h.index ≡ entry_length * h.kept.0 = omega (arith, g) in
    let q₂ : length f - h.closing ≡ 0 + seal_length = omega (arith, g) in
    let q₃ : h.closing ≡ h.index + entry_length * h.kept.0 = omega (arith, g) in
    c.verify_part.ensures
    ∙ closing-answer r.key.now f r.e r.edition r.name r.named h r.header _ _ _ refl (ap (λ (n : ℕ). take n (drop h.index f)) q₁)
    (ap₂ (λ (n i : ℕ). take n (drop i f)) q₂ q₃)
