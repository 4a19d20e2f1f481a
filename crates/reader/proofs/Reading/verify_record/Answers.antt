-- `reader::Reading::verify_record` meets its contract.
-- Assumes nothing.
use mathlib.Core.List.{append-nil}
use mathlib.Core.Path.{◌≡◌, sym, ap, ◌∙◌}
use Prim.Native.Nat.{ℕ}
use native.Mathlib.Omega.{arith}
use borrow.Author.Rules.{rules}
use lib.ListN.{length}
use Rattle.refusals.specs.declared.Refusal.TheVariants.{TagDiffers}
use Rattle.refusals.proofs.Laws.{passed-on}
use Rattle.icepole.specs.Answers.{opened_as}
use Rattle.reader.specs.Front.{position_of, entry_at}
use Rattle.reader.specs.Reader.{record_part, answer_in}
use Rattle.reader.proofs.Rules.{front}
use Rattle.reader.proofs.Opens.{Placed, placed, tag-told, record-answer}
use Rattle.reader.proofs.Parts.{record-agrees, record-differs}
use Rattle.reader.proofs.Reading.verify_record.Goals as goal
use Rattle.reader.proofs.Reading.verify_record.Goals.{After-entry_at-x, After-verify_part-answer}

-- where the place's entry and record lie
there : (c : After-entry_at-x) → Placed c.args.self.now.f.now c.position-position.result c.entry_at-x.result
there c = placed _ c.args.place.0 _ _ (front _ c.args.self.now.ruled) c.requires c.position-position.ensures c.entry_at-x.ensures

-- the answer is that of the part
told : (c : After-verify_part-answer) → let r = c.args.self.now in
    opened_as c.verify_part-answer.result ≡ answer_in r.key.now r.f.now (record_part r.f.now (position_of r.f.now c.args.place.0))
told c =
    let r = c.args.self.now in
    let p = c.position-position in
    let x = c.entry_at-x in
    let l = (placed _ c.args.place.0 _ _ (front _ r.ruled) c.requires p.ensures x.ensures).slices in
    c.verify_part-answer.ensures
    ∙ record-answer r.key.now r.f.now r.e r.edition r.name r.named p.result x.result x.ensures _ (append-nil _ ∙ l.entry) _ c.sealed_of.ensures.0
    ∙ ap (λ (i : ℕ). answer_in r.key.now r.f.now (record_part r.f.now i)) p.ensures

pub entry_at-x-requires : goal.entry_at-x-requires
entry_at-x-requires c = let w = front _ c.args.self.now.ruled in omega (arith, w, c.requires, c.position-position.ensures)

pub overflow_add-next : goal.overflow_add-next
overflow_add-next c = let w = front _ c.args.self.now.ruled in omega (arith, w, c.requires, c.position-position.ensures)

pub slice_bounds-verify_part-end : goal.slice_bounds-verify_part-end
slice_bounds-verify_part-end c = let g = there (goal.at.slice_bounds-verify_part-end c).After-entry_at-x in omega (arith, g)

pub sealed_of-requires : goal.sealed_of-requires
sealed_of-requires c = (there (goal.at.sealed_of-requires c).After-entry_at-x).within

pub verify_part-answer-requires : goal.verify_part-answer-requires
verify_part-answer-requires c =
    let g = there (goal.at.verify_part-answer-requires c).After-entry_at-x in
    let n = ap length c.sealed_of.ensures.0 in
    (c.args.self.now.keyed, omega (arith, g), omega (arith, g, n), omega (arith, g, n))

pub returns-in_err-map_err : goal.returns-in_err-map_err
returns-in_err-map_err c =
    let r = c.args.self.now in
    let v = c.in_err-map_err.ensures.variant in
    let e : c.in_err-map_err.field-0.0 ≡ TagDiffers c.entry_at-x.result.shot.0 = search rules in
    passed-on _ _ c.from_residual.ensures.1
    ∙ record-differs r.key.now r.f.now (position_of r.f.now c.args.place.0) _ (c.entry_at-x.ensures ∙ ap (entry_at r.f.now) c.position-position.ensures) _ e
    (sym (tag-told _ _ _ _ (told (goal.at.returns-in_err-map_err c).After-verify_part-answer)) ∙ sym v)

pub returns : goal.returns
returns c =
    let r = c.args.self.now in
    record-agrees r.key.now r.f.now (position_of r.f.now c.args.place.0)
    (sym (tag-told _ _ _ _ (told (goal.at.returns c).After-verify_part-answer)) ∙ sym c.in_ok-map_err.ensures.variant)
