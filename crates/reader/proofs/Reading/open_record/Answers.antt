-- `reader::Reading::open_record` meets its contract.
-- Assumes nothing.
use mathlib.Core.List.{[], ◌++◌, append-nil}
use mathlib.Core.Path.{◌≡◌, sym, ap, ap₂, ◌∙◌}
use Prim.Native.Nat.{ℕ, ◌+◌, ◌-◌}
use native.Mathlib.Omega.{arith}
use lib.ListN.{length, take, drop}
use Rattle.burst.specs.declared.Entry.{Entry}
use Rattle.burst.specs.Parts.{seal_length, part_answer, part_output}
use Rattle.burst.proofs.Rules.{clash}
use Rattle.reader.specs.Front.{edition_in, name_in, entry_at, position_of}
use Rattle.reader.specs.Reader.{record_part, sealed_in, answer_in, fetched_as}
use Rattle.reader.proofs.Rules.{front}
use Rattle.reader.proofs.Opens.{Placed, placed, tag-differs, mark-told, body-told, record-answer, record-output}
use Rattle.reader.proofs.Reading.open_record.Goals as goal
use Rattle.reader.proofs.Reading.open_record.Goals.{After-entry_at-x, After-open_part}

-- where the place's entry and record lie
there : (c : After-entry_at-x) → Placed c.args.self.now.f.now c.position-position.result c.entry_at-x.result
there c = placed _ c.args.place.0 _ _ (front _ c.args.self.now.ruled) c.requires.0 c.position-position.ensures c.entry_at-x.ensures

pub entry_at-x-requires : goal.entry_at-x-requires
entry_at-x-requires c = let w = front _ c.args.self.now.ruled in omega (arith, w, c.requires.0, c.position-position.ensures)

pub overflow_add-next : goal.overflow_add-next
overflow_add-next c = let w = front _ c.args.self.now.ruled in omega (arith, w, c.requires.0, c.position-position.ensures)

pub slice_bounds-open_part-end : goal.slice_bounds-open_part-end
slice_bounds-open_part-end c = let g = there (goal.at.slice_bounds-open_part-end c).After-entry_at-x in omega (arith, g)

pub sealed_of-requires : goal.sealed_of-requires
sealed_of-requires c = (there (goal.at.sealed_of-requires c).After-entry_at-x).within

pub open_part-requires : goal.open_part-requires
open_part-requires c =
    let g = there (goal.at.open_part-requires c).After-entry_at-x in
    let f = c.args.self.now.f.now in
    let n = ap (λ (x : Entry). x.length) (c.entry_at-x.ensures ∙ ap (entry_at f) c.position-position.ensures) in
    let m = ap length c.sealed_of.ensures.0 in
    (c.args.self.now.keyed, omega (arith, g), omega (arith, g, m), omega (arith, g, m), omega (arith, g, m, n, c.requires.2))

-- the answer for the slices that were lent is that of the part
told : (c : After-open_part) → let r = c.args.self.now in let p = c.position-position.result in let x = c.entry_at-x.result in
    part_answer r.e r.key.now r.name x.shot.0 (take (p + 12 - p) (drop p r.f.now) ++ []) c.sealed_of.result.now
    ≡ answer_in r.key.now r.f.now (record_part r.f.now (position_of r.f.now c.args.place.0))
told c =
    let r = c.args.self.now in
    let p = c.position-position in
    let x = c.entry_at-x in
    let l = (placed _ c.args.place.0 _ _ (front _ r.ruled) c.requires.0 p.ensures x.ensures).slices in
    record-answer r.key.now r.f.now r.e r.edition r.name r.named p.result x.result x.ensures _ (append-nil _ ∙ l.entry) _ c.sealed_of.ensures.0
    ∙ ap (λ (i : ℕ). answer_in r.key.now r.f.now (record_part r.f.now i)) p.ensures

-- the tag agrees
pub returns-in_err-got : goal.returns-in_err-got
returns-in_err-got c =
    absurd (clash _ c.requires.1 (tag-differs _ _ _ _ (c.in_err-got.ensures.answer ∙ told (goal.at.returns-in_err-got c).After-open_part)))

pub returns : goal.returns
returns c =
    let r = c.args.self.now in
    let k = r.key.now in
    let f = r.f.now in
    let p = c.position-position in
    let x = c.entry_at-x in
    let part = record_part f (position_of f c.args.place.0) in
    let l = (there (goal.at.returns c).After-entry_at-x).slices in
    let is : x.result ≡ entry_at f (position_of f c.args.place.0) = x.ensures ∙ ap (entry_at f) p.ensures in
    let z : length (sealed_in k f part) ≡ x.result.length + seal_length =
    sym (ap (λ (y : Entry). length (take (y.length + seal_length) (drop y.offset f))) is) ∙ l.sealed_length in (
      ap₂ fetched_as is (mark-told k f part _ (c.in_ok-got.ensures.answer ∙ told (goal.at.returns c).After-open_part) (omega (arith, z))),
      c.in_ok-got.ensures.output
          ∙ record-output k f r.e r.edition r.name r.named p.result x.result x.ensures _ (append-nil _ ∙ l.entry) _ c.sealed_of.ensures.0 c.args.out.now
          ∙ ap (λ (i : ℕ). let q = record_part f i in part_output (edition_in f) k (name_in f) q.shot q.associated (sealed_in k f q) c.args.out.now) p.ensures
          ∙ body-told k f part c.args.out.now c.requires.1,
    )
