-- `reader::Reading::verify_records` meets its contract. The loop's invariant: the verdict on all records is that on the records that are left.
-- Assumes nothing.
use mathlib.Core.Path.{◌≡◌, sym, ap, ◌∙◌}
use Prim.Native.Nat.{ℕ, suc, ◌+◌, ◌-◌}
use native.Mathlib.Omega.{arith}
use Rattle.refusals.proofs.Laws.{passed-on}
use Rattle.reader.specs.Front.{kept_in, index_offset_in, position_of}
use Rattle.reader.specs.Reader.{record_parts, verdict_on}
use Rattle.reader.specs.Verdicts.{Verdict, tested}
use Rattle.reader.proofs.Parts.{parts-end, first-verified, first-refused}
use Rattle.reader.proofs.Reading.verify_records.Goals as goal
use Rattle.reader.proofs.Reading.verify_records.Goals.{After-verify_record}

abbrev verdict_from : After-verify_record → ℕ → ℕ → Verdict
verdict_from c n i = let r = c.args.self.now in verdict_on r.key.now r.f.now (record_parts n i r.f.now)

-- one record, and those behind it
left : (c : After-verify_record) → let r = c.args.self.now in
    verdict_from c (kept_in r.f.now) (index_offset_in r.f.now) ≡ verdict_from c (suc (r.h.kept.0 - (c.loop-place.place + 1))) (position_of r.f.now c.loop-place.place)
left c =
    let n : c.args.self.now.h.kept.0 - c.loop-place.place ≡ suc (c.args.self.now.h.kept.0 - (c.loop-place.place + 1)) = omega (arith, c.loop-place-test) in
    c.loop-place.invariant ∙ ap (λ (k : ℕ). verdict_from c k (position_of c.args.self.now.f.now c.loop-place.place)) n

pub returns-in_err-verify_record : goal.returns-in_err-verify_record
returns-in_err-verify_record c =
    let r = c.args.self.now in
    passed-on _ _ c.from_residual.ensures.1
    ∙ first-refused r.key.now r.f.now _ _ _ c.in_err-verify_record.ensures
    ∙ ap tested (sym (left (goal.at.returns-in_err-verify_record c).After-verify_record))

pub loop-place-preserved : goal.loop-place-preserved
loop-place-preserved c =
    let r = c.args.self.now in
    let i : position_of r.f.now c.loop-place.place + 12 ≡ position_of r.f.now (c.loop-place.place + 1) = omega arith in
    left (goal.at.loop-place-preserved c).After-verify_record
    ∙ first-verified r.key.now r.f.now _ _ c.in_ok-verify_record.ensures
    ∙ ap (λ (i : ℕ). verdict_on r.key.now r.f.now (record_parts (r.h.kept.0 - (c.loop-place.place + 1)) i r.f.now)) i

pub returns : goal.returns
returns c =
    let r = c.args.self.now in
    let l = c.loop-place in
    let n : r.h.kept.0 - l.place ≡ 0 = omega (arith, c.loop-place-test) in
    ap tested
    (sym
    (l.invariant
    ∙ ap (λ (n : ℕ). verdict_on r.key.now r.f.now (record_parts n (position_of r.f.now l.place) r.f.now)) n
    ∙ parts-end r.key.now r.f.now (position_of r.f.now l.place)))
