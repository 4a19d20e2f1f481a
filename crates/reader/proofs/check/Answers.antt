-- `reader::check` meets its contract.
-- Assumes nothing.
use mathlib.Core.Path.{refl, sym, ap, ap₂, ◌∙◌}
use native.Mathlib.Omega.{arith}
use Rattle.refusals.proofs.Laws.{passed-on, positive}
use Rattle.reader.specs.Reader.{not_checked, summary_as, check_answer}
use Rattle.reader.proofs.Rules.{front}
use Rattle.reader.proofs.Opens.{tag-differs, tag-stands, mark-told, told-7, length-closing-part}
use Rattle.reader.proofs.Parts.{all-tested, refused-by}
use Rattle.reader.proofs.Answers.{check-1, check-12, check-closing, check-record, check-0}
use Rattle.reader.proofs.check.Goals as goal

pub returns-then-key-ne-KEY_BYTES : goal.returns-then-key-ne-KEY_BYTES
returns-then-key-ne-KEY_BYTES c = check-1 _ _ c.if-key-ne-KEY_BYTES.true

pub returns-then-not-front_ok : goal.returns-then-not-front_ok
returns-then-not-front_ok c = check-12 _ _ (omega arith) (sym c.front_ok.ensures ∙ c.if-not-front_ok.true)

-- the answers are those of the reading, which is of key and file
pub returns-in_err-closing : goal.returns-in_err-closing
returns-in_err-closing c =
    let r = c.of-file.result in
    let e = c.in_err-closing.ensures in
    let n = told-7 _ _ _ _ e in
    ap summary_as (passed-on _ _ c.from_residual.ensures.1)
    ∙ ap₂ not_checked n.0 n.1
    ∙ check-closing _ _ r.keyed r.ruled (tag-differs _ _ _ _ e)
    ∙ ap₂ check_answer c.of-file.ensures.0 c.of-file.ensures.1

pub returns-in_err-verify_records : goal.returns-in_err-verify_records
returns-in_err-verify_records c =
    let r = c.of-file.result in
    let n = refused-by _ _ c.in_err-verify_records.ensures in
    ap summary_as (passed-on _ _ c.from_residual-in_err-verify_records.ensures.1)
    ∙ ap₂ not_checked (sym n.0) (sym n.1)
    ∙ check-record _ _ r.keyed r.ruled (tag-stands _ _ _ _ c.in_ok-closing.ensures) _ refl
    (λ z. let h = positive c.in_err-verify_records.field-0.0 in omega (arith, h, z, n.0))
    ∙ ap₂ check_answer c.of-file.ensures.0 c.of-file.ensures.1

pub returns : goal.returns
returns c =
    let r = c.of-file.result in
    let e = c.in_ok-closing.ensures in
    check-0 _ _ r.keyed r.ruled (tag-stands _ _ _ _ e) (all-tested _ c.in_ok-verify_records.ensures)
    _ r.header _ (mark-told _ _ _ _ e (let l = length-closing-part r.key.now r.f.now (front _ r.ruled) in omega (arith, l)))
    _ r.named
    ∙ ap₂ check_answer c.of-file.ensures.0 c.of-file.ensures.1
