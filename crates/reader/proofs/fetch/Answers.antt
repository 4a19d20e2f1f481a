-- `reader::fetch` meets its contract.
-- Assumes nothing.
use mathlib.Core.Path.{◌≡◌, refl, ap, ◌∙◌}
use native.Mathlib.Omega.{arith}
use Rattle.refusals.proofs.Laws.{passed-on, positive}
use Rattle.burst.specs.declared.Entry.{Entry}
use Rattle.reader.specs.Front.{entry_at, position_of}
use Rattle.reader.specs.Reader.{picture_as}
use Rattle.reader.proofs.Answers.{ruled, Found, located-refusal, located-mark, located-found, located-position, located-entry, fetch-refused, fetch-5, fetch-0}
use Rattle.reader.proofs.fetch.Goals as goal
use Rattle.reader.proofs.fetch.Goals.{After-entry_at-x}

-- what is known once a place was located
found : (c : After-entry_at-x) → Found c.args.key.now c.args.f.now c.args.place.0
found c = located-found _ _ _ _ c.in_ok-position.ensures refl

entry : (c : After-entry_at-x) → c.entry_at-x.result ≡ entry_at c.args.f.now (position_of c.args.f.now c.args.place.0)
entry c = located-entry _ _ _ _ c.in_ok-position.ensures refl _ c.entry_at-x.ensures

pub returns-in_err-position : goal.returns-in_err-position
returns-in_err-position c =
    let a = c.args in
    let e = c.in_err-position.ensures in
    let p = fetch-refused a.key.now a.f.now a.place.0 a.out.now _ _ (located-refusal _ _ _ _ e) (located-mark _ _ _ _ e)
    (λ z. let h = positive c.in_err-position.field-0.0 in omega (arith, h, z)) in
    (ap picture_as (passed-on _ _ c.from_residual.ensures.1) ∙ p.0, p.1)

pub entry_at-x-requires : goal.entry_at-x-requires
entry_at-x-requires c =
    let w = located-found _ _ _ _ c.in_ok-position.ensures refl in
    let e = located-position _ _ _ _ c.in_ok-position.ensures refl in
    omega (arith, w.accepted.front, w.below, e)

pub returns-then-out-x : goal.returns-then-out-x
returns-then-out-x c =
    let a = c.args in
    let t = (goal.at.returns-then-out-x c).After-entry_at-x in
    let n = ap (λ (x : Entry). x.length) (entry t) in
    fetch-5 a.key.now a.f.now a.place.0 a.out.now (found t) (omega (arith, n, c.if-out-x))

pub of-requires : goal.of-requires
of-requires c =
    let w = located-found _ _ _ _ c.in_ok-position.ensures refl in (w.accepted.key16, ruled _ _ w.zero)

-- the reading is of key and file
pub open_record-requires : goal.open_record-requires
open_record-requires c =
    let a = c.args in
    let t = (goal.at.open_record-requires c).After-entry_at-x in
    let n = ap (λ (x : Entry). x.length) (entry t) in
    rw (c.of.ensures.0, c.of.ensures.1) ((found t).below, (found t).agrees, omega (arith, n, c.if-out-x))

pub returns : goal.returns
returns c =
    let a = c.args in
    let t = (goal.at.returns c).After-entry_at-x in
    let n = ap (λ (x : Entry). x.length) (entry t) in
    let p = fetch-0 a.key.now a.f.now a.place.0 a.out.now (found t) (omega (arith, n, c.if-out-x)) in
    let o = rw (c.of.ensures.0, c.of.ensures.1) at c.open_record.ensures in
    (o.0 ∙ p.0, o.1 ∙ p.1)
