-- `reader::record` meets its contract.
-- Assumes nothing.
use mathlib.Core.Path.{◌≡◌, refl, sym, ap, ◌∙◌}
use Prim.Native.Nat.{ℕ, ◌+◌}
use native.Mathlib.Omega.{arith}
use native.Mathlib.Nat.{add-zero}
use lib.ListN.{take, drop}
use Rattle.std.specs.Prelude.{Ok}
use Rattle.refusals.specs.Numbers.{number_of}
use Rattle.refusals.proofs.Laws.{positive}
use Rattle.burst.specs.declared.Entry.{Entry}
use Rattle.burst.specs.Parts.{seal_length}
use Rattle.reader.specs.Reader.{position_as, locate_answer}
use Rattle.reader.proofs.Answers.{located-refusal, located-mark, located-found, located-position, located-entry, record-refused, record-done}
use Rattle.reader.proofs.record.Goals as goal
use Rattle.reader.proofs.record.Goals.{In-Ok}

-- a place that was located
told : (c : In-Ok) → let a = c.args in position_as (Ok c.in-Ok.position) ≡ locate_answer a.key.now a.f.now a.place.0
told c = ap position_as (sym c.in-Ok.is) ∙ c.locate-located.ensures

pub returns-in_default : goal.returns-in_default
returns-in_default c =
    let a = c.args in
    let e = c.locate-located.ensures in
    let n = c.number_of.ensures ∙ located-refusal _ _ _ _ e in
    let p = record-refused a.key.now a.f.now a.place.0
    (λ z. let h = positive c.in_default.field-0 in let y = ap number_of (sym c.in_default.is) ∙ located-refusal _ _ _ _ e ∙ z in omega (arith, h, y)) in
    (p.0, refl, sym (add-zero _) ∙ ap (λ (i : ℕ). a.f.ref_ptr.1 + i) p.1, n, c.mark_of.ensures ∙ located-mark _ _ _ _ e)

pub entry_at-requires : goal.entry_at-requires
entry_at-requires c =
    let t = told (goal.at.entry_at-requires c).In-Ok in
    let w = located-found _ _ _ _ t refl in
    let e = located-position _ _ _ _ t refl in
    omega (arith, w.accepted.front, w.below, e)

pub sealed_of-requires : goal.sealed_of-requires
sealed_of-requires c =
    let t = told (goal.at.sealed_of-requires c).In-Ok in
    let w = located-found _ _ _ _ t refl in
    let e = located-entry _ _ _ _ t refl _ c.entry_at.ensures in
    let n = ap (λ (x : Entry). x.length) e in
    let o = ap (λ (x : Entry). x.offset) e in
    omega (arith, w.accepted.front, w.range, n, o)

pub returns : goal.returns
returns c =
    let a = c.args in
    let f = a.f.now in
    let t = told (goal.at.returns c).In-Ok in
    let e = located-entry _ _ _ _ t refl _ c.entry_at.ensures in
    let p = record-done a.key.now f a.place.0 (sym (located-refusal _ _ _ _ t)) in
    let s = c.sealed_of.ensures in (
      s.0 ∙ ap (λ (y : Entry). take (y.length + seal_length) (drop y.offset f)) e ∙ p.0,
      s.1,
      s.2 ∙ ap (λ (y : Entry). a.f.ref_ptr.1 + y.offset) e ∙ ap (λ (k : ℕ). a.f.ref_ptr.1 + k) p.1,
      c.number_of.ensures ∙ located-refusal _ _ _ _ c.locate-located.ensures,
      c.mark_of.ensures ∙ located-mark _ _ _ _ c.locate-located.ensures,
    )
