-- `listing::Text::field` meets its contract.
-- Assumes nothing.
use mathlib.Core.List.{◌++◌}
use mathlib.Core.Path.{◌≡◌, sym, ap, ◌∙◌}
use native.Mathlib.Omega.{arith}
use lib.ListN.{length, take}
use lib.Seq.{length-take-le}
use Rattle.bytes_le.specs.Bytes.{Bytes}
use Rattle.bytes_le.proofs.Laws.{take_put}
use Rattle.plain_text.specs.Text.{field}
use Rattle.plain_text.proofs.Puts.{field-length}
use Rattle.listing.proofs.Text.field.Goals as goal

pub invariant_of-self : goal.invariant_of-self
invariant_of-self c =
    let s = c.self.inside in
    let n : length c.args.self.now ≡ s.used = ap length (sym c.self.view_is) ∙ length-take-le s.used s.room (omega arith) in
    let l = field-length c.args.word.now c.args.n in
    omega (arith, n, l, c.requires, c.put_field-self-inside.ensures.0)

pub returns-clause-text : goal.returns-clause-text
returns-clause-text c =
    let s = c.self.inside in
    let p = c.put_field-self-inside in
    let v = field c.args.word.now c.args.n in
    ap (take p.result) p.ensures.1
    ∙ take_put s.room s.used v p.result p.ensures.0 (omega arith)
    ∙ ap (λ (t : Bytes). t ++ v) c.self.view_is

pub returns-clause-most : goal.returns-clause-most
returns-clause-most c =
    let p = c.put_field-self-inside in
    let n : length c.args.self.now ≡ c.self.inside.used = ap length (sym c.self.view_is) ∙ length-take-le c.self.inside.used c.self.inside.room (omega arith) in
    let l = field-length c.args.word.now c.args.n in
    let t = length-take-le p.result p.new.out (omega arith) in
    omega (arith, n, l, t, p.ensures.0)
