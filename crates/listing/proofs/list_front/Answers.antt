-- `listing::list_front` meets its contract: the text is made in a room of its own, and put from there.
-- Assumes nothing.
use mathlib.Core.Path.{sym, ap, ◌∙◌}
use native.Mathlib.Omega.{arith}
use lib.ListN.{length, take}
use lib.Seq.{length-take-le}
use Rattle.listing.proofs.Lines.{list_done, list-refused}
use Rattle.listing.proofs.list_front.Goals as goal

pub returns-then-out-count : goal.returns-then-out-count
returns-then-out-count c =
    let a = c.args in
    let t = c.text.inside in
    let n = sym (length-take-le t.used t.room (omega arith)) ∙ ap length (c.text.view_is ∙ c.text_of.ensures) in
    list-refused a.f.now a.out.now (omega (arith, c.if-out-count, n))

pub returns : goal.returns
returns c =
    let a = c.args in
    let t = c.text.inside in
    list_done a.f.now a.out.now t.used (take t.used t.room) _ (c.text.view_is ∙ c.text_of.ensures) (sym (length-take-le t.used t.room (omega arith)))
    c.if-out-count.false c.put_bytes.ensures.1
