-- `plain_text::put_field` meets its contract: the digits touch the word.
-- Assumes nothing.
use mathlib.Core.Path.{◌≡◌, ◌∙◌}
use native.Mathlib.Omega.{arith}
use Rattle.plain_text.specs.Text.{decimal}
use Rattle.plain_text.proofs.Puts.{Put, put_then, decimal-length, decimal-printed}
use Rattle.plain_text.proofs.put_field.Goals as goal

pub returns : goal.returns
returns c =
    let a = c.args in
    let l = decimal-length a.n in
    let d : c.as_bytes.result.now ≡ decimal a.n = c.as_bytes.ensures.value ∙ c.format.ensures.text ∙ decimal-printed a.n c.ranges.n.fits in
    let w : Put a.out.now a.at a.word.now _ _ = record { index = c.put_bytes-i.ensures.0; bytes = c.put_bytes-i.ensures.1 } in
    let p = rw d at c.put_bytes.ensures in
    let both = put_then _ _ _ _ _ _ _ _ (omega (arith, l)) w (record { index = p.0; bytes = p.1 }) in
    (both.index, both.bytes)
