use Rattle.std.proofs.Common.{arith, ◌∙◌, zero-add}
use Rattle.plain_text.specs.Text.{field}
use Rattle.plain_text.proofs.Puts.{field-length, put_then}
use Rattle.check_round_log.proofs.put_words.Goals as goal

pub put_bytes-requires : goal.put_bytes-requires
put_bytes-requires c =
    let l = field-length c.args.word.now c.args.n in
    omega (arith, l, c.put_field-i.ensures.0, c.put_field-i.auto)

-- The rest touches the number.
pub returns : goal.returns
returns c =
    let a = c.args in
    let l = field-length a.word.now a.n in
    let w = put_then a.out.now _ _ (field a.word.now a.n) a.rest.now 0 _ _ (omega (arith, l, c.requires))
    (record { index = c.put_field-i.ensures.0; bytes = c.put_field-i.ensures.1 })
    (record { index = c.put_bytes.ensures.0; bytes = c.put_bytes.ensures.1 }) in
    (w.index ∙ zero-add _, w.bytes)
