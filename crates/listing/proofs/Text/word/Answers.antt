-- `listing::Text::word` meets its contract.
-- Assumes nothing.
use mathlib.Core.List.{◌++◌}
use mathlib.Core.Path.{ap, ◌∙◌}
use native.Mathlib.Omega.{arith}
use lib.ListN.{take}
use Rattle.bytes_le.specs.Bytes.{Bytes}
use Rattle.bytes_le.proofs.Laws.{take_put}
use Rattle.listing.proofs.Text.word.Goals as goal

pub returns : goal.returns
returns c =
    let s = c.self.inside in
    let p = c.put_bytes-self-inside in
    ap (take p.result) p.ensures.1
    ∙ take_put s.room s.used c.args.word.now p.result p.ensures.0 (omega arith)
    ∙ ap (λ (t : Bytes). t ++ c.args.word.now) c.self.view_is
