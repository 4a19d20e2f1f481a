-- `strips::may_start` meets its contract: by the number of sealing no message.
-- Assumes nothing.
use mathlib.Core.Path.{ap, ◌∙◌}
use Prim.Native.Nat.{ℕ, ◌+◌}
use Rattle.icepole.specs.Answers.{seal_number}
use Rattle.icepole.specs.Variants.{sizes}
use Rattle.icepole.specs.declared.Variant.TheVariants.{Icepole128}
use Rattle.strips.proofs.Numbers.{start-cut}
use Rattle.strips.proofs.may_start.Goals as goal

pub returns-clause-number : goal.returns-clause-number
returns-clause-number c =
    let a = c.args in
    c.may_seal.ensures.number
    ∙ ap (λ (r : ℕ). seal_number (sizes Icepole128) a.l.key a.l.nonce a.secret (a.l.first + a.l.second) 0 (r + 16)) c.min-room.ensures
    ∙ start-cut (sizes Icepole128) _ _ _ _ _
