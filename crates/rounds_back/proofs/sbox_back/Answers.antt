-- `rounds_back::sbox_back` meets its contract: its words agree with the formula.
-- Assumes nothing.
use mir.Syntax.{w64}
use borrow.Author.Rules.{elem_Fits}
use Rattle.rounds_back.proofs.InverseSBox.{sbox-back-agrees}
use Rattle.rounds_back.proofs.sbox_back.Goals as goal

pub returns : goal.returns
returns c = sbox-back-agrees c.args.z (λ k. (elem_Fits w64 w64 c.args.z c.well_formed.0.0 k c.well_formed.0.1.1 tt).fits)
