-- The claims about the permutation, by the laws of its crate.
-- Assumes nothing.
use Rattle.permutation.proofs.AppendixB.{appendix-b-agrees as agrees}
use Rattle.permutation.proofs.Rotation.{bit-moves}
use Rattle.claims.specs.Permutation.{AppendixBAgrees, BitsMove}

pub appendix-b-agrees : AppendixBAgrees
appendix-b-agrees = agrees

pub bits-move : BitsMove
bits-move = bit-moves
