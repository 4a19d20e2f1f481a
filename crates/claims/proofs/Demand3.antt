-- Demand 3, whole.
-- Assumes nothing.
use Rattle.trace.proofs.Agreement.{agreement}
use Rattle.claims.specs.Demand3.{Demand3}
use Rattle.claims.proofs.Lists.{answered}
use Rattle.claims.proofs.Closes.{always-closes}
use Rattle.claims.proofs.Back.{gives_back, on-card, one-burst, withholds}
use Rattle.claims.proofs.Accept.{accepts, reads}

pub demand3 : Demand3
demand3 = record {
  agrees = agreement;
  answered = answered;
  closes = always-closes;
  one_burst = one-burst;
  accepts = accepts;
  gives_back = gives_back;
  on_card = on-card;
  reads = reads;
  withholds = withholds;
}
