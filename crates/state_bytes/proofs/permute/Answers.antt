-- `state_bytes::permute` meets its contract: the rounds on words are the rounds on bytes.
-- Assumes nothing.
use mathlib.Core.Path.{ap, ◌∙◌}
use Rattle.std.specs.Prelude.{min}
use Rattle.state_bytes.specs.StateBytes.{bytes_of}
use Rattle.state_bytes.proofs.View.{permuted-bytes}
use Rattle.state_bytes.proofs.permute.Goals as goal

pub returns : goal.returns
returns g c = ap bytes_of c.permute.ensures ∙ permuted-bytes (min g.row.N 12) c.args.s.now
