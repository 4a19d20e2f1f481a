-- `blocks::ready` meets its contract: the secret number is taken and put, and the associated data absorbed.
-- Assumes nothing.
use mathlib.Core.List.{◌++◌}
use Rattle.blocks.proofs.Whole.{ready-data}
use Rattle.blocks.proofs.ready.Goals as goal

pub returns : goal.returns
returns g c =
    let a = c.args in
    ready-data a.q c.requires.0 g.met.A.Way.laws a.x.key.now a.x.nonce.now (a.x.first.now ++ a.x.second.now) a.d.now a.out.now c.requires.4
    c.keyed_state.ensures c.take_bytes.ensures.0 c.take_bytes.ensures.1 c.finish.ensures c.absorb_associated.ensures
