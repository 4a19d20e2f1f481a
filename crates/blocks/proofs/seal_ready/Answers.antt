-- `blocks::seal_ready` meets its contract: the secret number is as long as the variant wants.
-- Assumes nothing.
use mathlib.Core.Path.{◌≡◌}
use native.Mathlib.Omega.{arith}
use lib.ListN.{take}
use lib.Seq.{take_all}
use Rattle.blocks.proofs.seal_ready.Goals as goal

pub returns : goal.returns
returns c =
    let a = c.args in
    let e : take a.q.secret a.secret.now ≡ a.secret.now = take_all a.q.secret a.secret.now (omega arith) in
    rw e at c.ready.ensures
