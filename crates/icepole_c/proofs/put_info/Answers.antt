-- `icepole_c::put_info` meets its contract: the length, and behind it the secret number.
-- Assumes nothing.
use mathlib.Core.Path.{◌≡◌, refl}
use borrow.Author.Rules.{rules}
use lib.ListN.{length}
use Rattle.std.specs.Prelude.{Ok}
use Rattle.icepole.specs.Answers.{opened_as}
use Rattle.icepole_c.proofs.Returned.{told}
use Rattle.icepole_c.proofs.put_info.Goals as goal

pub returns-in-Ok : goal.returns-in-Ok
returns-in-Ok c =
    let l : length c.in-Ok.released.secret ≡ 16 = search rules in
    rw c.in-Ok.is
    (told (opened_as (Ok c.in-Ok.released)) c.args.n c.args.info.now l c.requires.0 c.requires.1 refl _ _ c.store_u64.ensures.1 c.put_bytes.ensures.1)
