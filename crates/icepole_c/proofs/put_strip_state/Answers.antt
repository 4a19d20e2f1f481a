-- `icepole_c::put_strip_state` meets its contract: the three runs touch.
-- Assumes nothing.
use mathlib.Core.Path.{◌≡◌, ap, ◌∙◌}
use mathlib.Core.List.{◌++◌}
use Prim.Native.Nat.{ℕ}
use native.Mathlib.Nat.{zero-add}
use borrow.Author.Rules.{rules}
use lib.ListN.{length}
use Rattle.bytes_le.specs.Bytes.{put_bytes, le}
use Rattle.icepole_c.proofs.StripCalls.{state-put}
use Rattle.icepole_c.proofs.put_strip_state.Goals as goal

pub returns : goal.returns
returns c =
    let a = c.args in
    let l : length c.args.s.bytes ≡ 160 = search rules in
    state-put a.b.now _ _ _ a.s.bytes a.s.count _ _ _ c.requires l
    (c.put_bytes-i.ensures.0 ∙ zero-add _) c.put_bytes-i.ensures.1 c.store_le-j.ensures.0 c.store_le-j.ensures.1 c.store_le.ensures.1
    ∙ ap (λ (f : ℕ). put_bytes a.b.now 0 (a.s.bytes ++ (le 8 a.s.count ++ le 1 f))) c.from.ensures
