-- `burst::Recorder::put_end` meets its contract.
-- Assumes nothing.
use mathlib.Core.List.{[], ◌++◌}
use mathlib.Core.Path.{◌≡◌, refl, ap₂, ◌∙◌}
use Prim.Native.Nat.{◌+◌, ◌-◌}
use native.Mathlib.Omega.{arith}
use lib.ListN.{length, take, drop, length-drop}
use lib.Seq.{take_all}
use Rattle.bytes_le.specs.Bytes.{put_bytes}
use Rattle.burst.specs.declared.Edition.{Edition}
use Rattle.burst.specs.declared.Name.{Name}
use Rattle.burst.specs.Parts.{seal_part}
use Rattle.burst.specs.Recorder.{edition_of, identity_of}
use Rattle.burst.proofs.Parts.{closing_at}
use Rattle.burst.proofs.Recorder.put_end.Goals as goal

pub returns : goal.returns
returns c =
    let a = c.args in
    let r = a.self.now in
    let p = c.requires in
    let hm : length r.site_mark ≡ 16 = omega arith in
    let b₂ = c.put_bytes-end.new.out in
    let end = c.put_bytes-end.result in
    let e : end ≡ r.used + length a.index.now = c.put_bytes-end.ensures.0 in
    closing_at (edition_of r) r.key (identity_of r) a.header.now a.index.now a.buffer.now _ b₂ (take (length b₂ - end) (drop end b₂)) _ r.used end
    (length b₂ - end)
    hm e p.2 (omega (arith, e, p)) c.put_bytes.ensures.1 c.put_bytes-end.ensures.1
    (take_all (length b₂ - end) (drop end b₂) (simp length-drop (omega arith))) refl
    (c.seal_part.ensures
    ∙ ap₂ (λ (x : Edition) (n : Name). put_bytes (take (length b₂ - end) (drop end b₂)) 0 (seal_part x r.key n 0 r.site_mark (a.header.now ++ a.index.now) []))
    c.edition.ensures.0 c.name.ensures)
