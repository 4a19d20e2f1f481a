-- `burst::Recorder::put_record` meets its contract.
-- Assumes nothing.
use mathlib.Core.List.{[], ◌++◌}
use mathlib.Core.Path.{refl, ap, ap₂, ◌∙◌}
use Prim.Native.Nat.{◌+◌, ◌-◌}
use native.Mathlib.Omega.{arith}
use lib.ListN.{length, take, drop, length-drop}
use lib.Seq.{take_all}
use Rattle.bytes_le.specs.Bytes.{put_bytes}
use Rattle.burst.specs.declared.Edition.{Edition}
use Rattle.burst.specs.declared.Entry.{Entry}
use Rattle.burst.specs.declared.Name.{Name}
use Rattle.burst.specs.Parts.{seal_part}
use Rattle.burst.specs.Index.{bytes_of_entry}
use Rattle.burst.specs.Recorder.{edition_of, name_of}
use Rattle.burst.proofs.Parts.{record-at}
use Rattle.burst.proofs.Recorder.put_record.Goals as goal

pub returns : goal.returns
unfolding bytes_of_entry
returns c =
    let a = c.args in
    let r = a.self.now in
    let p = c.requires in
    let b = a.buffer.now in
    let t = take (length b - r.used) (drop r.used b) in
    let x₁ = c.next_entry-x.ensures in
    record-at (edition_of r) r.key (name_of r) (r.taken.0 + 1) a.stamp.now _ a.picture.now b t _ r.used (length b - r.used)
    (c.entry_bytes-associated.ensures ∙ ap bytes_of_entry x₁) p.1 p.3 (take_all (length b - r.used) (drop r.used b) (simp length-drop (omega arith))) refl
    (c.seal_part.ensures
    ∙ ap₂ (λ (e : Edition) (n : Name). put_bytes t 0 (seal_part e r.key n c.next_entry-x.result.shot.0 a.stamp.now (c.entry_bytes-associated.result ++ []) a.picture.now))
    c.edition.ensures.0 c.name.ensures
    ∙ ap (λ (x : Entry). put_bytes t 0 (seal_part (edition_of r) r.key (name_of r) x.shot.0 a.stamp.now (c.entry_bytes-associated.result ++ []) a.picture.now)) x₁)
