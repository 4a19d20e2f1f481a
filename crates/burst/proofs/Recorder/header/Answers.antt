-- `burst::Recorder::header` meets its contract: the header's fields, one behind the other.
-- Assumes nothing.
use mathlib.Core.List.{◌++◌}
use mathlib.Core.Path.{ap, ◌∙◌}
use Prim.Native.Nat.{ℕ, ◌+◌, ◌-◌}
use lib.ListN.{replicate}
use Rattle.bytes_le.specs.Bytes.{put_bytes, le}
use Rattle.burst.specs.declared.Edition.{Edition}
use Rattle.burst.specs.Editions.{max_header}
use Rattle.burst.specs.Layout.{header_bytes}
use Rattle.burst.specs.Recorder.{name_of, recorder_header}
use Rattle.burst.proofs.Puts.{header-put}
use Rattle.burst.proofs.Recorder.header.Goals as goal

pub returns : goal.returns
unfolding recorder_header
returns c =
    let r = c.args.self.now in
    let n = c.index_length.ensures in
    header-put c.edition-e.result (name_of r) r.taken.0 r.kept.0 (r.taken.0 - r.kept.0) r.used c.edition-e.ensures.1 _ _ _ _ _ _ _ _ _ _
    c.store_le.ensures.1
    c.store_le-2.ensures.1
    c.store_le-3.ensures.1
    c.store_le-4.ensures.1
    c.store_le-5.ensures.1
    c.store_le-6.ensures.1
    c.store_le-7.ensures.1
    (c.store_le-8.ensures.1 ∙ ap (λ (k : ℕ). put_bytes c.store_le-7.new.out 24 (le 4 (r.used + k))) n)
    (c.store_le-9.ensures.1 ∙ ap (λ (k : ℕ). put_bytes c.store_le-8.new.out 28 (le 4 (r.used + k + 32))) n)
    c.store_le-10.ensures.1
    ∙ ap (λ (e : Edition). header_bytes e (name_of r) r.taken.0 r.kept.0 (r.taken.0 - r.kept.0) r.used ++ replicate (max_header - e.header) 0)
    c.edition-e.ensures.0
