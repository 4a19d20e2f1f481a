-- `listing::text_of` meets its contract: the text that each test leaves.
-- Assumes nothing.
use mathlib.Core.List.{◌++◌}
use mathlib.Core.Path.{refl, sym, ap, ◌∙◌}
use native.Mathlib.Omega.{arith}
use lib.ListN.{length}
use Rattle.bytes_le.specs.Bytes.{Bytes}
use Rattle.plain_text.specs.Text.{ascii}
use Rattle.reader.specs.Front.{entries_at}
use Rattle.reader.proofs.Rules.{front, reads}
use Rattle.listing.specs.Listing.{head_lines, shot_lines}
use Rattle.listing.proofs.Lines.{broken-listing, front-listing, front-made, long-listing}
use Rattle.listing.proofs.text_of.Goals as goal

pub returns-then-f-gt-MAX_LISTED : goal.returns-then-f-gt-MAX_LISTED
returns-then-f-gt-MAX_LISTED c =
    c.word.ensures ∙ ap (λ (t : Bytes). t ++ ascii "front too long\n") c.requires
    ∙ long-listing c.args.f.now (omega (arith, c.if-f-gt-MAX_LISTED))

pub returns-then-not-front_ok : goal.returns-then-not-front_ok
returns-then-not-front_ok c =
    c.word-then-not-front_ok.ensures ∙ ap (λ (t : Bytes). t ++ ascii "front 12\n") c.requires
    ∙ broken-listing c.args.f.now (omega (arith, c.if-f-gt-MAX_LISTED)) (sym c.front_ok.ensures ∙ c.if-not-front_ok.true)

pub header_in-h-requires : goal.header_in-h-requires
header_in-h-requires c =
    let w = front c.args.f.now (sym c.front_ok.ensures ∙ c.if-not-front_ok.false) in omega (arith, w.least, w.known)

pub shots-requires : goal.shots-requires
shots-requires c =
    let a = c.args in
    let h = c.header_in-h.result in
    let w = reads a.f.now _ h c.header_in-h.ensures refl (front a.f.now (sym c.front_ok.ensures ∙ c.if-not-front_ok.false)) in
    let z = ap length c.requires in (
      omega (arith, w.closing, w.total, w.size),
      omega (arith, w.known, w.most, w.counts),
      omega (arith, z, c.head.ensures.most, w.known, w.most, w.counts),
    )

pub returns : goal.returns
returns c =
    let f = c.args.f.now in
    let h = c.header_in-h in
    let r = h.result in
    c.shots.ensures
    ∙ ap (λ (t : Bytes). t ++ shot_lines (entries_at r.kept.0 r.index f))
    (c.head.ensures.text ∙ ap (λ (t : Bytes). t ++ head_lines r.burst_number r.taken.0 r.kept.0 r.dropped) c.requires)
    ∙ front-made f r h.ensures
    ∙ front-listing f (omega (arith, c.if-f-gt-MAX_LISTED)) (sym c.front_ok.ensures ∙ c.if-not-front_ok.false)
