-- `burst::begin` meets its contract.
-- Assumes nothing.
use mathlib.Core.Bool.{false}
use mathlib.Core.Path.{sym, ap, ap₂, ◌∙◌}
use native.Mathlib.Omega.{arith}
use lib.ListN.{replicate}
use Rattle.std.specs.Array.{IsWholeChunk}
use Rattle.bytes_le.specs.Bytes.{Bytes, put_bytes}
use Rattle.burst.specs.declared.Edition.{Edition}
use Rattle.burst.specs.Layout.{identified}
use Rattle.burst.specs.Recorder.{new_recorder, begin_refusal}
use Rattle.burst.proofs.Puts.{header-zeros, length-zeros}
use Rattle.burst.proofs.Numbers.{begins}
use Rattle.burst.proofs.Answers.{begin-refused, begin-done, begin-written}
use Rattle.burst.proofs.begin.Goals as goal

pub returns-in-Err-clause-answer : goal.returns-in-Err-clause-answer
unfolding begin_refusal
returns-in-Err-clause-answer c =
    let a = c.args in
    let m = c.in-Err.ensures in
    (begin-refused a.key.now (identified a.burst_number a.camera a.site_mark.now) a.buffer.now _ m.number m.mark _ c.no_recorder.ensures).0

pub returns-in-Err-clause-output : goal.returns-in-Err-clause-output
unfolding begin_refusal
returns-in-Err-clause-output c =
    let a = c.args in
    let m = c.in-Err.ensures in
    (begin-refused a.key.now (identified a.burst_number a.camera a.site_mark.now) a.buffer.now _ m.number m.mark _ c.no_recorder.ensures).1

pub put_bytes-requires : goal.put_bytes-requires
put_bytes-requires c =
    let w = begins _ _ _ _ _ (sym c.in_default.ensures.number) in
    let e = ap (λ (x : Edition). x.header) c.edition_written-e.ensures.0 in
    let l = length-zeros _ c.edition_written-e.ensures.1 in
    omega (arith, w, l, e)

pub unwrap-k-requires : goal.unwrap-k-requires
unwrap-k-requires c = c.try_into.ensures.0 (begins _ _ _ _ _ (sym c.in_default.ensures.number)).key

pub unwrap-m-requires : goal.unwrap-m-requires
unwrap-m-requires c = c.try_into-2.ensures.0 (begins _ _ _ _ _ (sym c.in_default.ensures.number)).mark

pub returns-clause-answer : goal.returns-clause-answer
unfolding begin_refusal
returns-clause-answer c =
    let a = c.args in
    let k : IsWholeChunk a.key.now c.unwrap-k.result 16 = rw c.unwrap-k.ensures at c.try_into.ensures.1 in
    let m : IsWholeChunk a.site_mark.now c.unwrap-m.result 16 = rw c.unwrap-m.ensures at c.try_into-2.ensures.1 in
    begin-done a.key.now (identified a.burst_number a.camera a.site_mark.now) a.buffer.now (sym c.in_default.ensures.number)
    _ (c.new_recorder.ensures
    ∙ ap₂ (λ (k m : Bytes). new_recorder k (identified a.burst_number a.camera m) c.edition_written-e.result.header false) k.same m.same
    ∙ ap (λ (x : Edition). new_recorder a.key.now (identified a.burst_number a.camera a.site_mark.now) x.header false) c.edition_written-e.ensures.0)

pub returns-clause-output : goal.returns-clause-output
unfolding begin_refusal
returns-clause-output c =
    let a = c.args in
    begin-written a.key.now (identified a.burst_number a.camera a.site_mark.now) a.buffer.now (sym c.in_default.ensures.number)
    _ (c.put_bytes.ensures.1 ∙ ap (put_bytes a.buffer.now 0) (header-zeros _ c.edition_written-e.ensures.1)
    ∙ ap (λ (x : Edition). put_bytes a.buffer.now 0 (replicate x.header 0)) c.edition_written-e.ensures.0)
