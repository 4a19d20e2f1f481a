-- `burst::close` meets its contract.
-- Assumes nothing.
use mathlib.Core.List.{◌++◌}
use mathlib.Core.Path.{◌≡◌, sym, ap, ap₂, ◌∙◌}
use Prim.Native.Nat.{ℕ, ◌+◌, ◌-◌, ◌≤◌}
use native.Mathlib.Omega.{arith}
use lib.ListN.{length, take}
use lib.Seq.{length-take-le}
use Rattle.std.specs.Prelude.{Ok}
use Rattle.bytes_le.specs.Bytes.{Bytes, put_bytes}
use Rattle.burst.specs.declared.Edition.{Edition}
use Rattle.burst.specs.declared.Recorder.{Recorder}
use Rattle.burst.specs.Editions.{Known}
use Rattle.burst.specs.Parts.{seal_length}
use Rattle.burst.specs.Layout.{closing_seal}
use Rattle.burst.specs.Numbers.{total_from}
use Rattle.burst.specs.Recorder.{edition_of, name_of, identity_of, recorder_header, recorder_index, closed_as, close_refusal, after_close}
use Rattle.burst.proofs.Rows.{written_known}
use Rattle.burst.proofs.Rules.{Sound, sounds}
use Rattle.burst.proofs.Numbers.{closes}
use Rattle.burst.proofs.Puts.{header-front}
use Rattle.burst.proofs.Answers.{close-refused, close-done, close-written}
use Rattle.burst.proofs.close.Goals as goal
use Rattle.burst.proofs.close.Goals.{After-edition-m}

-- what is known of row, recorder and buffer once nothing turns the call down
record Good (r : Recorder) (buffer : ℕ) : Type 0 where
  pub known : Known (edition_of r)
  pub sound : Sound (edition_of r) r
  pub room : total_from r.used r.kept.0 ≤ buffer

good : (r : Recorder) (buffer : Bytes) → 0 ≡ close_refusal r buffer → Good r (length buffer)
unfolding close_refusal
good r buffer z = let w = closes _ _ _ _ (sym z) in record { known = written_known _; sound = sounds _ _ w.0; room = w.1 }

-- header and index stand at the fronts of what was made for them
record Laid (r : Recorder) (h x : Bytes) (m n : ℕ) : Type 0 where
  pub header : take m h ≡ recorder_header r
  pub header_long : length (take m h) ≡ m
  pub header_most : m ≤ length h
  pub index : take n x ≡ recorder_index r
  pub index_long : length (take n x) ≡ n
  pub index_most : n ≤ length x

laid : (c : After-edition-m) → Laid c.args.r c.header-header.result c.index-index.result c.edition-m.result.header c.index_length-n.result
unfolding recorder_header
laid c =
    let r = c.args.r in
    let g = good _ _ c.in_default.ensures.number in
    let f = header-front (edition_of r) (name_of r) r.taken.0 r.kept.0 (r.taken.0 - r.kept.0) r.used g.known _ c.header-header.ensures in
    let m = ap (λ (e : Edition). e.header) c.edition-m.ensures.0 in
    let n = c.index_length-n.ensures in
    let hm : c.edition-m.result.header ≤ length c.header-header.result = omega (arith, f.0, m, g.known.header) in
    let hn : c.index_length-n.result ≤ length c.index-index.result = omega (arith, g, n, c.index-index.ensures.0) in
    record {
      header = ap (λ (k : ℕ). take k c.header-header.result) m ∙ f.1;
      header_long = length-take-le _ _ hm;
      header_most = hm;
      index = ap (λ (k : ℕ). take k c.index-index.result) n ∙ c.index-index.ensures.1;
      index_long = length-take-le _ _ hn;
      index_most = hn;
    }

pub returns-in-Err-clause-answer : goal.returns-in-Err-clause-answer
returns-in-Err-clause-answer c = let m = c.in-Err.ensures in (close-refused c.args.r c.args.buffer.now _ m.number m.mark).0

pub returns-in-Err-clause-output : goal.returns-in-Err-clause-output
returns-in-Err-clause-output c = let m = c.in-Err.ensures in (close-refused c.args.r c.args.buffer.now _ m.number m.mark).1

pub header-header-requires : goal.header-header-requires
header-header-requires c = let g = good _ _ c.in_default.ensures.number in (omega (arith, g), omega (arith, g))

pub index-index-requires : goal.index-index-requires
index-index-requires c = let g = good _ _ c.in_default.ensures.number in omega (arith, g)

pub slice_bounds-index-end : goal.slice_bounds-index-end
slice_bounds-index-end c = (laid (goal.at.slice_bounds-index-end c).After-edition-m).index_most

pub slice_bounds-put_end-end-2 : goal.slice_bounds-put_end-end-2
slice_bounds-put_end-end-2 c = sym (laid (goal.at.slice_bounds-put_end-end-2 c).After-edition-m).index_long

pub put_end-requires : goal.put_end-requires
put_end-requires c =
    let g = good _ _ c.in_default.ensures.number in
    let l = laid (goal.at.put_end-requires c).After-edition-m in
    let m = ap (λ (e : Edition). e.header) c.edition-m.ensures.0 in
    let n = c.index_length-n.ensures in
    (omega (arith, g, m, l.header_long), omega (arith, g, n, l.index_long), omega (arith, g, m, l.header_long), omega (arith, g, n, l.index_long))

pub overflow_add-total : goal.overflow_add-total
overflow_add-total c = let g = good _ _ c.in_default.ensures.number in omega (arith, g, c.index_length-n.ensures)

pub overflow_add-total-2 : goal.overflow_add-total-2
overflow_add-total-2 c = let g = good _ _ c.in_default.ensures.number in omega (arith, g, c.index_length-n.ensures)

pub returns-clause-answer : goal.returns-clause-answer
unfolding after_close
returns-clause-answer c =
    let r = c.args.r in
    ap (λ (k : ℕ). closed_as (record { answer = Ok (r.used + k + seal_length); recorder = after_close r })) c.index_length-n.ensures
    ∙ close-done r c.args.buffer.now (sym c.in_default.ensures.number)

pub returns-clause-output : goal.returns-clause-output
returns-clause-output c =
    let r = c.args.r in
    let b = c.args.buffer.now in
    let l = laid (goal.at.returns-clause-output c).After-edition-m in
    close-written r b (sym c.in_default.ensures.number) _
    (c.put_end.ensures
    ∙ ap₂ (λ (h x : Bytes). put_bytes (put_bytes b 0 h) r.used (x ++ closing_seal (edition_of r) r.key (identity_of r) h x)) l.header l.index)
