-- `burst::keep` meets its contract.
-- Assumes nothing.
use mathlib.Core.Path.{◌≡◌, sym}
use native.Mathlib.Omega.{arith}
use lib.ListN.{length}
use Rattle.bytes_le.specs.Bytes.{Bytes}
use Rattle.burst.specs.declared.Recorder.{Recorder}
use Rattle.burst.specs.Editions.{Known}
use Rattle.burst.specs.Recorder.{edition_of, is_sound, keep_refusal}
use Rattle.burst.proofs.Rows.{written_known}
use Rattle.burst.proofs.Rules.{Sound, sounds}
use Rattle.burst.proofs.Numbers.{Keeps, keeps}
use Rattle.burst.proofs.Answers.{keep-refused, keep-done}
use Rattle.burst.proofs.keep.Goals as goal

-- what is known once nothing turns the call down
record Good (r : Recorder) (stamp picture buffer : Bytes) : Type 0 where
  pub known : Known (edition_of r)
  pub sound : Sound (edition_of r) r
  pub keeps : Keeps (edition_of r) (is_sound (edition_of r) r) r.taken.0 r.kept.0 r.used (length stamp) (length picture) (length buffer)

good : (r : Recorder) (stamp picture buffer : Bytes) → 0 ≡ keep_refusal r stamp picture buffer → Good r stamp picture buffer
unfolding keep_refusal
good r stamp picture buffer z =
    let w = keeps _ _ _ _ _ _ _ _ (sym z) in record { known = written_known _; sound = sounds _ _ w.sound; keeps = w }

pub returns-in-Err-clause-answer : goal.returns-in-Err-clause-answer
returns-in-Err-clause-answer c =
    let a = c.args in
    let m = c.in-Err.ensures in (keep-refused a.r a.stamp.now a.picture.now a.buffer.now _ m.number m.mark).0

pub returns-in-Err-clause-output : goal.returns-in-Err-clause-output
returns-in-Err-clause-output c =
    let a = c.args in
    let m = c.in-Err.ensures in (keep-refused a.r a.stamp.now a.picture.now a.buffer.now _ m.number m.mark).1

pub put_record-requires : goal.put_record-requires
put_record-requires c =
    let g = good _ _ _ _ c.in_default.ensures.number in (omega (arith, g), g.keeps.stamp, g.keeps.most, omega (arith, g))

pub overflow_cast-picture : goal.overflow_cast-picture
overflow_cast-picture c = let g = good _ _ _ _ c.in_default.ensures.number in omega (arith, g)

pub with_picture-next-requires : goal.with_picture-next-requires
with_picture-next-requires c =
    let g = good _ _ _ _ c.in_default.ensures.number in (omega (arith, g), omega (arith, g), omega (arith, g))

pub returns-clause-answer : goal.returns-clause-answer
returns-clause-answer c =
    let a = c.args in
    (keep-done a.r a.stamp.now a.picture.now a.buffer.now (sym c.in_default.ensures.number) _ c.with_picture-next.ensures _ c.put_record.ensures).0

pub returns-clause-output : goal.returns-clause-output
returns-clause-output c =
    let a = c.args in
    (keep-done a.r a.stamp.now a.picture.now a.buffer.now (sym c.in_default.ensures.number) _ c.with_picture-next.ensures _ c.put_record.ensures).1
