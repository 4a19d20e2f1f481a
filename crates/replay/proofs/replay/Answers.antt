-- `replay::replay` meets its contract.
-- Assumes nothing.
use mathlib.Core.Path.{refl, ap, ◌∙◌}
use mathlib.Core.List.{◌++◌}
use Prim.Native.Nat.{ℕ, ◌-◌, ◌/◌}
use native.Mathlib.Omega.{arith}
use lib.ListN.{length, take, drop, length-drop}
use lib.Seq.{take_all}
use Rattle.bytes_le.specs.Bytes.{put_bytes, le}
use Rattle.replay.specs.declared.Performed.{Performed}
use Rattle.burst.specs.Layout.{identified}
use Rattle.replay.proofs.Scripts.{calls-most}
use Rattle.replay.proofs.Whole.{all_done}
use Rattle.replay.proofs.replay.Goals as goal

pub overflow_add-result : goal.overflow_add-result
overflow_add-result c =
    let n = ap (λ (y : Performed). y.count) c.run-p.ensures.0 in
    let m = calls-most (length c.args.answers.now / 8 - 1) c.args.script.now in
    omega (arith, n, m, c)

pub returns : goal.returns
returns c =
    let a = c.args in
    let a₂ = c.put_answer.new.answers in
    all_done a.key.now (identified a.burst_number a.camera a.site_mark.now) a.script.now a.buffer.now a.answers.now
    (omega (arith, c.if-answers-lt-ANSWER_LENGTH))
    _ _ _ a₂ (take (length a₂ - 8) (drop 8 a₂)) _ (length a₂ - 8) c.run-p.result
    c.begin-b.ensures.answer c.begin-b.ensures.output (c.put_answer.ensures ∙ ap (λ (n : ℕ). put_bytes a.answers.now 0 (le 4 n ++ le 4 0)) c.number_of.ensures)
    c.run-p.ensures.0 c.run-p.ensures.1 (take_all (length a₂ - 8) (drop 8 a₂) (simp length-drop (omega arith))) refl c.run-p.ensures.2
