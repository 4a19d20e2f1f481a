-- `replay::run` meets its contract. The loop's invariant: the calls that are left, performed from here, leave what all calls leave from the start.
-- Assumes nothing.
use mathlib.Core.Path.{◌≡◌, sym, ap, ap₂, subst, ◌∙◌}
use mathlib.Core.List.{◌++◌}
use Prim.Native.Nat.{ℕ, suc, ◌+◌, ◌-◌, ◌*◌}
use native.Mathlib.Omega.{arith}
use lib.ListN.{length, drop, length-drop}
use lib.Seq.{take_all}
use Rattle.bytes_le.specs.Bytes.{Bytes, put_bytes, le}
use Rattle.trace.specs.Plain.{Answer}
use Rattle.replay.specs.Replay.{script_calls, script_rest}
use Rattle.replay.proofs.Scripts.{first_fits, left-none, value-is}
use Rattle.replay.proofs.Turns.{Left, none_left, turned}
use Rattle.replay.proofs.run.Goals as goal

pub returns-in_default : goal.returns-in_default
returns-in_default c =
    let l = c.loop-i in
    let e : c.args.room - l.i ≡ suc (c.args.room - l.i - 1) = omega (arith, c.loop-i-test) in
    let g = left-none (c.args.room - l.i - 1) l.rest.now (sym c.in_default.ensures) in
    none_left c.args.script.now c.args.room _ _ _ l.r l.buffer l.answers l.rest.now l.i l.invariant.left
    (ap (λ (n : ℕ). script_calls n l.rest.now) e ∙ g.0, ap (λ (n : ℕ). script_rest n l.rest.now) e ∙ g.1) _ c.ended.ensures

pub slice_bounds-rest-count : goal.slice_bounds-rest-count
slice_bounds-rest-count c = first_fits c.loop-i.rest.now _ (sym c.in-Some.ensures)

pub slice_bounds-rest-start : goal.slice_bounds-rest-start
slice_bounds-rest-start c = let f = first_fits c.loop-i.rest.now _ (sym c.in-Some.ensures) in omega (arith, f)

pub loop-i-preserved : goal.loop-i-preserved
loop-i-preserved c =
    let l = c.loop-i in
    let a = c.args in
    let k = c.perform-answer.ensures in
    let s = l.rest.now in
    let n = c.number_of-number.ensures ∙ ap (λ (y : Answer). y.number) k.answer in
    let v = c.unwrap_or-value.ensures ∙ value-is c.perform-answer.result ∙ ap (λ (y : Answer). y.value) k.answer in
    let w = turned a.script.now a.room _ _ _ l.r l.buffer l.answers s l.i l.invariant.left (omega (arith, c.requires, l.invariant.answers)) c.loop-i-test.true _ (sym c.in-Some.ensures) _ _ _
    k.recorder k.output (c.put_answer.ensures ∙ ap₂ (λ (num value : ℕ). put_bytes l.answers (8 * l.i) (le 4 num ++ le 4 value)) n v) in
    record {
      answers = c.put_answer.auto.answers ∙ l.invariant.answers;
      buffer = c.perform-answer.auto.buffer ∙ l.invariant.buffer;
      left = subst (λ (t : Bytes). Left a.script.now a.room a.start a.buffer.now a.answers.now c.perform-answer.new.r c.perform-answer.new.buffer c.put_answer.new.answers t (l.i + 1))
          (sym (take_all (length s - c.in-Some.taken) (drop c.in-Some.taken s) (simp length-drop (omega arith)))) w;
    }

pub returns : goal.returns
returns c =
    let l = c.loop-i in
    let e : c.args.room - l.i ≡ 0 = omega (arith, c.loop-i-test) in
    let i : l.i ≡ c.args.room = omega (arith, l.auto, c.loop-i-test) in
    none_left c.args.script.now c.args.room _ _ _ l.r l.buffer l.answers l.rest.now l.i l.invariant.left
    (ap (λ (n : ℕ). script_calls n l.rest.now) e, ap (λ (n : ℕ). script_rest n l.rest.now) e) _ (rw i c.ended-2.ensures)
