-- A burst that was begun can always be closed: begin and keep leave room for the close, which is what no later call takes away.
-- Assumes nothing.
use mathlib.Core.Bool.{true, false, cond, not}
use mathlib.Core.List.{List, [], ◌∷◌, ◌++◌}
use mathlib.Core.Path.{◌≡◌, refl, sym, ap, subst, ◌∙◌}
use Prim.Native.Nat.{ℕ, ◌+◌, ◌*◌, ◌≤◌}
use native.Mathlib.Omega.{arith}
use lib.Dec.{eqb}
use Rattle.burst.specs.declared.Edition.{Edition}
use Rattle.burst.proofs.Rules.{refuted, clash}
use Rattle.burst.specs.Layout.{identity_held}
use Rattle.burst.proofs.Numbers.{keeps, begins, close-0}
use Rattle.trace.specs.Plain.{kept, gap, pictures, used_by, Plain, new_burst, no_burst, Call, keep_shot, drop_shot, close_burst, CallList, Answer, total_of}
use Rattle.trace.specs.Plain.{number_of, accepted, value_of, after_call, answer_of, after_calls, answers_of, begun, plain_of, plain_answers, begin_number_of}
use Rattle.trace.specs.Agreement.{edition_for}
use Rattle.trace.proofs.Shots.{pictures-append, used-append}
use Rattle.trace.proofs.Agreement.{agreement}
use Rattle.claims.specs.Demand3.{CloseAnswered, rest, and_close, first_number, AlwaysCloses}
use Rattle.claims.proofs.Lists.{taken-on, reached-answered}

module _ (ed : Edition) (n : ℕ) where
  -- the close has room while the burst is open
  abbrev Room : Plain → Type 0
  Room p = p.closed ≡ false → used_by ed.header p.shots + 12 * pictures p.shots + 32 ≤ n

  room-accepted : (p : Plain) (c : Call) → Room p → number_of ed n p c ≡ 0 → Room (accepted ed n p c)
  unfolding number_of accepted
  room-accepted p (keep_shot s q) r z h =
      let w = (keeps _ _ _ _ _ _ _ _ z).room in
      let e₁ = used-append ed.header p.shots (kept s q ∷ []) in
      let e₂ = pictures-append p.shots (kept s q ∷ []) in
      omega arith
  room-accepted p (drop_shot way) r z h =
      let e₁ = used-append ed.header p.shots (gap ∷ []) in
      let e₂ = pictures-append p.shots (gap ∷ []) in
      let g = r h in
      omega arith
  room-accepted p close_burst r z h = absurd (clash true refl h)

  room_after : (p : Plain) (cs : List Call) → Room p → Room (after_calls ed n p cs)
  room_after p [] r = r
  room_after p (c ∷ cs) r = room_after (after_call ed n p c) cs (taken-on ed n p c Room (room-accepted p c r) r)

  close-done : (p : Plain) → Room p → p.closed ≡ false → number_of ed n p close_burst ≡ 0
  unfolding number_of
  close-done p r h = sym (close-0 (not p.closed) (pictures p.shots) (used_by ed.header p.shots) n (ap not h) (r h))

  answers-then : (p : Plain) (cs : List Call) (c : Call) → answers_of ed n p (cs ++ (c ∷ [])) ≡ answers_of ed n p cs ++ (answer_of ed n (after_calls ed n p cs) c ∷ [])
  answers-then p [] c = refl
  answers-then p (d ∷ cs) c = ap (λ (xs : List Answer). answer_of ed n p d ∷ xs) (answers-then (after_call ed n p d) cs c)

  total-told : (p : Plain) → number_of ed n p close_burst ≡ 0 → answer_of ed n p close_burst ≡ record { number = 0; mark = 0; value = total_of ed p }
  unfolding answer_of value_of
  total-told p z = simp z

module _ (ed : Edition) (l : CallList) (z : begin_number_of ed l ≡ 0) (unclosed : CloseAnswered l.calls (rest (plain_answers ed l)) → ⊥) where
  room-begun : Room ed l.buffer_length (begun ed l)
  unfolding begun
  room-begun =
      let w = (begins _ _ _ _ _ z).room in
      subst (λ (k : ℕ). Room ed l.buffer_length (cond (eqb k 0) (new_burst l.key (identity_held ed l.identity)) no_burst)) (sym z) (λ h. omega arith)

  is_open : (plain_of ed l).closed ≡ false
  is_open = sym (refuted _ (λ c. unclosed (reached-answered ed l (record { begun = z; closed = c }))))

  closes-next : number_of ed l.buffer_length (plain_of ed l) close_burst ≡ 0
  unfolding plain_of
  closes-next = close-done ed l.buffer_length (plain_of ed l) (room_after ed l.buffer_length (begun ed l) l.calls room-begun) is_open

  plain_then : plain_answers ed (and_close l) ≡ plain_answers ed l ++ (record { number = 0; mark = 0; value = total_of ed (plain_of ed l) } ∷ [])
  unfolding plain_answers plain_of begun
  plain_then =
      ap (λ (xs : List Answer). let a : Answer = record { number = begin_number_of ed l; mark = 0; value = 0 } in a ∷ xs)
      (answers-then ed l.buffer_length (begun ed l) l.calls close_burst
      ∙ ap (λ (a : Answer). answers_of ed l.buffer_length (begun ed l) l.calls ++ (a ∷ [])) (total-told ed l.buffer_length (plain_of ed l) closes-next))

first_plain : (ed : Edition) (l : CallList) → first_number (plain_answers ed l) ≡ begin_number_of ed l
unfolding plain_answers
first_plain ed l = refl

pub always-closes : AlwaysCloses
always-closes l b hb z unclosed =
    let e = (agreement l b hb).answers in
    let e' = (agreement (and_close l) b hb).answers in
    let z' : begin_number_of (edition_for l) l ≡ 0 = sym (first_plain (edition_for l) l) ∙ sym (ap first_number e) ∙ z in
    let unclosed' : CloseAnswered l.calls (rest (plain_answers (edition_for l) l)) → ⊥ = λ a. unclosed
    (subst (λ (xs : List Answer). CloseAnswered l.calls (rest xs)) (sym e) a) in
    e'
    ∙ plain_then (edition_for l) l z' unclosed'
    ∙ ap (λ (xs : List Answer). xs ++ (record { number = 0; mark = 0; value = total_of (edition_for l) (plain_of (edition_for l) l) } ∷ [])) (sym e)
