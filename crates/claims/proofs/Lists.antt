-- What holds of the plain burst of every list: its arguments stay, its shots are valid, and it is closed exactly if a close was answered 0.
-- Assumes nothing.
use mathlib.Core.Bool.{true, false, cond}
use mathlib.Core.List.{List, [], ◌∷◌}
use mathlib.Core.Logic.{inl, inr}
use mathlib.Core.Path.{◌≡◌, refl, sym, ap, subst, ◌∙◌}
use Prim.Native.Nat.{ℕ, ◌≤◌}
use native.Mathlib.Omega.{arith}
use borrow.Author.Tests.{ne_eqb}
use lib.Dec.{eqb}
use lib.ListN.{length, length-append}
use Rattle.bits.proofs.Cases.{zero_or_not}
use Rattle.bytes_le.specs.Bytes.{Bytes}
use Rattle.burst.specs.declared.Edition.{Edition}
use Rattle.burst.specs.Parts.{key_length, mark_length}
use Rattle.burst.specs.Layout.{Identity, identity_held}
use Rattle.trace.specs.Plain.{kept, gap, Plain, new_burst, no_burst, Way, Call, keep_shot, drop_shot, close_burst, CallList, number_of}
use Rattle.trace.specs.Plain.{accepted, after_call, answer_of, after_calls, answers_of, begun, plain_of, plain_answers, begin_number_of}
use Rattle.burst.proofs.Rules.{clash}
use Rattle.burst.proofs.Numbers.{keeps, drops, begins}
use Rattle.trace.specs.Agreement.{Reached}
use Rattle.trace.proofs.Shots.{Valid, valid-snoc}
use Rattle.trace.proofs.Agreement.{closed-8, closed-stays}
use Rattle.claims.specs.Demand3.{CloseAnswered, rest, Answered}

module _ (ed : Edition) where
  -- ---- what a burst obeys, whatever the calls
  pub record Fine (k : Bytes) (i : Identity) (p : Plain) : Type 0 where
    pub key : p.key ≡ k
    pub identity : p.identity ≡ i
    pub valid : Valid p.shots
    pub most : length p.shots ≤ ed.shots
    pub key16 : length p.key ≡ key_length
    pub site16 : length p.identity.site_mark ≡ mark_length

  module _ (n : ℕ) where
    done : (p : Plain) (c : Call) → number_of ed n p c ≡ 0 → after_call ed n p c ≡ accepted ed n p c
    unfolding after_call
    done p c h = simp h

    refused : (p : Plain) (c : Call) → (number_of ed n p c ≡ 0 → ⊥) → after_call ed n p c ≡ p
    unfolding after_call
    refused p c h = simp (ne_eqb (number_of ed n p c) 0 h)

    -- what holds of a burst and of what an accepted call makes of it
    pub taken-on : (p : Plain) (c : Call) (P : Plain → Type 0) → (number_of ed n p c ≡ 0 → P (accepted ed n p c)) → P p → P (after_call ed n p c)
    taken-on p c P f g =
        zero_or_not (number_of ed n p c) _ (λ e. subst P (sym (done p c e)) (f e)) (λ e. subst P (sym (refused p c e)) g)

    module _ (k : Bytes) (i : Identity) where
      fine-accepted : (p : Plain) (c : Call) → Fine k i p → number_of ed n p c ≡ 0 → Fine k i (accepted ed n p c)
      unfolding number_of accepted
      fine-accepted p (keep_shot s q) g z =
          let w = keeps _ _ _ _ _ _ _ _ z in
          record {
            key = g.key;
            identity = g.identity;
            valid = valid-snoc p.shots (kept s q) g.valid ((w.stamp, w.least, w.most), tt);
            most = let c = w.more in simp length-append (omega arith);
            key16 = g.key16;
            site16 = g.site16;
          }
      fine-accepted p (drop_shot way) g z =
          let w = drops _ _ _ z in
          record {
            key = g.key;
            identity = g.identity;
            valid = valid-snoc p.shots gap g.valid tt;
            most = let c = w.1 in simp length-append (omega arith);
            key16 = g.key16;
            site16 = g.site16;
          }
      fine-accepted p close_burst g z = record { key = g.key; identity = g.identity; valid = g.valid; most = g.most; key16 = g.key16; site16 = g.site16 }

      fine-after : (p : Plain) (cs : List Call) → Fine k i p → Fine k i (after_calls ed n p cs)
      fine-after p [] g = g
      fine-after p (c ∷ cs) g = fine-after (after_call ed n p c) cs (taken-on p c (Fine k i) (fine-accepted p c g) g)

  pub fine : (l : CallList) → begin_number_of ed l ≡ 0 → Fine l.key (identity_held ed l.identity) (plain_of ed l)
  unfolding plain_of begun
  fine l z =
      let w = begins _ _ _ _ _ z in
      fine-after l.buffer_length l.key (identity_held ed l.identity) (begun ed l) l.calls
      (subst (λ (z : ℕ). Fine l.key (identity_held ed l.identity) (cond (eqb z 0) (new_burst l.key (identity_held ed l.identity)) no_burst)) (sym z)
      (record { key = refl; identity = refl; valid = tt; most = omega arith; key16 = w.key; site16 = w.mark }))

  -- ---- closed, exactly if a close was answered 0
  module _ (n : ℕ) where
    -- a closed burst stays closed
    shut-after : (p : Plain) (c : Call) → p.closed ≡ true → (after_call ed n p c).closed ≡ true
    shut-after p c h = ap (λ (q : Plain). q.closed) (closed-stays ed n p h c) ∙ h

    answer-number : (p : Plain) (c : Call) → (answer_of ed n p c).number ≡ number_of ed n p c
    unfolding answer_of
    answer-number p c = refl

    closed_after : (p : Plain) (cs : List Call) → p.closed ≡ true → (after_calls ed n p cs).closed ≡ true
    closed_after p [] h = h
    closed_after p (c ∷ cs) h = closed_after (after_call ed n p c) cs (shut-after p c h)

    -- a closed burst answers no close with 0
    none-answered : (p : Plain) (cs : List Call) → p.closed ≡ true → CloseAnswered cs (answers_of ed n p cs) → ⊥
    none-answered p [] h a = a
    none-answered p (keep_shot s q ∷ cs) h a = none-answered (after_call ed n p (keep_shot s q)) cs (shut-after p (keep_shot s q) h) a
    none-answered p (drop_shot way ∷ cs) h a = none-answered (after_call ed n p (drop_shot way)) cs (shut-after p (drop_shot way) h) a
    none-answered p (close_burst ∷ cs) h (inl a) = let e : ◌≡◌ {A = ℕ} 8 0 = sym (closed-8 ed n p h close_burst) ∙ sym (answer-number p close_burst) ∙ a in omega arith
    none-answered p (close_burst ∷ cs) h (inr a) = none-answered (after_call ed n p close_burst) cs (shut-after p close_burst h) a

    keep-open : (p : Plain) (s q : Bytes) → p.closed ≡ false → (after_call ed n p (keep_shot s q)).closed ≡ false
    unfolding accepted
    keep-open p s q h = taken-on n p (keep_shot s q) (λ x. x.closed ≡ false) (λ _. h) h

    drop-open : (p : Plain) (way : Way) → p.closed ≡ false → (after_call ed n p (drop_shot way)).closed ≡ false
    unfolding accepted
    drop-open p way h = taken-on n p (drop_shot way) (λ x. x.closed ≡ false) (λ _. h) h

    close-accepted : (p : Plain) → number_of ed n p close_burst ≡ 0 → (after_call ed n p close_burst).closed ≡ true
    unfolding accepted
    close-accepted p h = ap (λ (q : Plain). q.closed) (done n p close_burst h)

    close-refused : (p : Plain) → (number_of ed n p close_burst ≡ 0 → ⊥) → after_call ed n p close_burst ≡ p
    close-refused p h = refused n p close_burst h

    answered-closed : (p : Plain) (cs : List Call) → p.closed ≡ false → CloseAnswered cs (answers_of ed n p cs) → (after_calls ed n p cs).closed ≡ true
    answered-closed p [] h a = absurd a
    answered-closed p (keep_shot s q ∷ cs) h a = answered-closed (after_call ed n p (keep_shot s q)) cs (keep-open p s q h) a
    answered-closed p (drop_shot way ∷ cs) h a = answered-closed (after_call ed n p (drop_shot way)) cs (drop-open p way h) a
    answered-closed p (close_burst ∷ cs) h (inl a) = closed_after _ cs (close-accepted p (sym (answer-number p close_burst) ∙ a))
    answered-closed p (close_burst ∷ cs) h (inr a) =
        zero_or_not (number_of ed n p close_burst) _
        (λ e. closed_after _ cs (close-accepted p e))
        (λ e. answered-closed (after_call ed n p close_burst) cs (ap (λ (q : Plain). q.closed) (close-refused p e) ∙ h) a)

    closed-answered : (p : Plain) (cs : List Call) → p.closed ≡ false → (after_calls ed n p cs).closed ≡ true → CloseAnswered cs (answers_of ed n p cs)
    closed-answered p [] h c = clash _ c h
    closed-answered p (keep_shot s q ∷ cs) h c = closed-answered (after_call ed n p (keep_shot s q)) cs (keep-open p s q h) c
    closed-answered p (drop_shot way ∷ cs) h c = closed-answered (after_call ed n p (drop_shot way)) cs (drop-open p way h) c
    closed-answered p (close_burst ∷ cs) h c =
        zero_or_not (number_of ed n p close_burst) _
        (λ e. inl (answer-number p close_burst ∙ e))
        (λ e. inr (closed-answered (after_call ed n p close_burst) cs (ap (λ (q : Plain). q.closed) (close-refused p e) ∙ h) c))

  module _ (l : CallList) where
    open-begun : begin_number_of ed l ≡ 0 → (begun ed l).closed ≡ false
    unfolding begun
    open-begun h = simp h

    shut-begun : (begin_number_of ed l ≡ 0 → ⊥) → (begun ed l).closed ≡ true
    unfolding begun
    shut-begun h = simp (ne_eqb (begin_number_of ed l) 0 h)

    pub reached-answered : Reached ed l → CloseAnswered l.calls (rest (plain_answers ed l))
    unfolding plain_answers plain_of
    reached-answered r = closed-answered l.buffer_length (begun ed l) l.calls (open-begun r.begun) r.closed

    answered-reached : CloseAnswered l.calls (rest (plain_answers ed l)) → Reached ed l
    unfolding plain_answers plain_of
    answered-reached a =
        zero_or_not (begin_number_of ed l) _
        (λ e. record { begun = e; closed = answered-closed l.buffer_length (begun ed l) l.calls (open-begun e) a })
        (λ e. absurd (none-answered l.buffer_length (begun ed l) l.calls (shut-begun e) a))

pub answered : Answered
answered e l = (reached-answered e l, answered-reached e l)
