-- A plan is carried out whole exactly if it is sized up and the buffer has as many bytes as that says. What a burst takes whole is one condition on all its shots,
-- those taken and those to come, so that it stays the same from call to call.
-- Assumes nothing.
use mathlib.Core.Bool.{Bool, true, false, not, ◌&&◌}
use mathlib.Core.List.{List, [], ◌∷◌, ◌++◌, append-nil, append_assoc}
use mathlib.Core.Logic.{◌↔◌}
use mathlib.Core.Path.{◌≡◌, refl, sym, ap, subst, ◌∙◌}
use Prim.Native.Nat.{ℕ, ◌≤◌, ◌<◌}
use native.Mathlib.Omega.{arith}
use borrow.Author.Tests.{ne_eqb, ltb-false}
use lib.Dec.{ltb}
use lib.ListN.{length, length-append}
use Rattle.bytes_le.specs.Bytes.{Bytes}
use Rattle.icepole.proofs.Numbers.{neither}
use Rattle.burst.specs.declared.Edition.{Edition}
use Rattle.burst.specs.Editions.{written, has_camera, no_camera}
use Rattle.burst.specs.Layout.{Identity, identity_held, max_picture}
use Rattle.burst.specs.Numbers.{total_from}
use Rattle.burst.proofs.Numbers.{begin-0, keep-0, keeps, drop-0, drops, close-0, closes}
use Rattle.trace.specs.Plain.{Firing, kept, gap, pictures, used_by, Plain, new_burst, used_of, total_of, Way, Call, keep_shot, drop_shot, close_burst, CallList}
use Rattle.trace.specs.Plain.{number_of, accepted, after_call, answer_of, after_calls, answers_of, begun, plain_of, plain_answers, begin_number_of}
use Rattle.trace.specs.Trace.{run_answers}
use Rattle.trace.specs.Agreement.{Reached}
use Rattle.trace.proofs.Shots.{Valid, valid-snoc, pictures-append, used-append, used-least}
use Rattle.trace.proofs.Agreement.{with, agreement}
use Rattle.sizing.specs.Sizing.{Size, lengths_of, sized_edition, too_long, size_number, size_answer}
use Rattle.sizing.specs.Plans.{planned_by, OnlyShots, Beginnable, carried_out, AllDone}
use Rattle.sizing.proofs.Numbers.{size-0, sized}
use Rattle.sizing.proofs.Plans.{valid-filled, valid-short, length-lengths}
use Rattle.sizing.proofs.Alike.{size_of}

-- ---- the shots of a plan's calls
abbrev shots_of : List Call → List Firing
shots_of [] = []
shots_of (keep_shot s p ∷ cs) = kept s p ∷ shots_of cs
shots_of (drop_shot way ∷ cs) = gap ∷ shots_of cs
shots_of (close_burst ∷ cs) = shots_of cs

shots-planned : (cs : List Call) → lengths_of (shots_of cs) ≡ planned_by cs
shots-planned [] = refl
shots-planned (keep_shot s p ∷ cs) = ap (λ (l : List ℕ). length p ∷ l) (shots-planned cs)
shots-planned (drop_shot way ∷ cs) = ap (λ (l : List ℕ). 0 ∷ l) (shots-planned cs)
shots-planned (close_burst ∷ cs) = shots-planned cs

shots-valid : (cs : List Call) → OnlyShots cs → too_long (planned_by cs) ≡ false → Valid (shots_of cs)
shots-valid [] o h = tt
shots-valid (keep_shot s p ∷ cs) o h =
    let d = neither (ltb max_picture (length p)) (too_long (planned_by cs)) h in
    ((o.0.0, o.0.1, ltb-false _ _ d.0), shots-valid cs o.1 d.1)
shots-valid (drop_shot way ∷ cs) o h = shots-valid cs o h
shots-valid (close_burst ∷ cs) o h = absurd o

-- one of valid shots is valid
valid-one : (xs : List Firing) (x : Firing) (ys : List Firing) → Valid (xs ++ (x ∷ ys)) → Valid (x ∷ [])
valid-one [] (kept s p) ys v = (v.0, tt)
valid-one [] gap ys v = tt
valid-one (kept s p ∷ xs) x ys v = valid-one xs x ys v.1
valid-one (gap ∷ xs) x ys v = valid-one xs x ys v

module _ (e : Edition) (n : ℕ) where
  -- ---- shots that a burst takes whole, with its close
  record Whole (xs : List Firing) : Type 0 where
    pub valid : Valid xs
    pub count : length xs ≤ e.shots
    pub room : total_from (used_by e.header xs) (pictures xs) ≤ n

  -- up to each of them there is room for a close
  room-before : (xs ys : List Firing) → Whole (xs ++ ys) → total_from (used_by e.header xs) (pictures xs) ≤ n
  room-before xs ys w =
      let a = used-append e.header xs ys in
      let b = used-least (used_by e.header xs) ys in
      let c = pictures-append xs ys in
      omega (arith, w.room)

  count-before : (xs : List Firing) (x : Firing) (ys : List Firing) → Whole (xs ++ (x ∷ ys)) → length xs < e.shots
  count-before xs x ys w = let a = length-append xs (x ∷ ys) in omega (arith, w.count)

  -- a burst with one more shot
  abbrev more : Plain → Firing → Plain
  more p x = with p (p.shots ++ (x ∷ [])) p.closed

  regroup : (p : Plain) (x : Firing) (xs : List Firing) → p.shots ++ (x ∷ []) ++ xs ≡ p.shots ++ (x ∷ xs)
  regroup p x xs = append_assoc p.shots (x ∷ []) xs

  -- ---- each call, while the burst is open
  keep-done : (p : Plain) (s q : Bytes) (xs : List Firing) → p.closed ≡ false → Whole (p.shots ++ (kept s q ∷ xs)) → number_of e n p (keep_shot s q) ≡ 0
  unfolding number_of
  keep-done p s q xs o w =
      let v = (valid-one p.shots (kept s q) xs w.valid).0 in
      let a = used-append e.header p.shots (kept s q ∷ []) in
      let c = pictures-append p.shots (kept s q ∷ []) in
      let r = room-before (p.shots ++ (kept s q ∷ [])) xs (subst Whole (sym (regroup p (kept s q) xs)) w) in
      sym
      (keep-0 e (not p.closed) (length p.shots) (pictures p.shots) (used_of e p) (length s) (length q) n (ap not o) v.0
      (count-before p.shots (kept s q) xs w) v.1 v.2 (omega arith))

  drop-done : (p : Plain) (way : Way) (xs : List Firing) → p.closed ≡ false → Whole (p.shots ++ (gap ∷ xs)) → number_of e n p (drop_shot way) ≡ 0
  unfolding number_of
  drop-done p way xs o w = sym (drop-0 e (not p.closed) (length p.shots) (ap not o) (count-before p.shots gap xs w))

  close-done : (p : Plain) → p.closed ≡ false → Whole (p.shots ++ []) → number_of e n p close_burst ≡ 0
  unfolding number_of
  close-done p o w = sym (close-0 (not p.closed) (pictures p.shots) (used_of e p) n (ap not o) (room-before p.shots [] w))

  close-whole : (p : Plain) → Valid p.shots → length p.shots ≤ e.shots → number_of e n p close_burst ≡ 0 → Whole p.shots
  unfolding number_of
  close-whole p v m z = record { valid = v; count = m; room = (closes _ _ _ _ z).1 }

  after-keep : (p : Plain) (s q : Bytes) → number_of e n p (keep_shot s q) ≡ 0 → after_call e n p (keep_shot s q) ≡ more p (kept s q)
  unfolding after_call accepted
  after-keep p s q h = simp h

  after-drop : (p : Plain) (way : Way) → number_of e n p (drop_shot way) ≡ 0 → after_call e n p (drop_shot way) ≡ more p gap
  unfolding after_call accepted
  after-drop p way h = simp h

  after-close : (p : Plain) → number_of e n p close_burst ≡ 0 → after_call e n p close_burst ≡ with p p.shots true
  unfolding after_call accepted
  after-close p h = simp h

  -- ---- all calls, and the close
  abbrev Done : Plain → List Call → Type 0
  Done p cs = AllDone (answers_of e n p (cs ++ (close_burst ∷ [])))

  numbered : (p : Plain) (c : Call) → (answer_of e n p c).number ≡ number_of e n p c
  unfolding answer_of
  numbered p c = refl

  whole-done : (p : Plain) → p.closed ≡ false → (cs : List Call) → OnlyShots cs → Whole (p.shots ++ shots_of cs) → Done p cs
  whole-done p o [] h w = (numbered p close_burst ∙ close-done p o w, tt)
  whole-done p o (keep_shot s q ∷ cs) h w =
      let z = keep-done p s q (shots_of cs) o w in (
        numbered p (keep_shot s q) ∙ z,
        subst (λ (r : Plain). Done r cs) (sym (after-keep p s q z))
            (whole-done (more p (kept s q)) o cs h.1 (subst Whole (sym (regroup p (kept s q) (shots_of cs))) w)),
      )
  whole-done p o (drop_shot way ∷ cs) h w =
      let z = drop-done p way (shots_of cs) o w in (
        numbered p (drop_shot way) ∙ z,
        subst (λ (r : Plain). Done r cs) (sym (after-drop p way z)) (whole-done (more p gap) o cs h (subst Whole (sym (regroup p gap (shots_of cs))) w)),
      )
  whole-done p o (close_burst ∷ cs) h w = absurd h

  -- what was done: the shots were taken whole, and the burst has them and is closed
  record Taken (p : Plain) (cs : List Call) : Type 0 where
    pub whole : Whole (p.shots ++ shots_of cs)
    pub burst : after_calls e n p (cs ++ (close_burst ∷ [])) ≡ with p (p.shots ++ shots_of cs) true

  -- one call on
  next : (p : Plain) (c : Call) (x : Firing) (cs : List Call) → shots_of (c ∷ cs) ≡ x ∷ shots_of cs → after_call e n p c ≡ more p x → Taken (more p x) cs → Taken p (c ∷ cs)
  next p c x cs g z t =
      let r : p.shots ++ (x ∷ []) ++ shots_of cs ≡ p.shots ++ shots_of (c ∷ cs) = regroup p x (shots_of cs) ∙ ap (λ (l : List Firing). p.shots ++ l) (sym g) in
      record {
        whole = subst Whole r t.whole;
        burst = ap (λ (q : Plain). after_calls e n q (cs ++ (close_burst ∷ []))) z ∙ t.burst ∙ ap (λ (l : List Firing). with p l true) r;
      }

  done-taken : (p : Plain) → Valid p.shots → length p.shots ≤ e.shots → (cs : List Call) → OnlyShots cs → Done p cs → Taken p cs
  unfolding number_of
  done-taken p v m [] h d =
      let z = sym (numbered p close_burst) ∙ d.0 in
      let a = sym (append-nil p.shots) in
      record { whole = subst Whole a (close-whole p v m z); burst = after-close p z ∙ ap (λ (l : List Firing). with p l true) a }
  done-taken p v m (keep_shot s q ∷ cs) h d =
      let z = sym (numbered p (keep_shot s q)) ∙ d.0 in
      let w = keeps _ _ _ _ _ _ _ _ z in
      next p (keep_shot s q) (kept s q) cs refl (after-keep p s q z)
      (done-taken (more p (kept s q)) (valid-snoc p.shots (kept s q) v ((w.stamp, w.least, w.most), tt)) (simp length-append (omega (arith, w.more))) cs h.1
      (subst (λ (r : Plain). Done r cs) (after-keep p s q z) d.1))
  done-taken p v m (drop_shot way ∷ cs) h d =
      let z = sym (numbered p (drop_shot way)) ∙ d.0 in
      let w = drops _ _ _ z in
      next p (drop_shot way) gap cs refl (after-drop p way z)
      (done-taken (more p gap) (valid-snoc p.shots gap v tt) (simp length-append (omega (arith, w.1))) cs h
      (subst (λ (r : Plain). Done r cs) (after-drop p way z) d.1))
  done-taken p v m (close_burst ∷ cs) h d = absurd h

-- ---- the whole list
no-camera : (e : Edition) (camera : ℕ) → (camera ≡ 0 → ⊥) → no_camera e camera ≡ false
no-camera e camera h = ap (λ (b : Bool). has_camera e && b) (ne_eqb camera 0 h) ∙ and-false (has_camera e)
  where
    and-false : (b : Bool) → (b && false) ≡ false
    and-false true = refl
    and-false false = refl

module _ (key : Bytes) (i : Identity) (cs : List Call) (b : Bytes) (good : Beginnable key i) (only : OnlyShots cs) where
  abbrev l : CallList
  l = carried_out key i (length b) cs

  abbrev row : Edition
  row = written (length key)

  abbrev new : Plain
  new = new_burst key (identity_held row i)

  abbrev xs : List Firing
  xs = shots_of cs

  is-sized : row ≡ sized_edition
  is-sized = ap written good.key_fits

  -- ---- what sizing up says of it
  abbrev size : Size
  size = size_answer (planned_by cs)

  refusal_is : size.refusal ≡ size_number sized_edition (planned_by cs)
  unfolding size_answer
  refusal_is = refl

  file-is : Valid xs → size_number sized_edition (planned_by cs) ≡ 0 → size.file_length ≡ total_from (used_by sized_edition.header xs) (pictures xs)
  unfolding total_of
  file-is v z =
      let e = shots-planned cs in
      ap (λ (ns : List ℕ). (size_answer ns).file_length) (sym e)
      ∙ ap (λ (s : Size). s.file_length) (size_of (with new xs true) (valid-filled xs v) (ap (size_number sized_edition) e ∙ z))

  whole-sized : Whole row (length b) xs → (size.refusal ≡ 0) × (size.file_length ≤ length b)
  whole-sized h =
      let w = subst (λ (e : Edition). Whole e (length b) xs) is-sized h in
      let z = sym (size-0 sized_edition (lengths_of xs) (rw length-lengths w.count) (valid-short xs w.valid)) in
      let z' = ap (size_number sized_edition) (sym (shots-planned cs)) ∙ z in
      (refusal_is ∙ z', omega (arith, file-is w.valid z', w.room))

  sized-whole : (size.refusal ≡ 0) × (size.file_length ≤ length b) → Whole row (length b) xs
  sized-whole h =
      let z = sym refusal_is ∙ h.0 in
      let s = sized sized_edition (planned_by cs) z in
      let v = shots-valid cs only s.1 in
      let c = sym (length-lengths xs) ∙ ap length (shots-planned cs) in
      subst (λ (e : Edition). Whole e (length b) xs) (sym is-sized)
      (record { valid = v; count = omega (arith, s.0); room = omega (arith, file-is v z, h.1) })

  -- ---- begin, and what follows it
  begin-done : Whole row (length b) xs → begin_number_of row l ≡ 0
  begin-done w =
      sym (begin-0 row (length key) (length i.site_mark) i.name.camera (length b) good.key_fits good.mark_fits
      (no-camera row i.name.camera good.numbered) (room-before row (length b) [] xs w))

  begun-is : begin_number_of row l ≡ 0 → begun row l ≡ new
  unfolding begun
  begun-is z = simp z

  plain-taken : AllDone (plain_answers row l) → (begin_number_of row l ≡ 0) × Taken row (length b) new cs
  unfolding plain_answers
  plain-taken d = (d.0, done-taken row (length b) new tt (omega arith) cs only (subst (λ (p : Plain). Done row (length b) p cs) (begun-is d.0) d.1))

  whole_plain : Whole row (length b) xs → AllDone (plain_answers row l)
  unfolding plain_answers
  whole_plain w =
      let z = begin-done w in
      (z, subst (λ (p : Plain). Done row (length b) p cs) (sym (begun-is z)) (whole-done row (length b) new refl cs only w))

  pub fits : AllDone (run_answers l b) ↔ ((size.refusal ≡ 0) × (size.file_length ≤ length b))
  fits =
      let a = (agreement l b refl).answers in
      (λ d. whole-sized (plain-taken (subst AllDone a d)).1.whole, λ h. subst AllDone (sym a) (whole_plain (sized-whole h)))

  -- a plan that is carried out has its file, of shots of the planned lengths
  pub carried : AllDone (run_answers l b) → Reached row l × (lengths_of (plain_of row l).shots ≡ planned_by cs)
  unfolding plain_of
  carried d =
      let t = plain-taken (subst AllDone (agreement l b refl).answers d) in
      let p = ap (λ (q : Plain). after_calls row (length b) q (cs ++ (close_burst ∷ []))) (begun-is t.0) ∙ t.1.burst in (
        record { begun = t.0; closed = ap (λ (q : Plain). q.closed) p },
        ap (λ (q : Plain). lengths_of q.shots) p ∙ shots-planned cs,
      )
