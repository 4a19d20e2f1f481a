-- Demand 3: the reader accepts exactly the files of the lists, and what it reads back of an accepted file makes that file.
-- Assumes nothing.
use mathlib.Core.Bool.{Bool, true, false, cond, not}
use mathlib.Core.List.{List, [], ◌∷◌, ◌++◌, append_assoc, append-nil}
use mathlib.Core.Logic.{⊎_elim}
use mathlib.Core.Path.{◌≡◌, refl, sym, ap, ap₂, subst, ◌∙◌}
use Prim.Native.Nat.{ℕ, zero, suc, ◌+◌, ◌-◌, ◌*◌, ◌≤◌, ◌<◌}
use native.Mathlib.Omega.{arith}
use native.Mathlib.Nat.{eq-or-lt_of_le}
use borrow.Author.Tests.{eqb-true, eqb-false, ne_eqb}
use lib.Dec.{eqb}
use lib.ListN.{length, take, drop, replicate, length-append, length-drop, take-append-drop}
use lib.Seq.{drop-drop, take-take, take-add, length-take-le, take_all}
use Rattle.bytes_le.specs.Bytes.{Bytes, AllBytes, le, le_at}
use Rattle.bytes_le.proofs.Laws.{length_part, part-part}
use Rattle.bytes_le.proofs.All.{all_take, all_drop, le-at, le_at-less}
use Rattle.burst.specs.declared.Edition.{Edition}
use Rattle.burst.specs.declared.Name.{Name}
use Rattle.burst.specs.Fields.{fields_length}
use Rattle.burst.specs.Editions.{no_camera, Known}
use Rattle.burst.specs.Parts.{seal_length, seal_part, part_mark, part_body, mark_length}
use Rattle.burst.specs.Layout.{Identity, identified, identity_held, header_rest, entry_bytes, header_bytes, record_bytes, closing_seal, max_picture}
use Rattle.burst.specs.Index.{index_rules}
use Rattle.trace.specs.Plain.{Firing, kept, gap, pictures, gaps, used_by, records, index, Plain, new_burst, header_of, index_of, file_of, by_value, Call, keep_shot}
use Rattle.trace.specs.Plain.{drop_shot, close_burst, CallList, number_of, accepted, after_call, after_calls, begun, plain_of, begin_number_of}
use Rattle.burst.proofs.Rows.{numbered-among, camera-below}
use Rattle.bits.proofs.Cases.{and-true}
use Rattle.burst.proofs.Rules.{index-used, not-holds}
use Rattle.burst.proofs.Numbers.{keep-0, drop-0, close-0, begin-0}
use Rattle.burst.proofs.Parts.{part-sealed, length-mark, length-body, mark-bytes, body_bytes}
use Rattle.reader.specs.Reader.{Checked}
use Rattle.reader.specs.Verdicts.{Agree}
use Rattle.reader.specs.Front.{edition_in, burst_number_in, camera_of, camera_in, name_in, all_zero, rest_rules, taken_in, kept_in, dropped_in, index_offset_in, entry_at, entries_at}
use Rattle.reader.specs.Reader.{closing_part, record_part, record_parts, agrees, mark_in, body_in, verdict_on, check_answer}
use Rattle.reader.proofs.Rules.{Front, entries-obey, entries-end}
use Rattle.reader.proofs.Parts.{first-agrees}
use Rattle.reader.proofs.Answers.{Accepted, accepted as obeyed, checked-refusal}
use Rattle.trace.proofs.Shots.{Valid, pictures-gaps, pictures-append, used-least, used-append}
use Rattle.trace.proofs.Agreement.{with}
use Rattle.claims.specs.Demand3.{slice_bound, Slice, TypedCalls, Genuine, Accepts, GivenBack, burst_in, Reads, name_given}
use Rattle.claims.proofs.Lists.{fine}
use Rattle.claims.proofs.Back.{gives_back}

-- ---- the parts of a file
module _ (f : Bytes) (fb : AllBytes f) where
  -- an entry's twelve bytes
  entry-bytes : (pos n at len : ℕ) → pos + 12 ≤ length f → le_at 2 f pos ≡ n → le_at 2 f (pos + 2) ≡ 0 → le_at 4 f (pos + 4) ≡ at → le_at 4 f (pos + 8) ≡ len
      → entry_bytes n 0 at len ≡ take 12 (drop pos f)
  unfolding entry_bytes
  entry-bytes pos n at len h e₁ e₂ e₃ e₄ =
      let g₁ : le 2 n ≡ take 2 (drop pos f) = ap (le 2) (sym e₁) ∙ le-at f fb 2 pos (omega arith) in
      let g₂ : le 2 0 ≡ take 2 (drop 2 (drop pos f)) = ap (le 2) (sym e₂) ∙ le-at f fb 2 (pos + 2) (omega arith) ∙ ap (take 2) (sym (drop-drop 2 pos f)) in
      let g₃ : le 4 at ≡ take 4 (drop 4 (drop pos f)) = ap (le 4) (sym e₃) ∙ le-at f fb 4 (pos + 4) (omega arith) ∙ ap (take 4) (sym (drop-drop 4 pos f)) in
      let g₄ : le 4 len ≡ take 4 (drop 8 (drop pos f)) = ap (le 4) (sym e₄) ∙ le-at f fb 4 (pos + 8) (omega arith) ∙ ap (take 4) (sym (drop-drop 8 pos f)) in
      let d = drop pos f in
      let t₁ : take 12 d ≡ take 2 d ++ take 10 (drop 2 d) = take-add 2 10 d in
      let t₂ : take 10 (drop 2 d) ≡ take 2 (drop 2 d) ++ take 8 (drop 4 d) = take-add 2 8 (drop 2 d) ∙ ap (λ (r : Bytes). take 2 (drop 2 d) ++ take 8 r) (drop-drop 2 2 d) in
      let t₃ : take 8 (drop 4 d) ≡ take 4 (drop 4 d) ++ take 4 (drop 8 d) = take-add 4 4 (drop 4 d) ∙ ap (λ (r : Bytes). take 4 (drop 4 d) ++ take 4 r) (drop-drop 4 4 d) in
      cc (g₁, g₂, g₃, g₄, t₁, t₂, t₃)

-- ---- the list that a file says
abbrev ShotBytes : List Firing → Type 0
ShotBytes [] = Unit {0}
ShotBytes (kept s p ∷ xs) = (AllBytes s × AllBytes p) × ShotBytes xs
ShotBytes (gap ∷ xs) = ShotBytes xs

apart : (a n : ℕ) → n ≤ a → (a ≡ n → ⊥) → n + 1 ≤ a
apart a n h g = ⊎_elim (λ e. absurd (g (sym e))) (λ l. omega arith) (eq-or-lt_of_le h)

module _ (key f : Bytes) (fb : AllBytes f) (taken end : ℕ) (he : end ≤ length f) where
  abbrev shot_at : ℕ → ℕ
  shot_at pos = (entry_at f pos).shot.0

  abbrev size_at : ℕ → ℕ
  size_at pos = (entry_at f pos).length

  abbrev stamp_at : ℕ → Bytes
  stamp_at pos = mark_in key f (record_part f pos)

  abbrev picture_in : ℕ → Bytes
  picture_in pos = body_in key f (record_part f pos)

  abbrev build : ℕ → ℕ → ℕ → ℕ → List Firing
  build zero j n pos = []
  build (suc left) zero n pos = gap ∷ build left zero (n + 1) pos
  build (suc left) (suc j) n pos = cond (eqb (shot_at pos) n) (kept (stamp_at pos) (picture_in pos) ∷ build left j (n + 1) (pos + 12)) (gap ∷ build left (suc j) (n + 1) pos)

  abbrev Rules : ℕ → ℕ → ℕ → ℕ → Type 0
  Rules j pos last at = index_rules last at taken end (entries_at j pos f) ≡ true

  none_left : (pos last at : ℕ) → Rules zero pos last at → at ≡ end
  none_left pos last at h = eqb-true _ _ (sym (entries-end f last at taken end pos) ∙ h)

  at_most : (j pos last at : ℕ) → Rules j pos last at → at ≤ end
  at_most j pos last at h = (index-used (entries_at j pos f) last at taken end h).0

  abbrev Ahead : ℕ → ℕ → ℕ → Type 0
  Ahead zero n pos = Unit {0}
  Ahead (suc j) n pos = n ≤ shot_at pos

  ahead : (j pos last at n : ℕ) → n ≡ last + 1 → Rules j pos last at → Ahead j n pos
  ahead zero pos last at n e h = tt
  ahead (suc j) pos last at n e h = let w = (entries-obey f last at taken end j pos h).0.more in omega arith

  record Built (xs : List Firing) (left j n pos at : ℕ) : Type 0 where
    pub size : length xs ≡ left
    pub kept : pictures xs ≡ j
    pub valid : Valid xs
    pub ends : used_by at xs ≡ end
    pub indexed : index n at xs ≡ take (12 * j) (drop pos f)
    pub recorded : records (edition_in f) key (name_in f) n at xs ≡ take (end - at) (drop at f)
    pub bytes : ShotBytes xs

  record OneRecord (pos n at : ℕ) : Type 0 where
    pub stamp : length (stamp_at pos) ≡ mark_length
    pub picture : length (picture_in pos) ≡ size_at pos
    pub entry : entry_bytes n 0 at (size_at pos) ≡ take 12 (drop pos f)
    pub record_is : record_bytes (edition_in f) key (name_in f) n at (stamp_at pos) (picture_in pos) ≡ take (size_at pos + 32) (drop at f)
    pub stamp-bytes : AllBytes (stamp_at pos)
    pub picture-bytes : AllBytes (picture_in pos)

  one-record : (pos n at : ℕ) → pos + 12 ≤ length f → at + size_at pos + 32 ≤ length f → shot_at pos ≡ n → (entry_at f pos).zeros ≡ 0 → (entry_at f pos).offset ≡ at
      → agrees key f (record_part f pos) ≡ true → OneRecord pos n at
  unfolding agrees mark_in body_in record_bytes
  one-record pos n at hp ha e₁ e₂ e₃ o =
      let e = edition_in f in
      let name = name_in f in
      let len = size_at pos in
      let ad = take 12 (drop pos f) in
      let c = take (len + 32) (drop (entry_at f pos).offset f) in
      let s = part_mark e key name (shot_at pos) ad c in
      let p = part_body e key name (shot_at pos) ad c in
      let eb : entry_bytes n 0 at len ≡ ad = entry-bytes f fb pos n at len hp e₁ e₂ e₃ refl in
      let lc : length c ≡ len + 32 = length_part f (entry_at f pos).offset (len + 32) (omega arith) in
      let cb : AllBytes c = all_take (len + 32) (drop (entry_at f pos).offset f) (all_drop (entry_at f pos).offset f fb) in
      let lp : length p ≡ len = length-body e key name (shot_at pos) ad c (omega arith) ∙ (let z : length c - seal_length ≡ len = omega arith in z) in
      record {
        stamp = length-mark e key name (shot_at pos) ad c (omega arith);
        picture = lp;
        entry = eb;
        record_is =
            ap (λ (k : ℕ). seal_part e key name n s (entry_bytes n 0 at k) p) lp
            ∙ ap₂ (λ (i : ℕ) (a : Bytes). seal_part e key name i s a p) (sym e₁) eb
            ∙ sym (part-sealed e key name (shot_at pos) ad c (omega arith) o)
            ∙ ap (λ (i : ℕ). take (len + 32) (drop i f)) e₃;
        stamp-bytes = mark-bytes e key name (shot_at pos) ad c cb;
        picture-bytes = body_bytes e key name (shot_at pos) ad c cb;
      }

  built-none : (left n pos last at : ℕ) → Rules zero pos last at → Built (build left zero n pos) left zero n pos at
  built-none zero n pos last at h =
      let e = none_left pos last at h in
      let z : end - at ≡ 0 = omega arith in
      record { size = refl; kept = refl; valid = tt; ends = e; indexed = refl; recorded = sym (ap (λ (k : ℕ). take k (drop at f)) z); bytes = tt }
  built-none (suc left) n pos last at h =
      let b = built-none left (n + 1) pos last at h in
      record { size = ap suc b.size; kept = b.kept; valid = b.valid; ends = b.ends; indexed = b.indexed; recorded = b.recorded; bytes = b.bytes }

  abbrev Opens : ℕ → ℕ → Type 0
  Opens j pos = verdict_on key f (record_parts j pos f) ≡ Agree

  opens-next : (j pos : ℕ) → Opens (suc j) pos → (agrees key f (record_part f pos) ≡ true) × Opens j (pos + 12)
  unfolding record_parts
  opens-next j pos h = first-agrees key f (record_part f pos) (record_parts j (pos + 12) f) h

  built-step : (left j n pos last at : ℕ) (z : Bool) → eqb (shot_at pos) n ≡ z → Rules (suc j) pos last at → n ≤ shot_at pos → pos + 12 * suc j ≤ length f
      → Opens (suc j) pos
      → ((shot_at pos ≡ n) → Built (build left j (n + 1) (pos + 12)) left j (n + 1) (pos + 12) (at + size_at pos + 32))
      → ((n + 1 ≤ shot_at pos) → Built (build left (suc j) (n + 1) pos) left (suc j) (n + 1) pos at)
      → Built (build (suc left) (suc j) n pos) (suc left) (suc j) n pos at
  built-step left j n pos last at true z h a hp r on off =
      let e = eqb-true _ _ z in
      let w = entries-obey f last at taken end j pos h in
      let len = size_at pos in
      let b = on e in
      let m = at_most j (pos + 12) (shot_at pos) (at + len + 32) w.1 in
      let o = one-record pos n at (omega arith) (omega arith) e w.0.zeros w.0.touches (opens-next j pos r).0 in
      let s = stamp_at pos in
      let p = picture_in pos in
      let lm : length p ≡ len = o.picture in
      let q : at + length p + 32 ≡ at + len + 32 = ap (λ (k : ℕ). at + k + 32) lm in
      let ys = build left j (n + 1) (pos + 12) in
      let q₁ : 12 * suc j ≡ 12 + 12 * j = omega arith in
      let q₂ : end - at ≡ len + 32 + (end - (at + len + 32)) = omega arith in
      let q₃ : at + (len + 32) ≡ at + len + 32 = omega arith in
      let ix : entry_bytes n 0 at (length p) ++ index (n + 1) (at + length p + 32) ys ≡ take (12 * suc j) (drop pos f) =
      ap₂ (λ (l : Bytes) (k : ℕ). l ++ index (n + 1) k ys) (ap (entry_bytes n 0 at) lm ∙ o.entry) q
      ∙ ap (λ (l : Bytes). take 12 (drop pos f) ++ l) (b.indexed ∙ ap (take (12 * j)) (sym (drop-drop 12 pos f)))
      ∙ sym (ap (λ (k : ℕ). take k (drop pos f)) q₁ ∙ take-add 12 (12 * j) (drop pos f)) in
      let rc : record_bytes (edition_in f) key (name_in f) n at s p ++ records (edition_in f) key (name_in f) (n + 1) (at + length p + 32) ys ≡ take (end - at) (drop at f) =
      ap₂ (λ (l : Bytes) (k : ℕ). l ++ records (edition_in f) key (name_in f) (n + 1) k ys) o.record_is q
      ∙ ap (λ (l : Bytes). take (len + 32) (drop at f) ++ l) (b.recorded ∙ ap (take (end - (at + len + 32))) (ap (λ (k : ℕ). drop k f) (sym q₃) ∙ sym (drop-drop (len + 32) at f)))
      ∙ sym (ap (λ (k : ℕ). take k (drop at f)) q₂ ∙ take-add (len + 32) (end - (at + len + 32)) (drop at f)) in
      let l₁ = w.0.least in
      let l₂ = w.0.size in
      subst (λ (l : List Firing). Built l (suc left) (suc j) n pos at) (sym (let g : build (suc left) (suc j) n pos ≡ kept s p ∷ ys = simp z in g))
      (record {
        size = ap suc b.size;
        kept = ap suc b.kept;
        valid = ((o.stamp, omega (arith, lm, l₁), omega (arith, lm, l₂)), b.valid);
        ends = ap (λ (k : ℕ). used_by k ys) q ∙ b.ends;
        indexed = ix;
        recorded = rc;
        bytes = ((o.stamp-bytes, o.picture-bytes), b.bytes);
      })
  built-step left j n pos last at false z h a hp r on off =
      let b = off (apart (shot_at pos) n a (eqb-false _ _ z)) in
      subst (λ (l : List Firing). Built l (suc left) (suc j) n pos at) (sym (let q : build (suc left) (suc j) n pos ≡ gap ∷ build left (suc j) (n + 1) pos = simp z in q))
      (record { size = ap suc b.size; kept = b.kept; valid = b.valid; ends = b.ends; indexed = b.indexed; recorded = b.recorded; bytes = b.bytes })

  built : (left j n pos last at : ℕ) → n + left ≡ taken + 1 → last < n → Rules j pos last at → Ahead j n pos → pos + 12 * j ≤ length f
      → Opens j pos → Built (build left j n pos) left j n pos at
  built left zero n pos last at e s h a hp r = built-none left n pos last at h
  built zero (suc j) n pos last at e s h a hp r = let w = (entries-obey f last at taken end j pos h).0.most in absurd (omega arith)
  built (suc left) (suc j) n pos last at e s h a hp r =
      let w = entries-obey f last at taken end j pos h in
      built-step left j n pos last at _ refl h a hp r
      (λ g. built left j (n + 1) (pos + 12) (shot_at pos) (at + size_at pos + 32) (omega arith) (omega arith) w.1
      (ahead j (pos + 12) (shot_at pos) (at + size_at pos + 32) (n + 1) (omega arith) w.1) (omega arith) (opens-next j pos r).1)
      (λ g. built left (suc j) (n + 1) pos last at (omega arith) (omega arith) h g hp r)

-- ---- the calls that make a list of shots
abbrev calls_of : List Firing → List Call
calls_of [] = close_burst ∷ []
calls_of (kept s p ∷ xs) = keep_shot s p ∷ calls_of xs
calls_of (gap ∷ xs) = drop_shot by_value ∷ calls_of xs

slice : (b : Bytes) → AllBytes b → length b ≤ max_picture → Slice b
slice b h s = record { bytes = h; size = omega arith }

typed-calls : (xs : List Firing) → ShotBytes xs → Valid xs → TypedCalls (calls_of xs)
typed-calls [] b v = tt
typed-calls (kept s p ∷ xs) b v = ((slice s b.0.0 (let h = v.0.0 in omega arith), slice p b.0.1 v.0.2), typed-calls xs b.1 v.1)
typed-calls (gap ∷ xs) b v = typed-calls xs b v

module _ (ed : Edition) (q : Plain) (n : ℕ) where
  close-yes : (ys : List Firing) → used_by ed.header ys + 12 * pictures ys + 32 ≤ n → after_call ed n (with q ys false) close_burst ≡ with q ys true
  unfolding after_call number_of accepted
  close-yes ys h = simp (sym (close-0 true (pictures ys) (used_by ed.header ys) n refl h))

  drop-yes : (ys : List Firing) → length ys < ed.shots → after_call ed n (with q ys false) (drop_shot by_value) ≡ with q (ys ++ (gap ∷ [])) false
  unfolding after_call number_of accepted
  drop-yes ys h = simp (sym (drop-0 ed true (length ys) refl h))

  keep-yes : (ys : List Firing) (s p : Bytes) → length s ≡ mark_length → length ys < ed.shots → 1 ≤ length p → length p ≤ max_picture
      → used_by ed.header ys + length p + 32 + 12 * (pictures ys + 1) + 32 ≤ n
      → after_call ed n (with q ys false) (keep_shot s p) ≡ with q (ys ++ (kept s p ∷ [])) false
  unfolding after_call number_of accepted
  keep-yes ys s p h₁ h₂ h₃ h₄ h₅ = simp (sym (keep-0 ed true (length ys) (pictures ys) (used_by ed.header ys) (length s) (length p) n refl h₁ h₂ h₃ h₄ h₅))

  runs : (xs ys : List Firing) → Valid xs → length ys + length xs ≤ ed.shots → used_by (used_by ed.header ys) xs + 12 * (pictures ys + pictures xs) + 32 ≤ n
      → after_calls ed n (with q ys false) (calls_of xs) ≡ with q (ys ++ xs) true
  runs [] ys v l h = close-yes ys (omega arith) ∙ ap (λ (zs : List Firing). with q zs true) (sym (append-nil ys))
  runs (kept s p ∷ xs) ys v l h =
      let a = used-least (used_by ed.header ys + length p + 32) xs in
      let e = keep-yes ys s p v.0.0 (omega arith) v.0.1 v.0.2 (omega arith) in
      let e₁ : used_by ed.header (ys ++ (kept s p ∷ [])) ≡ used_by ed.header ys + length p + 32 = used-append ed.header ys (kept s p ∷ []) in
      let e₂ : pictures (ys ++ (kept s p ∷ [])) ≡ pictures ys + 1 = pictures-append ys (kept s p ∷ []) in
      let e₃ : length (ys ++ (kept s p ∷ [])) ≡ length ys + 1 = length-append ys (kept s p ∷ []) in
      let h₁ : used_by (used_by ed.header (ys ++ (kept s p ∷ []))) xs + 12 * (pictures (ys ++ (kept s p ∷ [])) + pictures xs) + 32 ≤ n = rw (e₁, e₂) (omega arith) in
      ap (λ (r : Plain). after_calls ed n r (calls_of xs)) e
      ∙ runs xs (ys ++ (kept s p ∷ [])) v.1 (omega arith) h₁
      ∙ ap (λ (zs : List Firing). with q zs true) (append_assoc ys (kept s p ∷ []) xs)
  runs (gap ∷ xs) ys v l h =
      let e = drop-yes ys (omega arith) in
      let e₁ : used_by ed.header (ys ++ (gap ∷ [])) ≡ used_by ed.header ys = used-append ed.header ys (gap ∷ []) in
      let e₂ : pictures (ys ++ (gap ∷ [])) ≡ pictures ys + 0 = pictures-append ys (gap ∷ []) in
      let e₃ : length (ys ++ (gap ∷ [])) ≡ length ys + 1 = length-append ys (gap ∷ []) in
      let h₁ : used_by (used_by ed.header (ys ++ (gap ∷ []))) xs + 12 * (pictures (ys ++ (gap ∷ [])) + pictures xs) + 32 ≤ n = rw (e₁, e₂) (omega arith) in
      ap (λ (r : Plain). after_calls ed n r (calls_of xs)) e
      ∙ runs xs (ys ++ (gap ∷ [])) v (omega arith) h₁
      ∙ ap (λ (zs : List Firing). with q zs true) (append_assoc ys (gap ∷ []) xs)

-- ---- a header's bytes
pub zeros-are : (l : Bytes) → all_zero l ≡ true → l ≡ replicate (length l) 0
zeros-are [] h = refl
zeros-are (x ∷ xs) h = let g = and-true (eqb x 0) (all_zero xs) h in ap₂ (λ (y : ℕ) (l : Bytes). y ∷ l) (eqb-true _ _ g.0) (zeros-are xs g.1)

rest-bytes : (f : Bytes) → AllBytes f → (e : Edition) (name : Name) → Known e → e.header ≤ length f → camera_of e f ≡ name.camera → rest_rules e f ≡ true
    → take e.header f ≡ take fields_length f ++ header_rest e name
unfolding rest_rules header_rest
rest-bytes f fb e name k h camera z =
    let g = k.least in
    let header = take e.header f in
    let after = fields_length + e.camera in
    let l : length (drop after header) ≡ e.header - after = length-drop after header ∙ ap (λ (n : ℕ). n - after) (length-take-le e.header f h) in
    let zeros : drop e.camera (drop fields_length header) ≡ replicate (e.header - after) 0 =
    drop-drop e.camera fields_length header ∙ zeros-are _ (and-true (not (no_camera e (camera_of e f))) _ z).1 ∙ ap (λ (n : ℕ). replicate n 0) l in
    let number : take e.camera (drop fields_length header) ≡ le e.camera name.camera =
    part-part f e.header fields_length e.camera g ∙ sym (le-at f fb e.camera fields_length (omega arith)) ∙ ap (le e.camera) camera in
    sym (take-append-drop fields_length header)
    ∙ ap₂ (λ (x y : Bytes). x ++ y) (take-take fields_length e.header f (omega arith))
    (sym (take-append-drop e.camera (drop fields_length header)) ∙ ap₂ (λ (x y : Bytes). x ++ y) number zeros)

header-bytes : (e : Edition) → Known e → (name : Name) (f : Bytes) → AllBytes f → e.header ≤ length f → camera_of e f ≡ name.camera → rest_rules e f ≡ true
    → (t k d u : ℕ) → le_at 2 f 0 ≡ e.number → le_at 2 f 2 ≡ t → le_at 2 f 4 ≡ k → le_at 2 f 6 ≡ d → le_at 8 f 8 ≡ name.burst_number → le_at 4 f 16 ≡ e.header → le_at 4 f 20 ≡ u
    → le_at 4 f 24 ≡ u + 12 * k → le_at 4 f 28 ≡ u + 12 * k + 32 → header_bytes e name t k d u ≡ take e.header f
unfolding header_bytes
header-bytes e known name f fb h camera z t k d u e₀ e₁ e₂ e₃ e₄ e₅ e₆ e₇ e₈ =
    let n = name.burst_number in
    let w = known.least in
    let rb = rest-bytes f fb e name known h camera z in
    let g₀ : le 2 e.number ≡ take 2 f = ap (le 2) (sym e₀) ∙ le-at f fb 2 0 (omega arith) in
    let g₁ : le 2 t ≡ take 2 (drop 2 f) = ap (le 2) (sym e₁) ∙ le-at f fb 2 2 (omega arith) in
    let g₂ : le 2 k ≡ take 2 (drop 4 f) = ap (le 2) (sym e₂) ∙ le-at f fb 2 4 (omega arith) in
    let g₃ : le 2 d ≡ take 2 (drop 6 f) = ap (le 2) (sym e₃) ∙ le-at f fb 2 6 (omega arith) in
    let g₄ : le 8 n ≡ take 8 (drop 8 f) = ap (le 8) (sym e₄) ∙ le-at f fb 8 8 (omega arith) in
    let g₅ : le 4 e.header ≡ take 4 (drop 16 f) = ap (le 4) (sym e₅) ∙ le-at f fb 4 16 (omega arith) in
    let g₆ : le 4 u ≡ take 4 (drop 20 f) = ap (le 4) (sym e₆) ∙ le-at f fb 4 20 (omega arith) in
    let g₇ : le 4 (u + 12 * k) ≡ take 4 (drop 24 f) = ap (le 4) (sym e₇) ∙ le-at f fb 4 24 (omega arith) in
    let g₈ : le 4 (u + 12 * k + 32) ≡ take 4 (drop 28 f) = ap (le 4) (sym e₈) ∙ le-at f fb 4 28 (omega arith) in
    let p₀ = take-add 2 30 f in
    let p₁ = next 2 2 28 in
    let p₂ = next 2 4 26 in
    let p₃ = next 2 6 24 in
    let p₄ = next 8 8 16 in
    let p₅ = next 4 16 12 in
    let p₆ = next 4 20 8 in
    let p₇ = next 4 24 4 in
    let fixed : le 2 e.number ++
    (le 2 t ++ (le 2 k ++ (le 2 d ++ (le 8 n ++ (le 4 e.header ++ (le 4 u ++ (le 4 (u + 12 * k) ++ le 4 (u + 12 * k + 32)))))))) ≡ take fields_length f =
    cc (g₀, g₁, g₂, g₃, g₄, g₅, g₆, g₇, g₈, p₀, p₁, p₂, p₃, p₄, p₅, p₆, p₇) in
    ap (λ (r : Bytes). r ++ header_rest e name) fixed ∙ sym rb
  where
    next : (i at j : ℕ) → take (i + j) (drop at f) ≡ take i (drop at f) ++ take j (drop (at + i) f)
    next i at j = take-add i j (drop at f) ∙ ap (λ (r : Bytes). take i (drop at f) ++ take j r) (drop-drop i at f)

-- ---- an accepted file is a list's
length-zero : (l : Bytes) → length l ≡ 0 → l ≡ []
length-zero [] h = refl
length-zero (x ∷ xs) h = absurd (omega arith)

module _ (key f : Bytes) (kb : AllBytes key) (fb : AllBytes f) (ok : Accepted key f) where
  abbrev fr : Front f
  fr = ok.front

  abbrev i : ℕ
  i = index_offset_in f

  abbrev k : ℕ
  k = kept_in f

  end_is : i + 12 * k + 32 ≡ length f
  end_is = let a = fr.closing in let b = fr.total in let c = fr.size in omega arith

  within : i ≤ length f
  within = let w = end_is in omega arith

  abbrev xs : List Firing
  xs = build key f fb (taken_in f) i within (taken_in f) k 1 i

  made : Built key f fb (taken_in f) i within xs (taken_in f) k 1 i (edition_in f).header
  made =
      built key f fb (taken_in f) i within (taken_in f) k 1 i 0 (edition_in f).header (omega arith) (omega arith) fr.index
      (ahead key f fb (taken_in f) i within k i 0 (edition_in f).header 1 (omega arith) fr.index) (let w = end_is in omega arith) ok.records

  abbrev m : Bytes
  m = mark_in key f (closing_part f)

  last : length (drop (i + 12 * k) f) ≡ 32
  last = let w = end_is in length-drop (i + 12 * k) f ∙ (let q : length f - (i + 12 * k) ≡ 32 = omega arith in q)

  all-of-last : take (0 + 32) (drop (i + 12 * k) f) ≡ drop (i + 12 * k) f
  all-of-last = take_all (0 + 32) (drop (i + 12 * k) f) (let w = last in omega arith)

  last-length : length (take (0 + 32) (drop (i + 12 * k) f)) ≡ 32
  last-length = ap length all-of-last ∙ last

  abbrev ad : Bytes
  ad = take (edition_in f).header f ++ take (12 * k) (drop i f)

  abbrev c : Bytes
  c = take (0 + 32) (drop (i + 12 * k) f)

  site16 : length m ≡ mark_length
  unfolding mark_in
  site16 = length-mark (edition_in f) key (name_in f) 0 ad c (let w = last-length in omega arith)

  site-bytes : AllBytes m
  unfolding mark_in
  site-bytes = mark-bytes (edition_in f) key (name_in f) 0 ad c (all_take (0 + 32) (drop (i + 12 * k) f) (all_drop (i + 12 * k) f fb))

  closing-is : seal_part (edition_in f) key (name_in f) 0 m ad [] ≡ drop (i + 12 * k) f
  unfolding agrees mark_in
  closing-is =
      let l = last-length in
      let e = length-body (edition_in f) key (name_in f) 0 ad c (omega arith) in
      let z : part_body (edition_in f) key (name_in f) 0 ad c ≡ [] = length-zero _ (e ∙ (let y : length c - seal_length ≡ 0 = omega arith in y)) in
      ap (seal_part (edition_in f) key (name_in f) 0 m ad) (sym z) ∙ sym (part-sealed (edition_in f) key (name_in f) 0 ad c (omega arith) ok.closing) ∙ all-of-last

  abbrev who : Identity
  who = record { name = name_in f; site_mark = m }

  abbrev l : CallList
  l = record { key = key; identity = who; buffer_length = length f; calls = calls_of xs }

  abbrev p : Plain
  p = record { key = key; identity = who; shots = xs; closed = true }

  wanted : no_camera (edition_in f) (camera_in f) ≡ false
  unfolding rest_rules
  wanted = not-holds _ (and-true (not (no_camera (edition_in f) (camera_in f))) _ fr.rest).0

  begins-0 : begin_number_of (edition_in f) l ≡ 0
  begins-0 = sym (begin-0 (edition_in f) (length key) (length m) (camera_in f) (length f) ok.key16 site16 wanted fr.least)

  -- the file's camera number is the one that a burst of its edition holds
  held_in : identity_held (edition_in f) who ≡ who
  unfolding le_at
  held_in = ap (λ (n : ℕ). identified (burst_number_in f) n m) (by (edition_in f).camera)
    where
      by : (c : ℕ) → cond (not (eqb c 0)) (le_at c f 32) 0 ≡ le_at c f 32
      by zero = refl
      by (suc c) = simp (ne_eqb (suc c) 0 (λ i. omega arith))

  plain-is : plain_of (edition_in f) l ≡ p
  unfolding plain_of begun
  plain-is =
      let b = made in
      let c₁ = b.kept in
      let c₂ = b.ends in
      let c₃ = b.size in
      let w = end_is in
      let c₄ = fr.most in
      simp begins-0
      (ap (λ (i : Identity). after_calls (edition_in f) (length f) (new_burst key i) (calls_of xs)) held_in
      ∙ runs (edition_in f) p (length f) xs [] b.valid (omega arith) (omega arith))

  heads : header_bytes (edition_in f) (name_in f) (length xs) (pictures xs) (gaps xs) (used_by (edition_in f).header xs) ≡ take (edition_in f).header f
  heads =
      let b = made in
      let g : gaps xs ≡ dropped_in f = let c₁ = b.kept in let c₂ = b.size in let c₃ = fr.counts in let c₄ = pictures-gaps xs in omega arith in
      let e : header_bytes (edition_in f) (name_in f) (taken_in f) k (dropped_in f) i ≡ take (edition_in f).header f =
      header-bytes (edition_in f) fr.known (name_in f) f fb (let a = fr.least in omega arith) refl fr.rest (taken_in f) k (dropped_in f) i
      fr.edition refl refl refl refl fr.pictures refl fr.closing
      (fr.total ∙ ap (λ (n : ℕ). n + 32) fr.closing) in
      cc (b.size, b.kept, g, b.ends, e)

  file-is : file_of (edition_in f) p ≡ f
  unfolding file_of header_of index_of closing_seal
  file-is =
      let b = made in
      let hd = header_bytes (edition_in f) (name_in f) (length xs) (pictures xs) (gaps xs) (used_by (edition_in f).header xs) in
      let ix = index 1 (edition_in f).header xs in
      let e₁ : hd ≡ take (edition_in f).header f = heads in
      let e₂ : ix ≡ take (12 * k) (drop i f) = b.indexed in
      let e₃ : records (edition_in f) key (name_in f) 1 (edition_in f).header xs ≡ take (i - (edition_in f).header) (drop (edition_in f).header f) = b.recorded in
      let cl : seal_part (edition_in f) key (name_in f) 0 m (hd ++ ix) [] ≡ drop (i + 12 * k) f =
      ap₂ (λ (x y : Bytes). seal_part (edition_in f) key (name_in f) 0 m (x ++ y) []) e₁ e₂ ∙ closing-is in
      let d₁ : take (12 * k) (drop i f) ++ drop (i + 12 * k) f ≡ drop i f =
      ap (λ (r : Bytes). take (12 * k) (drop i f) ++ r) (sym (drop-drop (12 * k) i f)) ∙ take-append-drop (12 * k) (drop i f) in
      let n = (edition_in f).header in
      let q : n + (i - n) ≡ i = let a = at_most key f fb (taken_in f) i within k i 0 n fr.index in omega arith in
      let d₂ : take (i - n) (drop n f) ++ drop i f ≡ drop n f =
      ap (λ (r : Bytes). take (i - n) (drop n f) ++ r) (ap (λ (j : ℕ). drop j f) (sym q) ∙ sym (drop-drop (i - n) n f))
      ∙ take-append-drop (i - n) (drop n f) in
      let d₃ : take (edition_in f).header f ++ drop (edition_in f).header f ≡ f = take-append-drop (edition_in f).header f in
      cc (e₁, e₂, e₃, cl, d₁, d₂, d₃)

  short : length f < slice_bound
  short = let kn = fr.known in let s = fr.size in let a = fr.least in let u = le_at-less f fb 4 28 in omega arith

  pub file-of : Genuine key f
  file-of = record {
    edition = edition_in f;
    list = l;
    filed = record {
      listed = numbered-among _;
      named = (le_at-less f fb 8 8, camera-below (edition_in f) fr.known _ (le_at-less f fb (edition_in f).camera 32));
      reached = record { begun = begins-0; closed = ap (λ (x : Plain). x.closed) plain-is };
    };
    typed = record {
      key = slice key kb (let h = ok.key16 in omega arith);
      site_mark = slice m site-bytes (let h = site16 in omega arith);
      buffer = short;
      calls = typed-calls xs made.bytes made.valid;
    };
    keyed = refl;
    file = ap (file_of (edition_in f)) plain-is ∙ file-is;
  }

pub accepts : Accepts
accepts key f kb fb = (
  λ h. file-of key f kb fb (obeyed key f (sym (checked-refusal key f _ refl) ∙ h)),
  λ w.
      let ed = w.edition in
      let e : (check_answer w.list.key (file_of ed (plain_of ed w.list))).refusal ≡ 0 =
      ap (λ (x : Checked). x.refusal) (gives_back ed w.list w.filed).checked in
      subst (λ (x : Bytes). (check_answer key x).refusal ≡ 0) w.file (subst (λ (x : Bytes). (check_answer x (file_of ed (plain_of ed w.list))).refusal ≡ 0) w.keyed e),
)

-- ---- what is read back of an accepted file
same-file : (ed : Edition) (p q : Plain) → p.key ≡ q.key → p.identity ≡ q.identity → p.shots ≡ q.shots → file_of ed p ≡ file_of ed q
unfolding file_of header_of index_of
same-file ed p q e₁ e₂ e₃ = cc

pub reads : Reads
reads key f kb fb h =
    let w = (accepts key f kb fb).0 h in
    let ed = w.edition in
    let p = plain_of ed w.list in
    let g₀ = gives_back ed w.list w.filed in
    let g = subst (λ (x : Bytes). GivenBack ed key x p) w.file (subst (λ (x : Bytes). GivenBack ed x (file_of ed p) p) w.keyed g₀) in
    let c = g.checked in
    let fp = fine ed w.list w.filed.reached.begun in
    record {
      counts = ap (λ (x : Checked). x.taken.0) c ∙ g.counts ∙ sym (ap₂ (λ (a b : ℕ). a + b) (ap (λ (x : Checked). x.kept.0) c) (ap (λ (x : Checked). x.dropped) c));
      file =
          ap (λ (x : Edition). file_of x (burst_in key f)) g.edition
          ∙ same-file ed (burst_in key f) p (sym (fp.key ∙ w.keyed))
          (ap (λ (x : Checked). let i : Identity = record { name = name_given x; site_mark = x.site_mark } in i) c)
          g.shots
          ∙ w.file;
    }
