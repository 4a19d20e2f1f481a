-- Demand 3: the reader gives the list back, no file belongs to two bursts, and what is refused is withheld.
-- Assumes nothing.
use mathlib.Core.Bool.{Bool, true, false, cond, ◌&&◌}
use mathlib.Core.List.{List, [], ◌∷◌, ◌++◌, append-nil}
use mathlib.Core.Option.{some, some-injective}
use mathlib.Core.Path.{◌≡◌, refl, sym, ap, ap₂, subst, ◌∙◌}
use Prim.Native.Nat.{ℕ, zero, suc, ◌+◌, ◌*◌, ◌^◌, ◌≤◌, ◌<◌}
use native.Mathlib.Omega.{arith}
use native.Mathlib.Nat.{add-zero}
use borrow.Author.Tests.{le-leb, eq-eqb, ne_eqb}
use lib.Dec.{eqb}
use lib.ListN.{length, take, drop, length-replicate}
use lib.Seq.{take_at, drop_at, drop-drop}
use Rattle.bytes_le.specs.Bytes.{Bytes, put_bytes}
use Rattle.bytes_le.proofs.Laws.{take_put}
use Rattle.burst.specs.declared.Entry.{Entry}
use Rattle.burst.specs.declared.Edition.{Edition}
use Rattle.burst.specs.declared.Name.{Name}
use Rattle.burst.specs.Editions.{max_entries, numbered, has_camera, camera_held, no_camera, Known}
use Rattle.burst.specs.Parts.{part_agrees, part_mark, key_length, mark_length}
use Rattle.burst.specs.Layout.{max_picture, Identity, header_bytes, record_bytes, closing_seal}
use Rattle.burst.specs.Index.{index_rules}
use Rattle.trace.specs.Plain.{Firing, kept, gap, pictures, gaps, used_by, records, index, Plain, total_of, header_of, index_of, file_of, CallList, plain_of}
use Rattle.bits.proofs.Cases.{zero_or_not}
use Rattle.burst.proofs.Rows.{known, written-among, camera-held}
use Rattle.burst.proofs.Numbers.{begins}
use Rattle.burst.proofs.Parts.{part-agrees, part-mark}
use Rattle.reader.specs.Reader.{Checked}
use Rattle.reader.specs.Verdicts.{Agree}
use Rattle.reader.specs.Reader.{Fetched}
use Rattle.reader.specs.Front.{edition_in, name_in, header_in, taken_in, kept_in, index_offset_in, entry_at, entries_at, position_of, front_rules}
use Rattle.reader.specs.Reader.{closing_part, record_parts, sealed_in, agrees, mark_in, verdict_on, check_refusal, check_mark, check_answer, record_refusal}
use Rattle.reader.specs.Reader.{record_offset, record_bytes_in, not_checked, not_fetched, fetch_refusal, fetch_answer, fetch_output, fetched_as}
use Rattle.reader.proofs.Rules.{front-is, front_at}
use Rattle.reader.proofs.Answers.{check-not, check-zero, check-0, checked-refusal, checked-mark, fetched-refusal, Found}
use Rattle.reader.proofs.Answers.{found, record-zero, record-refused, record-done, fetch-0, fetch-not, fetch-refused}
use Rattle.trace.specs.Agreement.{edition_for}
use Rattle.trace.proofs.Agreement.{agreement}
use Rattle.trace.proofs.Seals.{length-file}
use Rattle.trace.proofs.Shots.{Valid, pictures-gaps, used-least, used-most, length-index, length-records, length-closing, sound-entries}
use Rattle.claims.specs.Demand3.{SameBurst, Filed, OneBurst, Picture, picture_at, whole, read_from, read_shots, GivenBack, GivesBack, OnCard, Withheld, Withholds}
use Rattle.claims.proofs.Lists.{fine}
use Rattle.claims.proofs.Reading.{Named, HeaderIn, header-in, entries-read, records-agree, Placed, placed, every, below}

-- ---- the file of a plain burst
module _ (ed : Edition) (known-ed : Known ed) (p : Plain) (valid : Valid p.shots) (most : length p.shots ≤ ed.shots)
    (key16 : length p.key ≡ key_length) (site16 : length p.identity.site_mark ≡ mark_length) (fits : Named ed p.identity.name) where
  abbrev xs : List Firing
  xs = p.shots

  few : length xs ≤ max_entries
  few = let k = known-ed in omega arith

  abbrev f : Bytes
  f = file_of ed p

  abbrev u : ℕ
  u = used_by ed.header xs

  abbrev hd : Bytes
  hd = header_bytes ed p.identity.name (length xs) (pictures xs) (gaps xs) u

  abbrev rs : Bytes
  rs = records ed p.key p.identity.name 1 ed.header xs

  abbrev ix : Bytes
  ix = index 1 ed.header xs

  abbrev cl : Bytes
  cl = closing_seal ed p.key p.identity hd ix

  split : f ≡ hd ++ (rs ++ (ix ++ cl))
  unfolding file_of header_of index_of
  split = refl

  bound : u + 12 * pictures xs + 32 < 2 ^ 32
  bound = let b = known-ed in let a = used-most ed.header xs valid in let c = pictures-gaps xs in omega arith

  headed : HeaderIn ed known-ed p.identity.name f (rs ++ (ix ++ cl)) (length xs) (pictures xs) (gaps xs) u
  headed = let c = pictures-gaps xs in let b = known-ed in header-in ed known-ed p.identity.name f _ _ _ _ _ (omega arith) (omega arith) (omega arith) fits bound split

  row : edition_in f ≡ ed
  row = ap numbered headed.edition ∙ known-ed.back

  recorded : drop ed.header f ≡ records (edition_in f) p.key (name_in f) 1 ed.header xs ++ (ix ++ cl)
  recorded =
      headed.next ∙ ap₂ (λ (x : Edition) (n : Name). records x p.key n 1 ed.header xs ++ (ix ++ cl)) (sym row) (sym headed.named)

  indexed : drop u f ≡ ix ++ cl
  indexed =
      let l = length-records ed p.key p.identity.name 1 ed.header xs valid in
      ap (λ (n : ℕ). drop n f) (sym l) ∙ sym (drop-drop (length rs) ed.header f) ∙ ap (drop (length rs)) headed.next ∙ drop_at rs (ix ++ cl) (length rs) refl

  indexed-bytes : take (12 * pictures xs) (drop u f) ≡ ix
  indexed-bytes = ap (take (12 * pictures xs)) indexed ∙ take_at ix cl (12 * pictures xs) (length-index 1 ed.header xs)

  closed_at : drop (u + 12 * pictures xs) f ≡ cl
  closed_at = sym (drop-drop (12 * pictures xs) u f) ∙ ap (drop (12 * pictures xs)) indexed ∙ drop_at ix cl (12 * pictures xs) (length-index 1 ed.header xs)

  length-cl : length cl ≡ 0 + 32
  length-cl = length-closing ed p.key p.identity hd ix site16

  length-f : length f ≡ u + 12 * pictures xs + 32
  unfolding total_of
  length-f = length-file ed known-ed p valid site16

  front-holds : front_rules f ≡ true
  front-holds =
      let a = used-least ed.header xs in
      let lf = length-f in
      let h = headed in
      sym (front_at ed f (sym row))
      ∙ sym
      (front-is ed f (omega arith) h.edition h.pictures (let t = h.taken in omega arith)
      (h.taken ∙ pictures-gaps xs ∙ sym (ap₂ (λ (i j : ℕ). i + j) h.kept h.dropped))
      (h.closing ∙ sym (ap₂ (λ (i j : ℕ). i + 12 * j) h.index h.kept))
      (h.total ∙ ap (λ (i : ℕ). i + 32) (sym h.closing)) (h.total ∙ sym lf) h.others)
      ∙ ap₂ (λ (i k : ℕ). index_rules 0 ed.header (taken_in f) i (entries_at k i f)) h.index h.kept
      ∙ ap (λ (t : ℕ). index_rules 0 ed.header t u (entries_at (pictures xs) u f)) h.taken
      ∙ ap (index_rules 0 ed.header (length xs) u)
      (entries-read f p.key (length xs) u few (let c = bound in omega arith) xs 1 ed.header u cl valid (omega arith) refl indexed)
      ∙ sound-entries xs 1 ed.header 0 (length xs) u valid (omega arith) (omega arith) refl

  closing-opens : (agrees p.key f (closing_part f) ≡ true) × (mark_in p.key f (closing_part f) ≡ p.identity.site_mark)
  unfolding agrees mark_in closing_seal
  closing-opens =
      let k = p.key in
      let n = p.identity.name in
      let m = p.identity.site_mark in
      let ad = (closing_part f).associated in
      let e₁ : ad ≡ hd ++ ix =
      ap₂ (λ (a : Bytes) (n : ℕ). a ++ take (12 * n) (drop (index_offset_in f) f)) (ap (λ (x : Edition). take x.header f) row ∙ headed.header) headed.kept
      ∙ ap (λ (i : ℕ). hd ++ take (12 * pictures xs) (drop i f)) headed.index ∙ ap (λ (a : Bytes). hd ++ a) indexed-bytes in
      let e₂ : sealed_in k f (closing_part f) ≡ cl =
      ap₂ (λ (i n : ℕ). take (0 + 32) (drop (i + 12 * n) f)) headed.index headed.kept
      ∙ ap (take (0 + 32)) (closed_at ∙ sym (append-nil cl)) ∙ take_at cl [] (0 + 32) length-cl in (
        ap₂ (λ (x : Edition) (y : Name). part_agrees x k y 0 ad (sealed_in k f (closing_part f))) row headed.named
            ∙ ap₂ (part_agrees ed k n 0) e₁ e₂
            ∙ part-agrees ed k n 0 m (hd ++ ix) [] site16,
        ap₂ (λ (x : Edition) (y : Name). part_mark x k y 0 ad (sealed_in k f (closing_part f))) row headed.named
            ∙ ap₂ (part_mark ed k n 0) e₁ e₂
            ∙ part-mark ed k n 0 m (hd ++ ix) [] site16,
      )

  records-open : verdict_on p.key f (record_parts (kept_in f) (index_offset_in f) f) ≡ Agree
  records-open =
      ap₂ (λ (k i : ℕ). verdict_on p.key f (record_parts k i f)) headed.kept headed.index
      ∙ records-agree f p.key (length xs) u few (let c = bound in omega arith) xs 1 ed.header u cl (ix ++ cl) valid (omega arith) refl indexed recorded

  accepted : check_refusal p.key f ≡ 0
  accepted = check-zero p.key f key16 front-holds closing-opens.0 records-open

  checked : check_answer p.key f ≡ record {
    refusal = 0;
    mark = 0;
    burst_number = p.identity.name.burst_number;
    site_mark = p.identity.site_mark;
    taken = record { 0 = length xs };
    kept = record { 0 = pictures xs };
    dropped = gaps xs;
    camera = p.identity.name.camera;
  }
  checked =
      sym (check-0 p.key f key16 front-holds closing-opens.0 records-open (header_in f) refl (mark_in p.key f (closing_part f)) refl (name_in f) refl)
      ∙ cc (ap (λ (n : Name). n.burst_number) headed.named, ap (λ (n : Name). n.camera) headed.named, headed.taken, headed.kept, headed.dropped, closing-opens.1)

  -- ---- a place
  place_at : (place : ℕ) (w : Picture) → picture_at 1 ed.header xs place ≡ some w → Placed f p.key (length xs) u few (let c = bound in omega arith) (position_of f place) w
  place_at place w h =
      subst (λ (i : ℕ). Placed f p.key (length xs) u few (let c = bound in omega arith) (i + 12 * place) w) (sym headed.index)
      (placed f p.key (length xs) u few (let c = bound in omega arith) xs 1 ed.header u place cl (ix ++ cl) w valid (omega arith) refl indexed recorded h)

  found_at : (place : ℕ) → place < pictures xs → Found p.key f place
  found_at place h = found p.key f place (record-zero p.key f place accepted (let k = headed.kept in omega arith))

  fetched : (place : ℕ) (out : Bytes) (w : Picture) → picture_at 1 ed.header xs place ≡ some w → length w.picture ≤ length out
      → (fetch_answer p.key f place out ≡ record { refusal = 0; mark = 0; shot = record { 0 = w.shot }; stamp = w.stamp; length = length w.picture })
      × (fetch_output p.key f place out ≡ put_bytes out 0 w.picture)
  fetched place out w h g =
      let y = place_at place w h in
      let e = y.entry in
      let n : (entry_at f (position_of f place)).length ≡ length w.picture = ap (λ (x : Entry). x.length) e in
      let r = fetch-0 p.key f place out (found_at place (below xs 1 ed.header place w h)) (omega arith) in (
        sym r.0
            ∙ ap₂ fetched_as e y.opens.mark,
        sym r.1 ∙ ap (put_bytes out 0) y.opens.body,
      )

  sealed-record : (place : ℕ) (w : Picture) → picture_at 1 ed.header xs place ≡ some w
      → (record_refusal p.key f place ≡ 0)
      × (record_offset p.key f place ≡ w.offset)
      × (record_bytes_in p.key f place ≡ record_bytes ed p.key p.identity.name w.shot w.offset w.stamp w.picture)
  sealed-record place w h =
      let y = place_at place w h in
      let b = below xs 1 ed.header place w h in
      let z = record-zero p.key f place accepted (let k = headed.kept in omega arith) in
      let r = record-done p.key f place z in (
        z,
        sym r.1 ∙ ap (λ (x : Entry). x.offset) y.entry,
        sym r.0 ∙ y.opens.sealed ∙ ap₂ (λ (x : Edition) (n : Name). record_bytes x p.key n w.shot w.offset w.stamp w.picture) row headed.named,
      )

  -- behind the last place nothing is given
  no_more : (place : ℕ) (out : Bytes) → pictures xs ≤ place → (fetch_answer p.key f place out).refusal ≡ 0 → ⊥
  unfolding fetch_answer fetch_refusal record_refusal
  no_more place out h z =
      let k = headed.kept in
      let e : fetch_refusal p.key f place out ≡ 13 = simp (accepted, le-leb (kept_in f) place (omega arith)) in
      let y : ◌≡◌ {A = ℕ} 13 0 = sym e ∙ z in
      omega arith

-- ---- the list, from the answers alone
picture-shot : (xs : List Firing) (n at place : ℕ) (w : Picture) → picture_at n at xs place ≡ some w → n ≤ w.shot
picture-shot [] n at place w h = let z : ◌≡◌ {A = ℕ} 0 1 = cc in absurd (omega arith)
picture-shot (kept s p ∷ xs) n at zero w h = let e : n ≡ w.shot = ap (λ (x : Picture). x.shot) (some-injective _ _ h) in omega arith
picture-shot (kept s p ∷ xs) n at (suc place) w h = let g = picture-shot xs (n + 1) (at + length p + 32) place w h in omega arith
picture-shot (gap ∷ xs) n at place w h = let g = picture-shot xs (n + 1) at place w h in omega arith

length_whole : length whole ≡ max_picture
unfolding whole
length_whole = length-replicate {A = ℕ} max_picture 0

module _ (key f : Bytes) where
  abbrev answer : Picture → Fetched
  answer w = record { refusal = 0; mark = 0; shot = record { 0 = w.shot }; stamp = w.stamp; length = length w.picture }

  -- from a place on, fetch gives the pictures of xs, and nothing more
  record Gives (xs : List Firing) (n at place : ℕ) : Type 0 where
    pub answers : (j : ℕ) (w : Picture) → picture_at n at xs j ≡ some w → fetch_answer key f (place + j) whole ≡ answer w
    pub outputs : (j : ℕ) (w : Picture) → picture_at n at xs j ≡ some w → fetch_output key f (place + j) whole ≡ put_bytes whole 0 w.picture
    pub ends : (j : ℕ) → pictures xs ≤ j → (fetch_answer key f (place + j) whole).refusal ≡ 0 → ⊥

  read_kept : (left n place : ℕ) (w : Picture) → fetch_answer key f place whole ≡ answer w → fetch_output key f place whole ≡ put_bytes whole 0 w.picture → w.shot ≡ n
      → length w.picture ≤ max_picture
      → read_from key f (suc left) n place ≡ kept w.stamp w.picture ∷ read_from key f left (n + 1) (place + 1)
  read_kept left n place w e o s l =
      let z = length_whole in
      let t : take (length w.picture) (put_bytes whole 0 w.picture) ≡ w.picture = take_put whole 0 w.picture (length w.picture) (omega arith) (omega arith) in
      simp (e, o, eq-eqb w.shot n s, t)

  read-other : (left n place : ℕ) (w : Picture) → fetch_answer key f place whole ≡ answer w → (w.shot ≡ n → ⊥)
      → read_from key f (suc left) n place ≡ gap ∷ read_from key f left (n + 1) place
  read-other left n place w e s = simp (e, ne_eqb w.shot n s)

  read_none : (left n place : ℕ) → ((fetch_answer key f place whole).refusal ≡ 0 → ⊥) → read_from key f (suc left) n place ≡ gap ∷ read_from key f left (n + 1) place
  read_none left n place h = simp (ne_eqb (fetch_answer key f place whole).refusal 0 h)

  read : (xs : List Firing) (n at place : ℕ) → Valid xs → Gives xs n at place → read_from key f (length xs) n place ≡ xs
  read [] n at place v g = refl
  read (kept s p ∷ xs) n at place v g =
      let w : Picture = record { shot = n; stamp = s; picture = p; offset = at } in
      let e₀ = add-zero place in
      let next : (j : ℕ) → place + 1 + j ≡ place + suc j = λ j. omega arith in
      read_kept (length xs) n place w
      (ap (λ (i : ℕ). fetch_answer key f i whole) (sym e₀) ∙ g.answers 0 w refl)
      (ap (λ (i : ℕ). fetch_output key f i whole) (sym e₀) ∙ g.outputs 0 w refl)
      refl v.0.2
      ∙ ap (λ (l : List Firing). kept s p ∷ l)
      (read xs (n + 1) (at + length p + 32) (place + 1) v.1
      (record {
        answers = λ j x h. ap (λ (i : ℕ). fetch_answer key f i whole) (next j) ∙ g.answers (suc j) x h;
        outputs = λ j x h. ap (λ (i : ℕ). fetch_output key f i whole) (next j) ∙ g.outputs (suc j) x h;
        ends = λ j h z. g.ends (suc j) (omega arith) (ap (λ (i : ℕ). (fetch_answer key f i whole).refusal) (sym (next j)) ∙ z);
      }))
  read (gap ∷ xs) n at place v g =
      let e₀ = add-zero place in
      zero_or_not (pictures xs) _
      (λ h. read_none (length xs) n place (λ z. g.ends 0 (omega arith) (ap (λ (i : ℕ). (fetch_answer key f i whole).refusal) e₀ ∙ z)))
      (λ h.
      let y = every xs (n + 1) at 0 (omega arith) in
      let m = picture-shot xs (n + 1) at 0 y.0 y.1 in
      read-other (length xs) n place y.0 (ap (λ (i : ℕ). fetch_answer key f i whole) (sym e₀) ∙ g.answers 0 y.0 y.1) (λ e. omega arith))
      ∙ ap (λ (l : List Firing). gap ∷ l) (read xs (n + 1) at place v (record { answers = g.answers; outputs = g.outputs; ends = g.ends }))

-- a picture of valid shots is in range
picture-most : (xs : List Firing) (n at place : ℕ) (w : Picture) → Valid xs → picture_at n at xs place ≡ some w → length w.picture ≤ max_picture
picture-most [] n at place w v h = let z : ◌≡◌ {A = ℕ} 0 1 = cc in absurd (omega arith)
picture-most (kept s p ∷ xs) n at zero w v h =
    let e : length p ≡ length w.picture = ap (λ (x : Picture). length x.picture) (some-injective _ _ h) in let g = v.0.2 in omega arith
picture-most (kept s p ∷ xs) n at (suc place) w v h = picture-most xs (n + 1) (at + length p + 32) place w v.1 h
picture-most (gap ∷ xs) n at place w v h = picture-most xs (n + 1) at place w v h

module _ (ed : Edition) (known-ed : Known ed) (p : Plain) (valid : Valid p.shots) (most : length p.shots ≤ ed.shots)
    (key16 : length p.key ≡ key_length) (site16 : length p.identity.site_mark ≡ mark_length) (fits : Named ed p.identity.name) where
  all-given : Gives p.key (file_of ed p) p.shots 1 ed.header 0
  all-given =
      let z : (j : ℕ) → 0 + j ≡ j = λ j. omega arith in
      let l = length_whole in
      record {
        answers = λ j w h. let g = picture-most p.shots 1 ed.header j w valid h in
            ap (λ (i : ℕ). fetch_answer p.key (file_of ed p) i whole) (z j) ∙ (fetched ed known-ed p valid most key16 site16 fits j whole w h (omega arith)).0;
        outputs = λ j w h. let g = picture-most p.shots 1 ed.header j w valid h in
            ap (λ (i : ℕ). fetch_output p.key (file_of ed p) i whole) (z j) ∙ (fetched ed known-ed p valid most key16 site16 fits j whole w h (omega arith)).1;
        ends = λ j h e. no_more ed known-ed p valid most key16 site16 fits j whole h (ap (λ (i : ℕ). (fetch_answer p.key (file_of ed p) i whole).refusal) (sym (z j)) ∙ e);
      }

  all_read : read_shots p.key (file_of ed p) ≡ p.shots
  unfolding read_shots
  all_read =
      ap (λ (c : Checked). read_from p.key (file_of ed p) c.taken.0 1 0) (checked ed known-ed p valid most key16 site16 fits)
      ∙ read p.key (file_of ed p) p.shots 1 ed.header 0 valid all-given

  pub given_back : GivenBack ed p.key (file_of ed p) p
  given_back = record {
    edition = row ed known-ed p valid most key16 site16 fits;
    checked = checked ed known-ed p valid most key16 site16 fits;
    counts = pictures-gaps p.shots;
    every = λ place h. every p.shots 1 ed.header place h;
    fetched = fetched ed known-ed p valid most key16 site16 fits;
    sealed = sealed-record ed known-ed p valid most key16 site16 fits;
    shots = all_read;
  }

-- where a camera number is wanted it was given, and is held
no-camera-held : (e : Edition) (n : ℕ) → no_camera e n ≡ false → no_camera e (camera_held e n) ≡ false
no-camera-held e n = by (has_camera e)
  where
    by : (b : Bool) → (b && eqb n 0) ≡ false → (b && eqb (cond b n 0) 0) ≡ false
    by true h = h
    by false h = refl

-- the plain burst of a list has the list's name, as its edition holds it
fits : (e : Edition) (l : CallList) → Filed e l → Named e (plain_of e l).identity.name
fits e l w =
    let n = l.identity.name in
    subst (λ (i : Identity). Named e i.name) (sym (fine e l w.reached.begun).identity) (record {
      number = w.named.0;
      camera = camera-held e (known e w.listed) n.camera w.named.1;
      given = no-camera-held e n.camera (begins _ _ _ _ _ w.reached.begun).camera;
    })

pub gives_back : GivesBack
gives_back e l w =
    let g = fine e l w.reached.begun in
    subst (λ (k : Bytes). GivenBack e k (file_of e (plain_of e l)) (plain_of e l)) g.key
    (given_back e (known e w.listed) (plain_of e l) g.valid g.most g.key16 g.site16 (fits e l w))

-- the front of the buffer that a list leaves is that file
pub on-card : OnCard
on-card l b e n r =
    subst (λ (f : Bytes). GivenBack (edition_for l) l.key f (plain_of (edition_for l) l)) (sym ((agreement l b e).file r))
    (gives_back (edition_for l) l (record { listed = written-among _; named = n; reached = r }))

-- ---- no file belongs to two bursts: it tells its edition, and both bursts are what is read
-- what check and fetch give back tells the burst
same-burst : (e : Edition) (key f : Bytes) (p p' : Plain) → GivenBack e key f p → GivenBack e key f p' → SameBurst p p'
same-burst e key f p p' g g' =
    let c = sym g.checked ∙ g'.checked in
    record {
      burst_number = ap (λ (x : Checked). x.burst_number) c;
      camera = ap (λ (x : Checked). x.camera) c;
      site_mark = ap (λ (x : Checked). x.site_mark) c;
      shots = sym g.shots ∙ g'.shots;
    }

pub one-burst : OneBurst
one-burst e e' l l' w w' k q =
    let s : e ≡ e' = sym (gives_back e l w).edition ∙ ap edition_in q ∙ (gives_back e' l' w').edition in
    let p = plain_of e l in
    let p' = plain_of e' l' in
    let g' : GivenBack e l.key (file_of e p) p' =
    subst (λ (x : Edition). GivenBack x l.key (file_of e p) p') (sym s)
    (subst (λ (x : Bytes). GivenBack e' x (file_of e p) p') (sym k)
    (subst (λ (x : Bytes). GivenBack e' l'.key x p') (sym q) (gives_back e' l' w'))) in
    (s, same-burst e l.key (file_of e p) p p' (gives_back e l w) g')

-- ---- what is refused is withheld
module _ (key f : Bytes) (place : ℕ) (out : Bytes) where
  fetch-refusal : (fetch_answer key f place out).refusal ≡ fetch_refusal key f place out
  fetch-refusal = fetched-refusal key f place out _ refl

  check-refusal : (check_answer key f).refusal ≡ check_refusal key f
  check-refusal = checked-refusal key f _ refl

  check-mark : (check_answer key f).mark ≡ check_mark key f
  check-mark = checked-mark key f _ refl

  refused-with : (num : ℕ) → fetch_refusal key f place out ≡ num → (num ≡ 0 → ⊥)
      → (not_fetched num (check_mark key f) ≡ fetch_answer key f place out) × (out ≡ fetch_output key f place out)
  refused-with zero e h = absurd (h refl)
  refused-with (suc num) e h = fetch-not key f place out num (check_mark key f) e refl

  record-check : (check_refusal key f ≡ 0 → ⊥) → record_refusal key f place ≡ check_refusal key f
  unfolding record_refusal
  record-check h = simp (ne_eqb (check_refusal key f) 0 h)

  check-zeros : (num mark : ℕ) → check_refusal key f ≡ num → check_mark key f ≡ mark → (num ≡ 0 → ⊥) → check_answer key f ≡ not_checked num mark
  check-zeros num mark e m h = sym (check-not key f num mark h (e, m))

  withheld : Withheld key f place out
  withheld = record {
    fetch = λ h.
        let r = refused-with (fetch_refusal key f place out) refl (λ e. h (fetch-refusal ∙ e)) in
        (sym r.1, sym r.0 ∙ ap₂ not_fetched (sym fetch-refusal) (sym check-mark));
    check = λ h.
        let n : check_refusal key f ≡ 0 → ⊥ = λ e. h (check-refusal ∙ e) in
        let e = record-check n in
        let r = fetch-refused key f place out (check_refusal key f) (check_mark key f) (sym e) refl n in (
          check-zeros (check_refusal key f) (check_mark key f) refl refl n ∙ ap₂ not_checked (sym check-refusal) (sym check-mark),
          sym r.0 ∙ ap₂ not_fetched (sym check-refusal) (sym check-mark),
          e ∙ sym check-refusal,
        );
    part = λ h. let r = record-refused key f place h in (sym r.0, sym r.1);
  }

pub withholds : Withholds
withholds = withheld
