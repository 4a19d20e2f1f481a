-- The file of a plain burst, read: header, index and records stand where the reader looks for them, and every seal opens to what was sealed.
-- Assumes nothing.
use mathlib.Core.Bool.{Bool, true, false, not, ◌&&◌}
use mathlib.Core.List.{List, [], ◌∷◌, ◌++◌, append_assoc}
use mathlib.Core.Logic.{◌⊎◌, inl, inr}
use mathlib.Core.Option.{some, some-injective}
use mathlib.Core.Path.{◌≡◌, refl, sym, ap, ap₂, subst, ◌∙◌}
use Prim.Native.Nat.{ℕ, zero, suc, ◌+◌, ◌-◌, ◌*◌, ◌^◌, ◌≤◌, ◌<◌}
use native.Mathlib.Omega.{arith}
use lib.ListN.{length, take, drop, replicate}
use lib.Seq.{take_at, drop_at, drop-drop}
use Rattle.bytes_le.specs.Bytes.{Bytes, le, unle, le_at}
use Rattle.bytes_le.proofs.Laws.{length-le, unle-2, unle-4, unle-8}
use Rattle.burst.specs.declared.Entry.{Entry}
use Rattle.burst.specs.declared.Edition.{Edition}
use Rattle.burst.specs.declared.Name.{Name}
use Rattle.burst.specs.Fields.{fields_length, burst_number_width}
use Rattle.burst.specs.Editions.{numbered, no_camera, max_entries, Known}
use Rattle.burst.specs.Parts.{part_agrees, part_mark, part_body, mark_length}
use Rattle.burst.specs.Layout.{header_rest, entry_bytes, header_bytes, record_bytes}
use Rattle.burst.specs.Index.{entry_of}
use Rattle.trace.specs.Plain.{Firing, kept, gap, pictures, used_by, records, index}
use Rattle.burst.proofs.Puts.{length-header}
use Rattle.burst.proofs.Parts.{part-agrees, part-mark, part_body_lem}
use Rattle.reader.specs.Front.{edition_in, camera_of, name_in, all_zero, zeros_of, rest_rules, edition_number_in, taken_in, kept_in, dropped_in}
use Rattle.reader.specs.Front.{picture_offset_in, index_offset_in, closing_offset_in, total_in, entry_at, entries_at}
use Rattle.reader.specs.Verdicts.{Agree}
use Rattle.reader.specs.Reader.{Part, record_part, record_parts, agrees, mark_in, body_in, sealed_in, verdict_on}
use Rattle.reader.proofs.Parts.{parts-end, parts_next}
use Rattle.reader.proofs.Fields.{entry-same}
use Rattle.trace.proofs.Shots.{Valid, entries, used-least, length-record}
use Rattle.claims.specs.Demand3.{Picture, picture_at}

-- ---- one entry, where it stands
pub record EntryIn (f rest : Bytes) (pos n at len : ℕ) : Type 0 where
  pub is : entry_at f pos ≡ entry_of n at len
  pub bytes : take 12 (drop pos f) ≡ entry_bytes n 0 at len
  pub next : drop (pos + 12) f ≡ rest

pub entry_in : (f rest : Bytes) (pos n at len : ℕ) → n < 2 ^ 16 → at < 2 ^ 32 → len < 2 ^ 32 → drop pos f ≡ entry_bytes n 0 at len ++ rest → EntryIn f rest pos n at len
unfolding le_at entry_bytes
entry_in f rest pos n at len hn ha hl e = record {
  is = entry-same
      (ap (λ (l : Bytes). unle (take 2 l)) e ∙ unle-2 n hn)
      (ap (λ (l : Bytes). unle (take 2 l)) (sym (drop-drop 2 pos f) ∙ ap (drop 2) e))
      (ap (λ (l : Bytes). unle (take 4 l)) (sym (drop-drop 4 pos f) ∙ ap (drop 4) e) ∙ unle-4 at ha)
      (ap (λ (l : Bytes). unle (take 4 l)) (sym (drop-drop 8 pos f) ∙ ap (drop 8) e) ∙ unle-4 len hl);
  bytes = ap (take 12) e;
  next = sym (drop-drop 12 pos f) ∙ ap (drop 12) e;
}

module _ (f key : Bytes) (taken end : ℕ) (ht : taken ≤ max_entries) (he : end < 2 ^ 32) where
  -- the first entry of an index that starts with a kept shot
  first_entry : (s p : Bytes) (xs : List Firing) (n at pos : ℕ) (rest : Bytes) → Valid (kept s p ∷ xs) → n + length (kept s p ∷ xs) ≤ taken + 1 → end ≡ used_by at (kept s p ∷ xs)
      → drop pos f ≡ index n at (kept s p ∷ xs) ++ rest → EntryIn f (index (n + 1) (at + length p + 32) xs ++ rest) pos n at (length p)
  first_entry s p xs n at pos rest v g e d =
      let a = used-least (at + length p + 32) xs in
      entry_in f _ pos n at (length p) (omega arith) (omega arith) (let c = v.0.2 in omega arith)
      (d ∙ append_assoc (entry_bytes n 0 at (length p)) (index (n + 1) (at + length p + 32) xs) rest)

  -- the entries that the reader finds are those of the shots
  pub entries-read : (xs : List Firing) (n at pos : ℕ) (rest : Bytes) → Valid xs → n + length xs ≤ taken + 1 → end ≡ used_by at xs
      → drop pos f ≡ index n at xs ++ rest → entries_at (pictures xs) pos f ≡ entries n at xs
  unfolding entries_at
  entries-read [] n at pos rest v g e d = refl
  entries-read (kept s p ∷ xs) n at pos rest v g e d =
      let w = first_entry s p xs n at pos rest v g e d in
      ap₂ (λ (x : Entry) (l : List Entry). x ∷ l) w.is (entries-read xs (n + 1) (at + length p + 32) (pos + 12) rest v.1 (omega arith) e w.next)
  entries-read (gap ∷ xs) n at pos rest v g e d = entries-read xs (n + 1) at pos rest v (omega arith) e d

  -- ---- a record, where it stands
  abbrev part : ℕ → ℕ → ℕ → Part
  part n at len = record { shot = n; associated = entry_bytes n 0 at len; offset = at; count = len }

  part-is : (rest : Bytes) (pos n at len : ℕ) → EntryIn f rest pos n at len → record_part f pos ≡ part n at len
  part-is rest pos n at len w =
      ap₂ (λ (x : Entry) (b : Bytes). let y : Part = record { shot = x.shot.0; associated = b; offset = x.offset; count = x.length } in y) w.is w.bytes

  pub record OpensTo (pos : ℕ) (s p c : Bytes) : Type 0 where
    pub agrees : agrees key f (record_part f pos) ≡ true
    pub mark : mark_in key f (record_part f pos) ≡ s
    pub body : body_in key f (record_part f pos) ≡ p
    pub sealed : sealed_in key f (record_part f pos) ≡ c

  opens-part : (n at : ℕ) (s p rest : Bytes) → length s ≡ mark_length → drop at f ≡ record_bytes (edition_in f) key (name_in f) n at s p ++ rest
      → (agrees key f (part n at (length p)) ≡ true) × (mark_in key f (part n at (length p)) ≡ s) × (body_in key f (part n at (length p)) ≡ p)
      × (sealed_in key f (part n at (length p)) ≡ record_bytes (edition_in f) key (name_in f) n at s p)
  unfolding agrees mark_in body_in record_bytes
  opens-part n at s p rest hs d =
      let e = edition_in f in
      let name = name_in f in
      let ad = entry_bytes n 0 at (length p) in
      let t : take (length p + 32) (drop at f) ≡ record_bytes e key name n at s p =
      ap (take (length p + 32)) d ∙ take_at _ rest (length p + 32) (length-record e key name n at s p hs) in (
        ap (part_agrees e key name n ad) t ∙ part-agrees e key name n s ad p hs,
        ap (part_mark e key name n ad) t ∙ part-mark e key name n s ad p hs,
        ap (part_body e key name n ad) t ∙ part_body_lem e key name n s ad p hs,
        t,
      )

  opens-to : (n at pos : ℕ) (s p rest rest₂ : Bytes) → EntryIn f rest pos n at (length p) → length s ≡ mark_length
      → drop at f ≡ record_bytes (edition_in f) key (name_in f) n at s p ++ rest₂
      → OpensTo pos s p (record_bytes (edition_in f) key (name_in f) n at s p)
  opens-to n at pos s p rest rest₂ w hs d =
      let o = opens-part n at s p rest₂ hs d in
      let e = part-is rest pos n at (length p) w in
      record {
        agrees = ap (agrees key f) e ∙ o.0;
        mark = ap (mark_in key f) e ∙ o.1;
        body = ap (body_in key f) e ∙ o.2;
        sealed = ap (sealed_in key f) e ∙ o.3;
      }

  -- the record of a first kept shot, and the records behind it
  first-record : (s p : Bytes) (xs : List Firing) (n at : ℕ) (rest : Bytes) → length s ≡ mark_length → drop at f ≡ records (edition_in f) key (name_in f) n at (kept s p ∷ xs) ++ rest
      → (drop at f ≡ record_bytes (edition_in f) key (name_in f) n at s p ++ (records (edition_in f) key (name_in f) (n + 1) (at + length p + 32) xs ++ rest))
      × (drop (at + length p + 32) f ≡ records (edition_in f) key (name_in f) (n + 1) (at + length p + 32) xs ++ rest)
  first-record s p xs n at rest hs d =
      let rb = record_bytes (edition_in f) key (name_in f) n at s p in
      let rs = records (edition_in f) key (name_in f) (n + 1) (at + length p + 32) xs ++ rest in
      let d₃ : drop at f ≡ rb ++ rs = d ∙ append_assoc rb _ rest in
      let l : length rb ≡ length p + 32 = length-record (edition_in f) key (name_in f) n at s p hs in
      let q : at + length rb ≡ at + length p + 32 = omega arith in
      (d₃, ap (λ (k : ℕ). drop k f) (sym q) ∙ sym (drop-drop (length rb) at f) ∙ ap (drop (length rb)) d₃ ∙ drop_at rb rs (length rb) refl)

  pub records-agree : (xs : List Firing) (n at pos : ℕ) (rest rest₂ : Bytes) → Valid xs → n + length xs ≤ taken + 1 → end ≡ used_by at xs
      → drop pos f ≡ index n at xs ++ rest → drop at f ≡ records (edition_in f) key (name_in f) n at xs ++ rest₂ → verdict_on key f (record_parts (pictures xs) pos f) ≡ Agree
  records-agree [] n at pos rest rest₂ v g e d d₂ = parts-end key f pos
  records-agree (kept s p ∷ xs) n at pos rest rest₂ v g e d d₂ =
      let w = first_entry s p xs n at pos rest v g e d in
      let r = first-record s p xs n at rest₂ v.0.0 d₂ in
      parts_next key f (pictures xs) pos (opens-to n at pos s p _ _ w v.0.0 r.0).agrees
      ∙ records-agree xs (n + 1) (at + length p + 32) (pos + 12) rest rest₂ v.1 (omega arith) e w.next r.1
  records-agree (gap ∷ xs) n at pos rest rest₂ v g e d d₂ = records-agree xs (n + 1) at pos rest rest₂ v (omega arith) e d d₂

  -- ---- the picture of a place
  pub record Placed (pos : ℕ) (w : Picture) : Type 0 where
    pub entry : entry_at f pos ≡ entry_of w.shot w.offset (length w.picture)
    pub opens : OpensTo pos w.stamp w.picture (record_bytes (edition_in f) key (name_in f) w.shot w.offset w.stamp w.picture)

  pub placed : (xs : List Firing) (n at pos place : ℕ) (rest rest₂ : Bytes) (w : Picture) → Valid xs → n + length xs ≤ taken + 1 → end ≡ used_by at xs
      → drop pos f ≡ index n at xs ++ rest → drop at f ≡ records (edition_in f) key (name_in f) n at xs ++ rest₂ → picture_at n at xs place ≡ some w → Placed (pos + 12 * place) w
  placed [] n at pos place rest rest₂ w v g e d d₂ h = let z : ◌≡◌ {A = ℕ} 0 1 = cc in absurd (omega arith)
  placed (kept s p ∷ xs) n at pos zero rest rest₂ w v g e d d₂ h =
      let y = first_entry s p xs n at pos rest v g e d in
      let r = first-record s p xs n at rest₂ v.0.0 d₂ in
      subst (λ (x : Picture). Placed (pos + 12 * 0) x) (some-injective _ _ h)
      (subst (λ (k : ℕ). Placed k (record { shot = n; stamp = s; picture = p; offset = at })) (let q : pos ≡ pos + 12 * 0 = omega arith in q)
      (record { entry = y.is; opens = opens-to n at pos s p _ _ y v.0.0 r.0 }))
  placed (kept s p ∷ xs) n at pos (suc place) rest rest₂ w v g e d d₂ h =
      let y = first_entry s p xs n at pos rest v g e d in
      let r = first-record s p xs n at rest₂ v.0.0 d₂ in
      subst (λ (k : ℕ). Placed k w) (let q₂ : pos + 12 + 12 * place ≡ pos + 12 * suc place = omega arith in q₂)
      (placed xs (n + 1) (at + length p + 32) (pos + 12) place rest rest₂ w v.1 (omega arith) e y.next r.1 h)
  placed (gap ∷ xs) n at pos place rest rest₂ w v g e d d₂ h = placed xs (n + 1) at pos place rest rest₂ w v (omega arith) e d d₂ h

-- ---- places and shots
pub every : (xs : List Firing) (n at place : ℕ) → place < pictures xs → (w : Picture) × (picture_at n at xs place ≡ some w)
every [] n at place h = absurd (omega arith)
every (kept s p ∷ xs) n at zero h = (record { shot = n; stamp = s; picture = p; offset = at }, refl)
every (kept s p ∷ xs) n at (suc place) h = every xs (n + 1) (at + length p + 32) place (omega arith)
every (gap ∷ xs) n at place h = every xs (n + 1) at place h

pub below : (xs : List Firing) (n at place : ℕ) (w : Picture) → picture_at n at xs place ≡ some w → place < pictures xs
below [] n at place w h = let z : ◌≡◌ {A = ℕ} 0 1 = cc in absurd (omega arith)
below (kept s p ∷ xs) n at zero w h = omega arith
below (kept s p ∷ xs) n at (suc place) w h = let g = below xs (n + 1) (at + length p + 32) place w h in omega arith
below (gap ∷ xs) n at place w h = below xs (n + 1) at place w h

-- ---- the header, where it stands
all-zero : (n : ℕ) → all_zero (replicate n 0) ≡ true
all-zero zero = refl
all-zero (suc n) = all-zero n

-- what is known of the name of a burst that has a file: its numbers fit the file's fields, and a camera number is not 0
pub record Named (e : Edition) (name : Name) : Type 0 where
  pub number : name.burst_number < 256 ^ burst_number_width
  pub camera : name.camera < 256 ^ e.camera
  pub given : no_camera e name.camera ≡ false

-- the camera number, at the front of the header's rest
rest-camera : (e : Edition) → Known e → (name : Name) → name.camera < 256 ^ e.camera → (rest : Bytes) → unle (take e.camera (header_rest e name ++ rest)) ≡ name.camera
unfolding header_rest
rest-camera e known name h rest =
    let z : Bytes = replicate (e.header - (fields_length + e.camera)) 0 in
    ap (λ (l : Bytes). unle (take e.camera l)) (append_assoc (le e.camera name.camera) z rest)
    ∙ ap unle (take_at (le e.camera name.camera) (z ++ rest) e.camera (length-le e.camera name.camera))
    ∙ by e.camera known.camera h
  where
    by : (c : ℕ) → (c ≡ 0) ⊎ (c ≡ 4) → name.camera < 256 ^ c → unle (le c name.camera) ≡ name.camera
    by c (inl q) l = subst (λ (k : ℕ). name.camera < 256 ^ k → unle (le k name.camera) ≡ name.camera) (sym q) (λ l. omega arith) l
    by c (inr q) l = subst (λ (k : ℕ). name.camera < 256 ^ k → unle (le k name.camera) ≡ name.camera) (sym q) (λ l. unle-4 name.camera l) l

-- and the zeros behind it
rest-zeros : (e : Edition) (name : Name) → all_zero (drop e.camera (header_rest e name)) ≡ true
unfolding header_rest
rest-zeros e name =
    let z : Bytes = replicate (e.header - (fields_length + e.camera)) 0 in
    ap all_zero (drop_at (le e.camera name.camera) z e.camera (length-le e.camera name.camera)) ∙ all-zero (e.header - (fields_length + e.camera))

module _ (e : Edition) (known : Known e) (name : Name) where
  pub record HeaderIn (f rest : Bytes) (t k d u : ℕ) : Type 0 where
    pub edition : edition_number_in f ≡ e.number
    pub taken : taken_in f ≡ t
    pub kept : kept_in f ≡ k
    pub dropped : dropped_in f ≡ d
    pub named : name_in f ≡ name
    pub pictures : picture_offset_in f ≡ e.header
    pub index : index_offset_in f ≡ u
    pub closing : closing_offset_in f ≡ u + 12 * k
    pub total : total_in f ≡ u + 12 * k + 32
    pub header : take e.header f ≡ header_bytes e name t k d u
    pub others : rest_rules e f ≡ true
    pub next : drop e.header f ≡ rest

  pub header-in : (f rest : Bytes) (t k d u : ℕ) → t < 2 ^ 16 → k < 2 ^ 16 → d < 2 ^ 16 → Named e name → u + 12 * k + 32 < 2 ^ 32
      → f ≡ header_bytes e name t k d u ++ rest → HeaderIn f rest t k d u
  unfolding le_at header_bytes rest_rules
  header-in f rest t k d u ht hk hd hn hu q =
      let g = known.header in
      let l = length-header e known name t k d u in
      let h : take e.header f ≡ header_bytes e name t k d u = ap (take e.header) q ∙ take_at (header_bytes e name t k d u) rest e.header l in
      let n : edition_number_in f ≡ e.number = ap (λ (l : Bytes). unle (take 2 l)) q ∙ unle-2 e.number known.number in
      let row : edition_in f ≡ e = ap numbered n ∙ known.back in
      let camera : camera_of e f ≡ name.camera = ap (λ (l : Bytes). unle (take e.camera (drop 32 l))) q ∙ rest-camera e known name hn.camera rest in
      let zeros : all_zero (zeros_of e f) ≡ true =
      ap (λ (l : Bytes). all_zero (drop (32 + e.camera) l)) h
      ∙ ap all_zero (sym (drop-drop e.camera 32 (header_bytes e name t k d u)))
      ∙ rest-zeros e name in
      record {
        edition = n;
        taken = ap (λ (l : Bytes). unle (take 2 (drop 2 l))) q ∙ unle-2 t ht;
        kept = ap (λ (l : Bytes). unle (take 2 (drop 4 l))) q ∙ unle-2 k hk;
        dropped = ap (λ (l : Bytes). unle (take 2 (drop 6 l))) q ∙ unle-2 d hd;
        named =
            ap₂ (λ (b m : ℕ). let n : Name = record { burst_number = b; camera = m } in n)
            (ap (λ (l : Bytes). unle (take 8 (drop 8 l))) q ∙ unle-8 name.burst_number hn.number)
            (ap (λ (e : Edition). camera_of e f) row ∙ camera);
        pictures = ap (λ (l : Bytes). unle (take 4 (drop 16 l))) q ∙ unle-4 e.header (omega arith);
        index = ap (λ (l : Bytes). unle (take 4 (drop 20 l))) q ∙ unle-4 u (omega arith);
        closing = ap (λ (l : Bytes). unle (take 4 (drop 24 l))) q ∙ unle-4 (u + 12 * k) (omega arith);
        total = ap (λ (l : Bytes). unle (take 4 (drop 28 l))) q ∙ unle-4 (u + 12 * k + 32) hu;
        header = h;
        others = ap₂ (λ (m : ℕ) (b : Bool). not (no_camera e m) && b) camera zeros ∙ simp hn.given;
        next = ap (drop e.header) q ∙ drop_at (header_bytes e name t k d u) rest e.header l;
      }
