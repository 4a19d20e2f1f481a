-- Fields put one after another, and what they come to.
-- Assumes nothing.
use mathlib.Core.List.{List, [], ◌∷◌, ◌++◌, append_assoc, append-nil}
use mathlib.Core.Path.{◌≡◌, refl, sym, ap, ap₂, ◌∙◌}
use Prim.Native.Nat.{ℕ, zero, suc, ◌+◌, ◌-◌, ◌*◌, ◌≤◌, ◌<◌}
use native.Mathlib.Omega.{arith}
use native.Mathlib.Numerals.{add-one}
use lib.ListN.{length, take, drop, get_or, replicate, length-replicate, length-append, replicate-append-replicate}
use lib.Seq.{take-suc, take_at}
use Rattle.bytes_le.specs.Bytes.{Bytes, put_bytes, le}
use Rattle.bytes_le.proofs.Laws.{length-le, put-put, put_front, take_put}
use Rattle.burst.specs.declared.Entry.{Entry}
use Rattle.burst.specs.declared.Edition.{Edition}
use Rattle.burst.specs.declared.Name.{Name}
use Rattle.burst.specs.Fields.{fields_length}
use Rattle.burst.specs.Editions.{max_header, Known}
use Rattle.burst.specs.Parts.{nonce_of}
use Rattle.burst.specs.Layout.{entry_bytes, header_rest, header_bytes}
use Rattle.burst.specs.Index.{bytes_of_entry, index_bytes}

-- one more run
pub grow : (l h h' acc b : Bytes) (at n : ℕ) → h ≡ put_bytes l at acc → h' ≡ put_bytes h n b → n ≡ at + length acc → n + length b ≤ length l
    → h' ≡ put_bytes l at (acc ++ b)
grow l h h' acc b at n e f g k = f ∙ ap (λ (r : Bytes). put_bytes r n b) e ∙ put-put l at acc b n g k

pub length-entry : (s z o n : ℕ) → length (entry_bytes s z o n) ≡ 12
unfolding entry_bytes
length-entry s z o n = refl

pub length-entry-of : (e : Entry) → length (bytes_of_entry e) ≡ 12
unfolding bytes_of_entry
length-entry-of e = length-entry e.shot.0 e.zeros e.offset e.length

pub length_rest : (e : Edition) → Known e → (name : Name) → length (header_rest e name) ≡ e.header - fields_length
unfolding header_rest
length_rest e w name =
    let z = length-replicate {A = ℕ} (e.header - (fields_length + e.camera)) 0 in
    length-append (le e.camera name.camera) _ ∙ ap₂ ◌+◌ (length-le e.camera name.camera) z ∙ (omega (arith, w.least))

pub length-header : (e : Edition) → Known e → (name : Name) (t k d u : ℕ) → length (header_bytes e name t k d u) ≡ e.header
unfolding header_bytes
length-header e w name t k d u = let h = length_rest e w name in let g = w.least in omega arith

pub length-nonce : (e : Edition) (name : Name) (s : ℕ) → length (nonce_of e name s) ≡ 16
unfolding nonce_of
length-nonce e name s = refl

pub take-zeros : (n m : ℕ) → n ≤ m → take {A = ℕ} n (replicate m 0) ≡ replicate n 0
take-zeros zero m h = refl
take-zeros (suc n) zero h = absurd (omega arith)
take-zeros (suc n) (suc m) h = ap (λ (r : Bytes). 0 ∷ r) (take-zeros n m (omega arith))

drop-zeros : (n m : ℕ) → n ≤ m → drop {A = ℕ} n (replicate m 0) ≡ replicate (m - n) 0
drop-zeros zero m h = let q : m ≡ m - 0 = omega arith in ap (λ (k : ℕ). replicate k 0) q
drop-zeros (suc n) zero h = absurd (omega arith)
drop-zeros (suc n) (suc m) h = let q : m - n ≡ suc m - suc n = omega arith in drop-zeros n m (omega arith) ∙ ap (λ (k : ℕ). replicate k 0) q

-- a row's header of zeros, at the front of the longest
pub header-zeros : (e : Edition) → Known e → take {A = ℕ} e.header (replicate max_header 0) ≡ replicate e.header 0
header-zeros e w = take-zeros e.header max_header w.header

pub length-zeros : (e : Edition) → Known e → length (take {A = ℕ} e.header (replicate max_header 0)) ≡ e.header
length-zeros e w = ap length (header-zeros e w) ∙ length-replicate e.header 0

-- the entry's four fields
pub entry-put : (l h₁ h₂ h₃ h₄ : Bytes) (at a b c s z p n : ℕ) → at + 12 ≤ length l
    → h₁ ≡ put_bytes l at (le 2 s) → a ≡ at + 2 → h₂ ≡ put_bytes h₁ a (le 2 z) → b ≡ a + 2 → h₃ ≡ put_bytes h₂ b (le 4 p) → c ≡ b + 4 → h₄ ≡ put_bytes h₃ c (le 4 n)
    → h₄ ≡ put_bytes l at (entry_bytes s z p n)
unfolding entry_bytes
entry-put l h₁ h₂ h₃ h₄ at a b c s z p n h e₁ g₁ e₂ g₂ e₃ g₃ e₄ =
    grow l h₃ h₄ ((le 2 s ++ le 2 z) ++ le 4 p) (le 4 n) at c
    (grow l h₂ h₃ (le 2 s ++ le 2 z) (le 4 p) at b
    (grow l h₁ h₂ (le 2 s) (le 2 z) at a e₁ e₂ g₁ (omega arith)) e₃ (omega arith) (omega arith)) e₄ (omega arith) (omega arith)

-- the nonce's fields, over zeros
pub nonce-put : (e : Edition) (name : Name) (h₁ h₂ h₃ : Bytes) (s i j : ℕ) → i ≡ 8 → j ≡ i + 2 → h₁ ≡ put_bytes (replicate 16 0) 0 (le 8 name.burst_number)
    → h₂ ≡ put_bytes h₁ i (le 2 s) → h₃ ≡ put_bytes h₂ j (le 4 name.camera)
    → h₃ ≡ nonce_of e name s
unfolding nonce_of put_bytes
nonce-put e name h₁ h₂ h₃ s i j g₁ g₂ e₁ e₂ e₃ =
    grow (replicate 16 0) h₂ h₃ (le 8 name.burst_number ++ le 2 s) (le 4 name.camera) 0 j
    (grow (replicate 16 0) h₁ h₂ (le 8 name.burst_number) (le 2 s) 0 i e₁ e₂ (omega arith) (omega arith)) e₃ (omega arith) (omega arith)

-- two runs over zeros: n of the zeros behind them are one more run
over_zeros : (b c : Bytes) (n m : ℕ) → length (b ++ c) + (n + m) ≡ max_header
    → put_bytes (replicate max_header 0) 0 (b ++ c) ≡ (b ++ (c ++ replicate n 0)) ++ replicate m 0
over_zeros b c n m h =
    let q : max_header - length (b ++ c) ≡ n + m = omega arith in
    put_front (replicate max_header 0) (b ++ c)
    ∙ ap (λ (r : Bytes). (b ++ c) ++ r)
    (drop-zeros (length (b ++ c)) max_header (omega arith) ∙ ap (λ (k : ℕ). replicate k 0) q ∙ sym (replicate-append-replicate n m 0))
    ∙ sym (append_assoc (b ++ c) (replicate n 0) (replicate m 0))
    ∙ ap (λ (r : Bytes). r ++ replicate m 0) (append_assoc b c (replicate n 0))

-- the header's fields, the nine and the camera number, over the bytes of the longest header
module _ (e : Edition) (name : Name) (t k d u : ℕ) where
  abbrev fields : Bytes
  fields = le 2 e.number ++ (le 2 t ++ (le 2 k ++ (le 2 d ++ (le 8 name.burst_number ++ (le 4 e.header ++ (le 4 u ++ (le 4 (u + 12 * k) ++ le 4 (u + 12 * k + 32))))))))

  abbrev camera : Bytes
  camera = le e.camera name.camera

  fields-put : (l h₁ h₂ h₃ h₄ h₅ h₆ h₇ h₈ h₉ : Bytes) → length l ≡ max_header
      → h₁ ≡ put_bytes l 0 (le 2 e.number) → h₂ ≡ put_bytes h₁ 2 (le 2 t) → h₃ ≡ put_bytes h₂ 4 (le 2 k) → h₄ ≡ put_bytes h₃ 6 (le 2 d)
      → h₅ ≡ put_bytes h₄ 8 (le 8 name.burst_number)
      → h₆ ≡ put_bytes h₅ 16 (le 4 e.header) → h₇ ≡ put_bytes h₆ 20 (le 4 u) → h₈ ≡ put_bytes h₇ 24 (le 4 (u + 12 * k)) → h₉ ≡ put_bytes h₈ 28 (le 4 (u + 12 * k + 32))
      → h₉ ≡ put_bytes l 0 fields
  fields-put l h₁ h₂ h₃ h₄ h₅ h₆ h₇ h₈ h₉ z e₁ e₂ e₃ e₄ e₅ e₆ e₇ e₈ e₉ =
      grow l h₈ h₉ _ (le 4 (u + 12 * k + 32)) 0 28
      (grow l h₇ h₈ _ (le 4 (u + 12 * k)) 0 24
      (grow l h₆ h₇ _ (le 4 u) 0 20
      (grow l h₅ h₆ _ (le 4 e.header) 0 16
      (grow l h₄ h₅ _ (le 8 name.burst_number) 0 8
      (grow l h₃ h₄ _ (le 2 d) 0 6
      (grow l h₂ h₃ _ (le 2 k) 0 4
      (grow l h₁ h₂ (le 2 e.number) (le 2 t) 0 2 e₁ e₂ refl (omega arith))
      e₃ refl (omega arith)) e₄ refl (omega arith)) e₅ refl (omega arith)) e₆ refl (omega arith)) e₇ refl (omega arith)) e₈ refl (omega arith)) e₉ refl (omega arith)

  -- over zeros: the header, and the zeros behind it
  fields-front : Known e → put_bytes (replicate max_header 0) 0 (fields ++ camera) ≡ header_bytes e name t k d u ++ replicate (max_header - e.header) 0
  unfolding header_bytes header_rest
  fields-front w =
      let l = length-le e.camera name.camera in
      over_zeros fields camera (e.header - (32 + e.camera)) (max_header - e.header) (omega (arith, w.least, w.header, l))

  pub header-put : Known e → (h₁ h₂ h₃ h₄ h₅ h₆ h₇ h₈ h₉ h₁₀ : Bytes)
      → h₁ ≡ put_bytes (replicate max_header 0) 0 (le 2 e.number) → h₂ ≡ put_bytes h₁ 2 (le 2 t) → h₃ ≡ put_bytes h₂ 4 (le 2 k) → h₄ ≡ put_bytes h₃ 6 (le 2 d)
      → h₅ ≡ put_bytes h₄ 8 (le 8 name.burst_number)
      → h₆ ≡ put_bytes h₅ 16 (le 4 e.header) → h₇ ≡ put_bytes h₆ 20 (le 4 u) → h₈ ≡ put_bytes h₇ 24 (le 4 (u + 12 * k)) → h₉ ≡ put_bytes h₈ 28 (le 4 (u + 12 * k + 32))
      → h₁₀ ≡ put_bytes h₉ 32 camera
      → h₁₀ ≡ header_bytes e name t k d u ++ replicate (max_header - e.header) 0
  header-put w h₁ h₂ h₃ h₄ h₅ h₆ h₇ h₈ h₉ h₁₀ e₁ e₂ e₃ e₄ e₅ e₆ e₇ e₈ e₉ e₁₀ =
      let l = length-le e.camera name.camera in
      grow (replicate max_header 0) h₉ h₁₀ fields camera 0 32
      (fields-put (replicate max_header 0) h₁ h₂ h₃ h₄ h₅ h₆ h₇ h₈ h₉ refl e₁ e₂ e₃ e₄ e₅ e₆ e₇ e₈ e₉) e₁₀ refl (omega (arith, w.least, w.header, l))
      ∙ fields-front w

  -- it stands at the front
  pub header-front : Known e → (h : Bytes) → h ≡ header_bytes e name t k d u ++ replicate (max_header - e.header) 0
      → (length h ≡ max_header) × (take e.header h ≡ header_bytes e name t k d u)
  header-front w h is =
      let l = length-header e w name t k d u in
      let z = length-replicate {A = ℕ} (max_header - e.header) 0 in (
        ap length is ∙ length-append (header_bytes e name t k d u) (replicate (max_header - e.header) 0) ∙ (omega (arith, w, l, z)),
        ap (take e.header) is ∙ take_at (header_bytes e name t k d u) (replicate (max_header - e.header) 0) e.header l,
      )

-- one more entry of an index
pub index-snoc : (es : List Entry) (e : Entry) → index_bytes (es ++ (e ∷ [])) ≡ index_bytes es ++ bytes_of_entry e
unfolding index_bytes
index-snoc [] e = append-nil (bytes_of_entry e)
index-snoc (d ∷ es) e =
    ap (λ (r : Bytes). bytes_of_entry d ++ r) (index-snoc es e)
    ∙ sym (append_assoc (bytes_of_entry d) (index_bytes es) (bytes_of_entry e))

pub index-turn : (es : List Entry) (d : Entry) (x x' : Bytes) (i at : ℕ) → i < length es → at ≡ 12 * i → at ≤ length x
    → x' ≡ put_bytes x at (bytes_of_entry (get_or es i d))
    → take at x ≡ index_bytes (take i es) → take (at + 12) x' ≡ index_bytes (take (i + 1) es)
index-turn es d x x' i at h e g f inv =
    ap (take (at + 12)) f
    ∙ take_put x at (bytes_of_entry (get_or es i d)) (at + 12) (ap (λ (k : ℕ). at + k) (sym (length-entry-of (get_or es i d)))) g
    ∙ ap (λ (r : Bytes). r ++ bytes_of_entry (get_or es i d)) inv
    ∙ sym (index-snoc (take i es) (get_or es i d))
    ∙ ap index_bytes (sym (take-suc es i d h) ∙ ap (λ (k : ℕ). take k es) (sym (add-one i)))
