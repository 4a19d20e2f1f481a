-- Lists of shots: their entries, records and index, and how these grow by a shot.
-- Assumes nothing.
use mathlib.Core.Bool.{true}
use mathlib.Core.List.{List, [], ◌∷◌, ◌++◌, append_assoc}
use mathlib.Core.Path.{◌≡◌, refl, sym, ap, ◌∙◌}
use Prim.Native.Nat.{ℕ, suc, ◌+◌, ◌*◌, ◌≤◌, ◌<◌}
use native.Mathlib.Omega.{arith}
use native.Mathlib.Nat.{add-zero}
use borrow.Author.Tests.{eq-eqb}
use lib.ListN.{length, length-append}
use Rattle.bytes_le.specs.Bytes.{Bytes}
use Rattle.burst.specs.declared.Entry.{Entry}
use Rattle.burst.specs.declared.Edition.{Edition}
use Rattle.burst.specs.declared.Name.{Name}
use Rattle.burst.specs.Parts.{mark_length}
use Rattle.burst.specs.Layout.{Identity, entry_bytes, record_bytes, closing_seal, max_picture}
use Rattle.burst.specs.Index.{entry_of, index_rules, bytes_of_entry, index_bytes}
use Rattle.trace.specs.Plain.{Firing, kept, gap, pictures, gaps, used_by, records, index}
use Rattle.burst.proofs.Rules.{Obeys, obeyed, index-end, index-next}
use Rattle.burst.proofs.Puts.{length-entry}
use Rattle.burst.proofs.Parts.{length_part}

-- the recorder's entries of xs
abbrev pub entries : ℕ → ℕ → List Firing → List Entry
entries n at [] = []
entries n at (kept s p ∷ xs) = entry_of n at (length p) ∷ entries (n + 1) (at + length p + 32) xs
entries n at (gap ∷ xs) = entries (n + 1) at xs

-- each picture's length is in range, and its stamp has the right length
abbrev pub Valid : List Firing → Type 0
Valid [] = Unit {0}
Valid (kept s p ∷ xs) = ((length s ≡ mark_length) × (1 ≤ length p) × (length p ≤ max_picture)) × Valid xs
Valid (gap ∷ xs) = Valid xs

pub valid-snoc : (xs : List Firing) (x : Firing) → Valid xs → Valid (x ∷ []) → Valid (xs ++ (x ∷ []))
valid-snoc [] x v w = w
valid-snoc (kept s p ∷ xs) x v w = (v.0, valid-snoc xs x v.1 w)
valid-snoc (gap ∷ xs) x v w = valid-snoc xs x v w

pub pictures-append : (xs ys : List Firing) → pictures (xs ++ ys) ≡ pictures xs + pictures ys
pictures-append [] ys = omega arith
pictures-append (kept s p ∷ xs) ys = let h = pictures-append xs ys in omega arith
pictures-append (gap ∷ xs) ys = pictures-append xs ys

pub pictures-gaps : (xs : List Firing) → length xs ≡ pictures xs + gaps xs
pictures-gaps [] = refl
pictures-gaps (kept s p ∷ xs) = let h = pictures-gaps xs in omega arith
pictures-gaps (gap ∷ xs) = let h = pictures-gaps xs in omega arith

pub used-append : (at : ℕ) (xs ys : List Firing) → used_by at (xs ++ ys) ≡ used_by (used_by at xs) ys
used-append at [] ys = refl
used-append at (kept s p ∷ xs) ys = used-append (at + length p + 32) xs ys
used-append at (gap ∷ xs) ys = used-append at xs ys

pub used-least : (at : ℕ) (xs : List Firing) → at ≤ used_by at xs
used-least at [] = omega arith
used-least at (kept s p ∷ xs) = let h = used-least (at + length p + 32) xs in omega arith
used-least at (gap ∷ xs) = used-least at xs

pub entries-append : (n at : ℕ) (xs ys : List Firing) → entries n at (xs ++ ys) ≡ entries n at xs ++ entries (n + length xs) (used_by at xs) ys
entries-append n at [] ys = ap (λ (k : ℕ). entries k at ys) (omega arith)
entries-append n at (kept s p ∷ xs) ys =
    let e : n + 1 + length xs ≡ n + suc (length xs) = omega arith in
    ap (λ (l : List Entry). entry_of n at (length p) ∷ l) (entries-append (n + 1) (at + length p + 32) xs ys
    ∙ ap (λ (k : ℕ). entries (n + 1) (at + length p + 32) xs ++ entries k (used_by (at + length p + 32) xs) ys) e)
entries-append n at (gap ∷ xs) ys =
    let e : n + 1 + length xs ≡ n + suc (length xs) = omega arith in
    entries-append (n + 1) at xs ys ∙ ap (λ (k : ℕ). entries (n + 1) at xs ++ entries k (used_by at xs) ys) e

pub records-append : (e : Edition) (key : Bytes) (name : Name) (n at : ℕ) (xs ys : List Firing)
    → records e key name n at (xs ++ ys) ≡ records e key name n at xs ++ records e key name (n + length xs) (used_by at xs) ys
records-append e key name n at [] ys = ap (λ (k : ℕ). records e key name k at ys) (omega arith)
records-append e key name n at (kept s p ∷ xs) ys =
    let k₁ : n + 1 + length xs ≡ n + suc (length xs) = omega arith in
    ap (λ (l : Bytes). record_bytes e key name n at s p ++ l) (records-append e key name (n + 1) (at + length p + 32) xs ys
    ∙ ap (λ (k : ℕ). records e key name (n + 1) (at + length p + 32) xs ++ records e key name k (used_by (at + length p + 32) xs) ys) k₁)
    ∙ sym (append_assoc (record_bytes e key name n at s p) _ _)
records-append e key name n at (gap ∷ xs) ys =
    let k₁ : n + 1 + length xs ≡ n + suc (length xs) = omega arith in
    records-append e key name (n + 1) at xs ys ∙ ap (λ (k : ℕ). records e key name (n + 1) at xs ++ records e key name k (used_by at xs) ys) k₁

pub index-entries : (n at : ℕ) (xs : List Firing) → index_bytes (entries n at xs) ≡ index n at xs
unfolding index_bytes bytes_of_entry
index-entries n at [] = refl
index-entries n at (kept s p ∷ xs) = ap (λ (l : Bytes). entry_bytes n 0 at (length p) ++ l) (index-entries (n + 1) (at + length p + 32) xs)
index-entries n at (gap ∷ xs) = index-entries (n + 1) at xs

pub length-index : (n at : ℕ) (xs : List Firing) → length (index n at xs) ≡ 12 * pictures xs
length-index n at [] = refl
length-index n at (kept s p ∷ xs) =
    let h = length-index (n + 1) (at + length p + 32) xs in
    let e = length-entry n 0 at (length p) in
    simp length-append (omega arith)
length-index n at (gap ∷ xs) = length-index (n + 1) at xs

-- the entries of valid shots obey the index rules
pub sound-entries : (xs : List Firing) (n at last taken used : ℕ) → Valid xs → last < n → n + length xs ≤ taken + 1 → used ≡ used_by at xs
    → index_rules last at taken used (entries n at xs) ≡ true
sound-entries [] n at last taken used v h g e = index-end last at taken used ∙ eq-eqb at used (sym e)
sound-entries (kept s p ∷ xs) n at last taken used v h g e =
    let o : Obeys last at taken (entry_of n at (length p)) =
    record { more = h; most = omega arith; zeros = refl; touches = refl; least = v.0.1; size = v.0.2 } in
    index-next last at taken used (entry_of n at (length p)) (entries (n + 1) (at + length p + 32) xs) (obeyed last at taken (entry_of n at (length p)) o)
    ∙ sound-entries xs (n + 1) (at + length p + 32) n taken used v.1 (omega arith) (omega arith) e
sound-entries (gap ∷ xs) n at last taken used v h g e = sound-entries xs (n + 1) at last taken used v (omega arith) (omega arith) e

-- ---- lengths
pub used-most : (at : ℕ) (xs : List Firing) → Valid xs → used_by at xs ≤ at + 1048608 * length xs
used-most at [] v = omega arith
used-most at (kept s p ∷ xs) v = let h = used-most (at + length p + 32) xs v.1 in let g = v.0.2 in omega arith
used-most at (gap ∷ xs) v = let h = used-most at xs v in omega arith

pub length-record : (e : Edition) (key : Bytes) (name : Name) (n at : ℕ) (s p : Bytes) → length s ≡ mark_length → length (record_bytes e key name n at s p) ≡ length p + 32
unfolding record_bytes
length-record e key name n at s p hs = length_part e key name n s _ p hs

pub length-records : (e : Edition) (key : Bytes) (name : Name) (n at : ℕ) (xs : List Firing) → Valid xs → at + length (records e key name n at xs) ≡ used_by at xs
length-records e key name n at [] v = add-zero at
length-records e key name n at (kept s p ∷ xs) v =
    let h = length-records e key name (n + 1) (at + length p + 32) xs v.1 in
    let g = length-record e key name n at s p v.0.0 in
    simp length-append (omega arith)
length-records e key name n at (gap ∷ xs) v = length-records e key name (n + 1) at xs v

pub length-closing : (e : Edition) (key : Bytes) (i : Identity) (header index : Bytes) → length i.site_mark ≡ mark_length → length (closing_seal e key i header index) ≡ 0 + 32
unfolding closing_seal
length-closing e key i header index h = length_part e key i.name 0 i.site_mark _ [] h
