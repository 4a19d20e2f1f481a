-- The refusal numbers from plain facts, one law for each refusal in document 01's order, and what number 0 tells.
-- Assumes nothing.
use mathlib.Core.Bool.{Bool, true, false, not, ◌||◌}
use mathlib.Core.Path.{◌≡◌, sym}
use Prim.Native.Nat.{ℕ, ◌+◌, ◌≤◌, ◌<◌}
use borrow.Author.Tests.{le-leb, lt-leb, eq-eqb, ne_eqb, lt-ltb, le-ltb, leb-false, ltb-false, eqb-true, not-false}
use lib.Dec.{eqb, leb, ltb}
use Rattle.icepole.proofs.Numbers.{passed, neither}
use Rattle.burst.specs.declared.Edition.{Edition}
use Rattle.burst.specs.Editions.{no_camera}
use Rattle.burst.specs.Parts.{key_length, mark_length}
use Rattle.burst.specs.Layout.{max_picture}
use Rattle.burst.specs.Numbers.{used_after, total_from, begin_number, keep_number, drop_number, close_number}

-- ---- begin: k key, m site mark, n camera number, b buffer
module _ (e : Edition) (k m n b : ℕ) where
  pub begin-1 : (k ≡ key_length → ⊥) → 1 ≡ begin_number e k m n b
  unfolding begin_number
  begin-1 h = sym (simp (ne_eqb k key_length h))

  module _ (h₁ : k ≡ key_length) where
    pub begin-3 : (m ≡ mark_length → ⊥) → 3 ≡ begin_number e k m n b
    unfolding begin_number
    begin-3 h = sym (simp (eq-eqb k key_length h₁, ne_eqb m mark_length h))

    module _ (h₂ : m ≡ mark_length) where
      pub begin-15 : no_camera e n ≡ true → 15 ≡ begin_number e k m n b
      unfolding begin_number
      begin-15 h = sym (simp (eq-eqb k key_length h₁, eq-eqb m mark_length h₂, h))

      module _ (h₃ : no_camera e n ≡ false) where
        pub begin-11 : b < total_from e.header 0 → 11 ≡ begin_number e k m n b
        unfolding begin_number
        begin-11 h = sym (simp (eq-eqb k key_length h₁, eq-eqb m mark_length h₂, h₃, lt-ltb b (total_from e.header 0) h))

        pub begin-0 : total_from e.header 0 ≤ b → 0 ≡ begin_number e k m n b
        unfolding begin_number
        begin-0 h = sym (simp (eq-eqb k key_length h₁, eq-eqb m mark_length h₂, h₃, le-ltb b (total_from e.header 0) h))

pub record Begins (e : Edition) (k m n b : ℕ) : Type 0 where
  pub key : k ≡ key_length
  pub mark : m ≡ mark_length
  pub camera : no_camera e n ≡ false
  pub room : total_from e.header 0 ≤ b

pub begins : (e : Edition) (k m n b : ℕ) → begin_number e k m n b ≡ 0 → Begins e k m n b
unfolding begin_number
begins e k m n b h =
    let p₁ = passed (not (eqb k key_length)) _ _ h in
    let p₃ = passed (not (eqb m mark_length)) _ _ p₁.1 in
    let p₁₅ = passed (no_camera e n) _ _ p₃.1 in
    let p₁₁ = passed (ltb b (total_from e.header 0)) _ _ p₁₅.1 in
    record {
      key = eqb-true _ _ (not-false _ p₁.0);
      mark = eqb-true _ _ (not-false _ p₃.0);
      camera = p₁₅.0;
      room = ltb-false _ _ p₁₁.0;
    }

-- ---- keep: s whether sound, t taken, k kept, u used, m stamp, p picture, b buffer
module _ (e : Edition) (s : Bool) (t k u m p b : ℕ) where
  abbrev N : ℕ
  N = keep_number e s t k u m p b

  pub keep-8 : s ≡ false → 8 ≡ N
  unfolding keep_number
  keep-8 h = sym (simp h)

  module _ (h₁ : s ≡ true) where
    pub keep-3 : (m ≡ mark_length → ⊥) → 3 ≡ N
    unfolding keep_number
    keep-3 h = sym (simp (h₁, ne_eqb m mark_length h))

    module _ (h₂ : m ≡ mark_length) where
      pub keep-9 : e.shots ≤ t → 9 ≡ N
      unfolding keep_number
      keep-9 h = sym (simp (h₁, eq-eqb m mark_length h₂, le-leb e.shots t h))

      module _ (h₃ : t < e.shots) where
        pub keep-10 : p < 1 → 10 ≡ N
        unfolding keep_number
        keep-10 h = sym (simp (h₁, eq-eqb m mark_length h₂, lt-leb e.shots t h₃, lt-ltb p 1 h))

        module _ (h₄ : 1 ≤ p) where
          pub keep-10' : max_picture < p → 10 ≡ N
          unfolding keep_number
          keep-10' h = sym (simp (h₁, eq-eqb m mark_length h₂, lt-leb e.shots t h₃, le-ltb p 1 h₄, lt-ltb max_picture p h))

          module _ (h₅ : p ≤ max_picture) where
            pub keep-11 : b < total_from (used_after u p) (k + 1) → 11 ≡ N
            unfolding keep_number
            keep-11 h = sym (simp (h₁, eq-eqb m mark_length h₂, lt-leb e.shots t h₃, le-ltb p 1 h₄, le-ltb max_picture p h₅, lt-ltb b (total_from (used_after u p) (k + 1)) h))

            pub keep-0 : total_from (used_after u p) (k + 1) ≤ b → 0 ≡ N
            unfolding keep_number
            keep-0 h = sym (simp (h₁, eq-eqb m mark_length h₂, lt-leb e.shots t h₃, le-ltb p 1 h₄, le-ltb max_picture p h₅, le-ltb b (total_from (used_after u p) (k + 1)) h))

pub record Keeps (e : Edition) (s : Bool) (t k u m p b : ℕ) : Type 0 where
  pub sound : s ≡ true
  pub stamp : m ≡ mark_length
  pub more : t < e.shots
  pub least : 1 ≤ p
  pub most : p ≤ max_picture
  pub room : total_from (used_after u p) (k + 1) ≤ b

pub keeps : (e : Edition) (s : Bool) (t k u m p b : ℕ) → keep_number e s t k u m p b ≡ 0 → Keeps e s t k u m p b
unfolding keep_number
keeps e s t k u m p b h =
    let p₈ = passed (not s) _ _ h in
    let p₃ = passed (not (eqb m mark_length)) _ _ p₈.1 in
    let p₉ = passed (leb e.shots t) _ _ p₃.1 in
    let p₁₀ = passed (ltb p 1 || ltb max_picture p) _ _ p₉.1 in
    let p₁₁ = passed (ltb b (total_from (used_after u p) (k + 1))) _ _ p₁₀.1 in
    let d = neither (ltb p 1) (ltb max_picture p) p₁₀.0 in
    record {
      sound = not-false _ p₈.0;
      stamp = eqb-true _ _ (not-false _ p₃.0);
      more = leb-false _ _ p₉.0;
      least = ltb-false _ _ d.0;
      most = ltb-false _ _ d.1;
      room = ltb-false _ _ p₁₁.0;
    }

-- ---- drop
module _ (e : Edition) (s : Bool) (t : ℕ) where
  pub drop-8 : s ≡ false → 8 ≡ drop_number e s t
  unfolding drop_number
  drop-8 h = sym (simp h)

  module _ (h₁ : s ≡ true) where
    pub drop-9 : e.shots ≤ t → 9 ≡ drop_number e s t
    unfolding drop_number
    drop-9 h = sym (simp (h₁, le-leb e.shots t h))

    pub drop-0 : t < e.shots → 0 ≡ drop_number e s t
    unfolding drop_number
    drop-0 h = sym (simp (h₁, lt-leb e.shots t h))

pub drops : (e : Edition) (s : Bool) (t : ℕ) → drop_number e s t ≡ 0 → (s ≡ true) × (t < e.shots)
unfolding drop_number
drops e s t h =
    let p₈ = passed (not s) _ _ h in
    let p₉ = passed (leb e.shots t) _ _ p₈.1 in
    (not-false _ p₈.0, leb-false _ _ p₉.0)

-- ---- close
module _ (s : Bool) (k u b : ℕ) where
  pub close-8 : s ≡ false → 8 ≡ close_number s k u b
  unfolding close_number
  close-8 h = sym (simp h)

  module _ (h₁ : s ≡ true) where
    pub close-11 : b < total_from u k → 11 ≡ close_number s k u b
    unfolding close_number
    close-11 h = sym (simp (h₁, lt-ltb b (total_from u k) h))

    pub close-0 : total_from u k ≤ b → 0 ≡ close_number s k u b
    unfolding close_number
    close-0 h = sym (simp (h₁, le-ltb b (total_from u k) h))

pub closes : (s : Bool) (k u b : ℕ) → close_number s k u b ≡ 0 → (s ≡ true) × (total_from u k ≤ b)
unfolding close_number
closes s k u b h =
    let p₈ = passed (not s) _ _ h in
    let p₁₁ = passed (ltb b (total_from u k)) _ _ p₈.1 in
    (not-false _ p₈.0, ltb-false _ _ p₁₁.0)
