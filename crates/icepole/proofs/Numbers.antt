-- The refusal numbers, on plain numbers: each from the first condition that holds, and what number 0 tells.
-- Assumes nothing.
use mathlib.Core.Path.{◌≡◌, refl, sym}
use mathlib.Core.Bool.{Bool, true, false, cond, not, ◌||◌}
use Prim.Native.Nat.{ℕ, suc, ◌+◌, ◌-◌, ◌≤◌, ◌<◌}
use native.Mathlib.Omega.{arith}
use borrow.Author.Tests.{eq-eqb, ne_eqb, lt-ltb, le-ltb, ltb-false, eqb-true, not-false}
use lib.Dec.{eqb, ltb}
use Rattle.bytes_le.proofs.Loads.{fits}
use Rattle.icepole.specs.Answers.{open_number, seal_number}
use Rattle.blocks.specs.Lengths.{max_length}
use Rattle.blocks.specs.declared.Sizes.{Sizes}

-- ---- sealing
module _ (q : Sizes) (k n s a m o : ℕ) where
  abbrev Is : ℕ → Type 0
  Is num = num ≡ seal_number q k n s a m o

  pub seal-1 : (k ≡ q.key → ⊥) → Is 1
  unfolding seal_number
  seal-1 h = sym (simp (ne_eqb k q.key h))

  module _ (hk : k ≡ q.key) where
    pub seal-2 : (n ≡ q.nonce → ⊥) → Is 2
    unfolding seal_number
    seal-2 h = sym (simp (eq-eqb k q.key hk, ne_eqb n q.nonce h))

    module _ (hn : n ≡ q.nonce) where
      pub seal-3 : (s ≡ q.secret → ⊥) → Is 3
      unfolding seal_number
      seal-3 h = sym (simp (eq-eqb k q.key hk, eq-eqb n q.nonce hn, ne_eqb s q.secret h))

      module _ (hs : s ≡ q.secret) where
        pub seal-4 : max_length < a → Is 4
        unfolding seal_number
        seal-4 h = sym (simp (eq-eqb k q.key hk, eq-eqb n q.nonce hn, eq-eqb s q.secret hs, lt-ltb max_length a h))

        module _ (ha : a ≤ max_length) where
          pub seal-4' : max_length < m → Is 4
          unfolding seal_number
          seal-4' h =
              sym (simp (eq-eqb k q.key hk, eq-eqb n q.nonce hn, eq-eqb s q.secret hs, le-ltb max_length a ha, lt-ltb max_length m h))

          module _ (hm : m ≤ max_length) where
            pub seal-5 : o < q.secret + (m + 16) → Is 5
            unfolding seal_number
            seal-5 h =
                sym
                (simp
                (eq-eqb k q.key hk, eq-eqb n q.nonce hn, eq-eqb s q.secret hs, le-ltb max_length a ha, le-ltb max_length m hm, lt-ltb o (q.secret + (m + 16)) h))

            pub seal-0 : q.secret + (m + 16) ≤ o → Is 0
            unfolding seal_number
            seal-0 h =
                sym
                (simp
                (eq-eqb k q.key hk, eq-eqb n q.nonce hn, eq-eqb s q.secret hs, le-ltb max_length a ha, le-ltb max_length m hm, le-ltb o (q.secret + (m + 16)) h))

-- ---- opening, where the tag agrees
module _ (q : Sizes) (k n a c : ℕ) (fits : Bool) where
  abbrev IsO : ℕ → Type 0
  IsO num = num ≡ open_number q k n a c fits true

  pub open-1 : (k ≡ q.key → ⊥) → IsO 1
  unfolding open_number
  open-1 h = sym (simp (ne_eqb k q.key h))

  module _ (hk : k ≡ q.key) where
    pub open-2 : (n ≡ q.nonce → ⊥) → IsO 2
    unfolding open_number
    open-2 h = sym (simp (eq-eqb k q.key hk, ne_eqb n q.nonce h))

    module _ (hn : n ≡ q.nonce) where
      pub open-4 : max_length < a → IsO 4
      unfolding open_number
      open-4 h = sym (simp (eq-eqb k q.key hk, eq-eqb n q.nonce hn, lt-ltb max_length a h))

      module _ (ha : a ≤ max_length) where
        pub open-4' : max_length + (q.secret + 16) < c → IsO 4
        unfolding open_number
        open-4' h =
            sym (simp (eq-eqb k q.key hk, eq-eqb n q.nonce hn, le-ltb max_length a ha, lt-ltb max_length (c - (q.secret + 16)) (omega arith)))

        module _ (hm : c ≤ max_length + (q.secret + 16)) where
          below : c - (q.secret + 16) ≤ max_length
          below = omega arith

          pub open-6 : c < q.secret + 16 → IsO 6
          unfolding open_number
          open-6 h =
              sym
              (simp
              (eq-eqb k q.key hk, eq-eqb n q.nonce hn, le-ltb max_length a ha, le-ltb max_length (c - (q.secret + 16)) below, lt-ltb c (q.secret + 16) h))

          module _ (hc : q.secret + 16 ≤ c) where
            pub open-5 : fits ≡ false → IsO 5
            unfolding open_number
            open-5 e =
                sym
                (simp
                (eq-eqb k q.key hk, eq-eqb n q.nonce hn, le-ltb max_length a ha, le-ltb max_length (c - (q.secret + 16)) below, le-ltb c (q.secret + 16) hc, e))

            pub open-0 : fits ≡ true → IsO 0
            unfolding open_number
            open-0 e =
                sym
                (simp
                (eq-eqb k q.key hk, eq-eqb n q.nonce hn, le-ltb max_length a ha, le-ltb max_length (c - (q.secret + 16)) below, le-ltb c (q.secret + 16) hc, e))

-- ---- what number 0 tells
-- a condition was passed
pub passed : (b : Bool) (n x : ℕ) → cond b (suc n) x ≡ 0 → (b ≡ false) × (x ≡ 0)
passed true n x e = absurd (omega arith)
passed false n x e = (refl, e)

pub neither : (x y : Bool) → (x || y) ≡ false → (x ≡ false) × (y ≡ false)
neither true y e = let z : ◌≡◌ {A = ℕ} 0 1 = cc in absurd (omega arith)
neither false y e = (refl, e)

pub record SealFits (q : Sizes) (k n s a m o : ℕ) : Type 0 where
  pub key : k ≡ q.key
  pub nonce : n ≡ q.nonce
  pub secret : s ≡ q.secret
  pub associated : a ≤ max_length
  pub message : m ≤ max_length
  pub out : q.secret + (m + 16) ≤ o

pub seal-fits : (q : Sizes) (k n s a m o : ℕ) → seal_number q k n s a m o ≡ 0 → SealFits q k n s a m o
unfolding seal_number
seal-fits q k n s a m o e =
    let p₁ = passed (not (eqb k q.key)) _ _ e in
    let p₂ = passed (not (eqb n q.nonce)) _ _ p₁.1 in
    let p₃ = passed (not (eqb s q.secret)) _ _ p₂.1 in
    let p₄ = passed (ltb max_length a || ltb max_length m) _ _ p₃.1 in
    let p₅ = passed (ltb o (q.secret + (m + 16))) _ _ p₄.1 in
    let d₄ = neither (ltb max_length a) (ltb max_length m) p₄.0 in
    record {
      key = eqb-true _ _ (not-false _ p₁.0);
      nonce = eqb-true _ _ (not-false _ p₂.0);
      secret = eqb-true _ _ (not-false _ p₃.0);
      associated = ltb-false _ _ d₄.0;
      message = ltb-false _ _ d₄.1;
      out = ltb-false _ _ p₅.0;
    }

pub record OpenFits (q : Sizes) (k n a c : ℕ) (fits agrees : Bool) : Type 0 where
  pub key : k ≡ q.key
  pub nonce : n ≡ q.nonce
  pub associated : a ≤ max_length
  pub message : c - (q.secret + 16) ≤ max_length
  pub sealed : q.secret + 16 ≤ c
  pub room : fits ≡ true
  pub tag : agrees ≡ true

pub open-fits : (q : Sizes) (k n a c : ℕ) (fits agrees : Bool) → open_number q k n a c fits agrees ≡ 0 → OpenFits q k n a c fits agrees
unfolding open_number
open-fits q k n a c fits agrees e =
    let p₁ = passed (not (eqb k q.key)) _ _ e in
    let p₂ = passed (not (eqb n q.nonce)) _ _ p₁.1 in
    let p₄ = passed (ltb max_length a || ltb max_length (c - (q.secret + 16))) _ _ p₂.1 in
    let p₆ = passed (ltb c (q.secret + 16)) _ _ p₄.1 in
    let p₅ = passed (not fits) _ _ p₆.1 in
    let p₇ = passed (not agrees) _ _ p₅.1 in
    let d₄ = neither (ltb max_length a) (ltb max_length (c - (q.secret + 16))) p₄.0 in
    record {
      key = eqb-true _ _ (not-false _ p₁.0);
      nonce = eqb-true _ _ (not-false _ p₂.0);
      associated = ltb-false _ _ d₄.0;
      message = ltb-false _ _ d₄.1;
      sealed = ltb-false _ _ p₆.0;
      room = not-false _ p₅.0;
      tag = not-false _ p₇.0;
    }

-- ---- a number that is not 0 stands whatever the tag, and number 0 leaves the tag to decide
pub stands : (b : Bool) (n x y num : ℕ) → (x ≡ suc num → y ≡ suc num) → cond b n x ≡ suc num → cond b n y ≡ suc num
stands true n x y num f e = e
stands false n x y num f e = f e

pub decides : (b : Bool) (n x y w : ℕ) → (x ≡ 0 → y ≡ w) → cond b (suc n) x ≡ 0 → cond b (suc n) y ≡ w
decides true n x y w f e = absurd (omega arith)
decides false n x y w f e = f e

module _ (q : Sizes) (k n a c : ℕ) (fits agrees : Bool) where
  pub open-stands : (num : ℕ) → open_number q k n a c fits true ≡ suc num → open_number q k n a c fits agrees ≡ suc num
  unfolding open_number
  open-stands num =
      stands (not (eqb k q.key)) 1 _ _ num
      (stands (not (eqb n q.nonce)) 2 _ _ num
      (stands (ltb max_length a || ltb max_length (c - (q.secret + 16))) 4 _ _ num
      (stands (ltb c (q.secret + 16)) 6 _ _ num (stands (not fits) 5 _ _ num (λ (e : 0 ≡ suc num). absurd (omega arith))))))

  pub open-decides : open_number q k n a c fits true ≡ 0 → open_number q k n a c fits agrees ≡ cond (not agrees) 7 0
  unfolding open_number
  open-decides =
      decides (not (eqb k q.key)) 0 _ _ _
      (decides (not (eqb n q.nonce)) 1 _ _ _
      (decides (ltb max_length a || ltb max_length (c - (q.secret + 16))) 3 _ _ _
      (decides (ltb c (q.secret + 16)) 5 _ _ _ (decides (not fits) 4 _ _ _ (λ (e : 0 ≡ 0). refl)))))
