-- What is known of every row of the table, and the search for a row by its number, over the list of rows.
-- Assumes nothing.
use mathlib.Core.Bool.{Bool, true, false, cond, not}
use mathlib.Core.List.{List, [], ◌∷◌}
use mathlib.Core.Logic.{◌⊎◌, inl, inr}
use mathlib.Core.Path.{◌≡◌, refl, sym, ap, subst, ◌∙◌}
use Prim.Native.Nat.{ℕ, ◌≤◌, ◌<◌, ◌^◌}
use native.Mathlib.Omega.{arith}
use borrow.Author.Tests.{eq-eqb}
use lib.Dec.{eqb}
use lib.ListN.{length, drop, get_or, drop_of_length-le}
use lib.Seq.{drop-cons}
use Rattle.burst.specs.declared.Edition.{Edition}
use Rattle.burst.specs.Fields.{camera_width}
use Rattle.burst.specs.Editions.{edition1, editions, ◌among◌, row_in, numbered, written, camera_held, Known}
use Rattle.burst.specs.Layout.{Identity, identity_held}

-- ---- each row by itself
abbrev AllKnown : List Edition → Type 0
AllKnown [] = Unit {0}
AllKnown (e ∷ es) = Known e × AllKnown es

-- here a new row is a line more
all_known : AllKnown editions
unfolding numbered
all_known = (
  record { number = omega arith; least = omega arith; header = omega arith; shots = omega arith; camera = inl refl; back = refl },
  (
    record { number = omega arith; least = omega arith; header = omega arith; shots = omega arith; camera = inr refl; back = refl },
    tt,
  ),
)

known_in : (es : List Edition) → AllKnown es → (e : Edition) → e among es → Known e
known_in [] w e m = absurd m
known_in (x ∷ es) w e (inl h) = subst Known (sym h) w.0
known_in (x ∷ es) w e (inr m) = known_in es w.1 e m

pub known : (e : Edition) → e among editions → Known e
known e m = known_in editions all_known e m

-- ---- the row of a number is a row
first-among : edition1 among editions
first-among = inl refl

found_in : (n : ℕ) (es : List Edition) → ((e : Edition) → e among es → e among editions) → row_in n es among editions
found_in n [] h = first-among
found_in n (x ∷ es) h = either (eqb n x.number) x (row_in n es) (h x (inl refl)) (found_in n es (λ e m. h e (inr m)))
  where
    either : (b : Bool) (x y : Edition) → x among editions → y among editions → cond b x y among editions
    either true x y hx hy = hx
    either false x y hx hy = hy

pub numbered-among : (n : ℕ) → numbered n among editions
unfolding numbered
numbered-among n = found_in n editions (λ e m. m)

pub numbered-known : (n : ℕ) → Known (numbered n)
numbered-known n = known (numbered n) (numbered-among n)

-- ---- the row that is written
-- its number, as the code has it
pub written-numbered : (k : ℕ) → numbered 2 ≡ written k
unfolding numbered written
written-numbered k = refl

pub written-among : (k : ℕ) → written k among editions
written-among k = subst (λ (e : Edition). e among editions) (written-numbered k) (numbered-among 2)

pub written_known : (k : ℕ) → Known (written k)
written_known k = known (written k) (written-among k)

-- ---- the search
pub search-starts : (n : ℕ) → numbered n ≡ row_in n (drop 0 editions)
unfolding numbered
search-starts n = refl

module _ (n i : ℕ) (d : Edition) (h : i < length editions) where
  pub row_here : (get_or editions i d).number ≡ n → row_in n (drop i editions) ≡ get_or editions i d
  row_here e = ap (row_in n) (drop-cons editions i d h) ∙ simp (eq-eqb n (get_or editions i d).number (sym e))

pub row-nowhere : (n i : ℕ) → length editions ≤ i → row_in n (drop i editions) ≡ edition1
row-nowhere n i h = ap (row_in n) (drop_of_length-le editions {i = i} h)

-- ---- the bytes of a camera number
module _ (e : Edition) (w : Known e) where
  pub camera-most : e.camera ≤ camera_width
  camera-most = by w.camera
    where
      by : (e.camera ≡ 0) ⊎ (e.camera ≡ camera_width) → e.camera ≤ camera_width
      by (inl h) = omega arith
      by (inr h) = omega arith

  -- a number of them is one of four bytes
  pub camera-below : (n : ℕ) → n < 256 ^ e.camera → n < 256 ^ camera_width
  camera-below n below = by w.camera
    where
      by : (e.camera ≡ 0) ⊎ (e.camera ≡ camera_width) → n < 256 ^ camera_width
      by (inl h) = let l : n < 256 ^ 0 = subst (λ (k : ℕ). n < 256 ^ k) h below in omega arith
      by (inr h) = subst (λ (k : ℕ). n < 256 ^ k) h below

  -- and what a burst holds is one of them
  pub camera-held : (n : ℕ) → n < 256 ^ camera_width → camera_held e n < 256 ^ e.camera
  camera-held n below = by w.camera
    where
      by : (e.camera ≡ 0) ⊎ (e.camera ≡ camera_width) → camera_held e n < 256 ^ e.camera
      by (inl h) = subst (λ (k : ℕ). cond (not (eqb k 0)) n 0 < 256 ^ k) (sym h) (omega arith)
      by (inr h) = subst (λ (k : ℕ). cond (not (eqb k 0)) n 0 < 256 ^ k) (sym h) below

-- a burst of the row that is written holds what its begin is given
pub held-written : (k : ℕ) (i : Identity) → identity_held (written k) i ≡ i
unfolding written
held-written k i = refl
