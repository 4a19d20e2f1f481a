-- The refusal numbers of sizing up, one law for each, and what number 0 tells.
-- Assumes nothing.
use mathlib.Core.Bool.{Bool, true, false, ◌||◌}
use mathlib.Core.List.{List, [], ◌∷◌}
use mathlib.Core.Path.{◌≡◌, refl, sym, ap, ◌∙◌}
use Prim.Native.Nat.{ℕ, zero, suc, ◌+◌, ◌≤◌, ◌<◌}
use native.Mathlib.Omega.{arith}
use native.Mathlib.Numerals.{add-one}
use borrow.Author.Tests.{lt-ltb, le-ltb, ltb-true, ltb-false}
use lib.Dec.{ltb}
use lib.ListN.{length, drop, get_or}
use lib.Seq.{drop-cons}
use Rattle.std.specs.List.{list_any}
use Rattle.icepole.proofs.Numbers.{passed, neither}
use Rattle.burst.specs.declared.Edition.{Edition}
use Rattle.burst.specs.Layout.{max_picture}
use Rattle.burst.proofs.Rules.{clash}
use Rattle.sizing.specs.Sizing.{too_long, size_number}

-- ---- the search for a length that is too long, and a turn of it
pub long-any : (ns : List ℕ) → list_any (λ n. ltb max_picture n) ns ≡ too_long ns
long-any [] = refl
long-any (n ∷ ns) = ap (λ b. ltb max_picture n || b) (long-any ns)

module _ (ns : List ℕ) (i : ℕ) (h : i < length ns) where
  abbrev n : ℕ
  n = get_or ns i 0

  next : too_long (drop i ns) ≡ (ltb max_picture n || too_long (drop (i + 1) ns))
  next = ap too_long (drop-cons ns i 0 h) ∙ ap (λ (k : ℕ). ltb max_picture n || too_long (drop k ns)) (sym (add-one i))

  pub short-here : too_long (drop i ns) ≡ false → (n ≤ max_picture) × (too_long (drop (i + 1) ns) ≡ false)
  short-here g = let d = neither (ltb max_picture n) (too_long (drop (i + 1) ns)) (sym next ∙ g) in (ltb-false _ _ d.0, d.1)

-- ---- the numbers
module _ (e : Edition) (ns : List ℕ) where
  pub size-9 : e.shots < length ns → 9 ≡ size_number e ns
  unfolding size_number
  size-9 h = sym (simp (lt-ltb e.shots (length ns) h))

  module _ (h₁ : length ns ≤ e.shots) where
    pub size-10 : too_long ns ≡ true → 10 ≡ size_number e ns
    unfolding size_number
    size-10 h = sym (simp (le-ltb e.shots (length ns) h₁, h))

    pub size-0 : too_long ns ≡ false → 0 ≡ size_number e ns
    unfolding size_number
    size-0 h = sym (simp (le-ltb e.shots (length ns) h₁, h))

  pub sized : size_number e ns ≡ 0 → (length ns ≤ e.shots) × (too_long ns ≡ false)
  unfolding size_number
  sized h =
      let p₉ = passed (ltb e.shots (length ns)) _ _ h in
      let p₁₀ = passed (too_long ns) _ _ p₉.1 in
      (ltb-false _ _ p₉.0, p₁₀.0)

-- ---- a list has a length that is too long exactly if one of its lengths is
abbrev Found : List ℕ → Type 0
Found ns = (i : ℕ) × (i < length ns) × (max_picture < get_or ns i 0)

pub long-found : (ns : List ℕ) → too_long ns ≡ true → Found ns
long-found [] h = absurd (clash true refl (sym h))
long-found (n ∷ ns) h = by (ltb max_picture n) refl h (long-found ns)
  where
    by : (b : Bool) → ltb max_picture n ≡ b → (b || too_long ns) ≡ true → (too_long ns ≡ true → Found ns) → Found (n ∷ ns)
    by true e h f = (0, omega arith, ltb-true _ _ e)
    by false e h f = let g = f h in (suc g.0, let l = g.1 in omega arith, g.2)

pub long-none : (ns : List ℕ) → too_long ns ≡ false → (i : ℕ) → i < length ns → get_or ns i 0 ≤ max_picture
long-none [] h i l = absurd (omega arith)
long-none (n ∷ ns) h zero l = ltb-false _ _ (neither (ltb max_picture n) (too_long ns) h).0
long-none (n ∷ ns) h (suc i) l = long-none ns (neither (ltb max_picture n) (too_long ns) h).1 i (omega arith)
