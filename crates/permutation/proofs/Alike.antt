-- μ reads the low 64 bits of the twenty words, and nothing else of a state.
-- Assumes nothing.
use mathlib.Core.Path.{◌≡◌, sym, ap, ◌∙◌}
use mathlib.Core.Bool.{Bool, false}
use mathlib.Core.List.{List, []}
use Prim.Native.Nat.{ℕ, ◌<◌}
use lib.ListN.{get_or}
use Rattle.bits.proofs.Laws.{number_same}
use Rattle.permutation.specs.State.{State, tabulate, slice}
use Rattle.permutation.specs.Permutation.{mix, μ}
use Rattle.permutation.proofs.Tabulate.{get_or-tabulate, tabulate_same}

-- the twenty bits of a slice, and what the matrix makes of them
abbrev pub bits : (ℕ → ℕ → Bool) → List (List Bool)
bits f = tabulate 4 (λ x. tabulate 5 (f x))

abbrev bit_at : List (List Bool) → ℕ → ℕ → Bool
bit_at g x y = get_or (get_or g x []) y false

abbrev mixed : List (List Bool) → List (List Bool)
mixed g = bits (mix (bit_at g))

-- that is what the matrix makes of the slice
mixed-at : (f : ℕ → ℕ → Bool) (x y : ℕ) → x < 4 → y < 5 → bit_at (mixed (bits f)) x y ≡ mix f x y
mixed-at f x y hx hy =
    ap (λ (l : List Bool). get_or l y false) (get_or-tabulate 4 (λ x. tabulate 5 (mix f x)) x [] hx)
    ∙ get_or-tabulate 5 (mix f x) y false hy

pub mu_same : (s t : State) → ((z : ℕ) → z < 64 → bits (slice s z) ≡ bits (slice t z)) → μ s ≡ μ t
unfolding μ
mu_same s t e =
    tabulate_same 4 _ _ (λ x hx. tabulate_same 5 _ _ (λ y hy. number_same 64 _ _ (λ z hz.
    sym (mixed-at (slice s z) x y hx hy) ∙ ap (λ (g : List (List Bool)). bit_at (mixed g) x y) (e z hz) ∙ mixed-at (slice t z) x y hx hy)))
