-- The call of the card line: refusals in order, and no marks.
-- Assumes nothing.
use mathlib.Core.List.{List, [], ◌∷◌}
use Prim.Native.Nat.{ℕ}
use mathlib.Core.Path.{◌≡◌, refl}
use borrow.Author.Tests.{ne_eqb}
use Rattle.burst.specs.Editions.{written}
use Rattle.sizing.specs.Sizing.{sized_edition, size_number, size_answer}
use Rattle.sizing.specs.Cards.{card_number, card_answer}
use Rattle.claims.specs.CardCalls.{CardLineCall, CardCalls}
use Rattle.claims.proofs.Orders.{equals, less, either, row, by_tests}

-- ---- the card line
card-lines : (card shots picture : ℕ) → CardLineCall card shots picture
unfolding card_answer card_number written
card-lines card shots picture =
    record {
      order = by_tests (row 16 (either (equals shots 0) (less 60 shots)) ∷ row 10 (either (less picture 1) (less 1048576 picture)) ∷ []);
      unmarked = refl;
      refused = λ h. simp (ne_eqb (card_number sized_edition shots picture) 0 h);
    }

sizes-unmarked : (lengths : List ℕ) → (size_answer lengths).mark ≡ 0
unfolding size_answer size_number written
sizes-unmarked lengths = refl

pub card_calls : CardCalls
card_calls = record { card_lines = card-lines; sizes_unmarked = sizes-unmarked }
