-- What change request N2 (02) says of the call of the card line: its refusals in their order, and that no answer has a mark. The numbers that the C call writes are
-- those of the answer. It stands beside `Demand1`, which has every landed call.
--   card_lines      16 for the shots, then 10 for the picture length; a refused call answers zeros
--   sizes_unmarked  sizing up (N4) answers no mark either
-- Assumes nothing.
use Rattle.std.specs.Prelude.{◌⊎◌, ◌≢◌, List, [], ◌∷◌, ◌≡◌, ℕ, ◌<◌}
use Rattle.sizing.specs.Cards.{CardLine}
use Rattle.sizing.specs.Cards.{card_answer}
use Rattle.sizing.specs.Sizing.{size_answer}
use Rattle.claims.specs.Demand1.{◌on◌, FirstOf}

-- ---- the card line: 16 for the shots, then 10 for the picture length (02, N2). The numbers that the C call writes are those of the answer
module _ (card shots picture : ℕ) where
  abbrev line : CardLine
  line = card_answer card shots picture

  pub record CardLineCall : Type 0 where
    pub order : FirstOf line.refusal ((16 on ((shots ≡ 0) ⊎ (60 < shots))) ∷ (10 on ((picture < 1) ⊎ (1048576 < picture))) ∷ [])
    pub unmarked : line.mark ≡ 0
    pub refused : line.refusal ≢ 0 → line ≡ record { refusal = line.refusal; mark = 0; bursts = 0; left = 0 }

pub record CardCalls : Type 0 where
  pub card_lines : (card shots picture : ℕ) → CardLineCall card shots picture
  pub sizes_unmarked : (lengths : List ℕ) → (size_answer lengths).mark ≡ 0
