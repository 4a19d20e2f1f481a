-- The lines of a listing: fields behind a text.
-- Assumes nothing.
use mathlib.Core.Path.{◌≡◌, ap, ◌∙◌}
use mathlib.Core.List.{◌++◌, append_assoc}
use Prim.Native.Nat.{ℕ}
use Rattle.bytes_le.specs.Bytes.{Bytes}
use Rattle.plain_text.specs.Text.{ascii, field}
use Rattle.listing.specs.Listing.{head_lines, shot_line}

module _ (s : Bytes) where
  pub head-made : (s₁ s₂ s₃ s₄ s₅ : Bytes) (b t k d : ℕ)
      → s₁ ≡ s ++ field (ascii "burst ") b → s₂ ≡ s₁ ++ field (ascii "\ntaken ") t → s₃ ≡ s₂ ++ field (ascii " kept ") k
      → s₄ ≡ s₃ ++ field (ascii " dropped ") d → s₅ ≡ s₄ ++ ascii "\n" → s₅ ≡ s ++ head_lines b t k d
  unfolding head_lines
  head-made s₁ s₂ s₃ s₄ s₅ b t k d e₁ e₂ e₃ e₄ e₅ =
      let A : Bytes = field (ascii "burst ") b in
      let B : Bytes = field (ascii "\ntaken ") t in
      let C : Bytes = field (ascii " kept ") k in
      let D : Bytes = field (ascii " dropped ") d in
      let N : Bytes = ascii "\n" in
      e₅ ∙ ap (λ (x : Bytes). x ++ N) (e₄ ∙ ap (λ (x : Bytes). x ++ D) (e₃ ∙ ap (λ (x : Bytes). x ++ C) (e₂ ∙ ap (λ (x : Bytes). x ++ B) e₁)))
      ∙ append_assoc (((s ++ A) ++ B) ++ C) D N
      ∙ append_assoc ((s ++ A) ++ B) C (D ++ N)
      ∙ append_assoc (s ++ A) B (C ++ (D ++ N))
      ∙ append_assoc s A (B ++ (C ++ (D ++ N)))

  pub shot-made : (s₁ s₂ s₃ s₄ : Bytes) (i o n : ℕ)
      → s₁ ≡ s ++ field (ascii "shot ") i → s₂ ≡ s₁ ++ field (ascii " at ") o → s₃ ≡ s₂ ++ field (ascii " length ") n → s₄ ≡ s₃ ++ ascii "\n"
      → s₄ ≡ s ++ shot_line i o n
  unfolding shot_line
  shot-made s₁ s₂ s₃ s₄ i o n e₁ e₂ e₃ e₄ =
      let A : Bytes = field (ascii "shot ") i in
      let B : Bytes = field (ascii " at ") o in
      let C : Bytes = field (ascii " length ") n in
      let N : Bytes = ascii "\n" in
      e₄ ∙ ap (λ (x : Bytes). x ++ N) (e₃ ∙ ap (λ (x : Bytes). x ++ C) (e₂ ∙ ap (λ (x : Bytes). x ++ B) e₁))
      ∙ append_assoc ((s ++ A) ++ B) C N
      ∙ append_assoc (s ++ A) B (C ++ N)
      ∙ append_assoc s A (B ++ (C ++ N))
