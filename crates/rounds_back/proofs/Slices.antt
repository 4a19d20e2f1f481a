-- A step that works on each slice alone is undone where the bits of every slice are.
-- Assumes nothing.
use mathlib.Core.Bool.{Bool, false}
use mathlib.Core.List.{List, []}
use mathlib.Core.Path.{◌≡◌, refl, sym, ap, ◌∙◌}
use Prim.Native.Nat.{ℕ, ◌^◌, ◌<◌}
use lib.ListN.{get_or}
use Rattle.bits.specs.Bits.{word}
use Rattle.bits.proofs.Laws.{bit-number, made-of-bits, number-below, number_same}
use Rattle.permutation.specs.State.{State, IsState, tabulate, state, slice}
use Rattle.rounds_back.specs.Inverses.{Inverses}

-- the bits of one z, by x and y
abbrev pub Slice : Type 0
Slice = ℕ → ℕ → Bool

-- the twenty bits of a slice, and the slice that has them
abbrev pub bits : Slice → List (List Bool)
bits B = tabulate 4 (λ x. tabulate 5 (B x))

abbrev pub slice_of : List (List Bool) → Slice
slice_of l x y = get_or (get_or l x []) y false

-- the step that makes F of every slice
abbrev pub sliced : (Slice → Slice) → State → State
sliced F s = state (λ x y. word (λ z. F (slice s z) x y))

pub sliced-state : (F : Slice → Slice) (s : State) → IsState (sliced F s)
sliced-state F s = (λ x y. word (λ z. F (slice s z) x y), λ x y. number-below 64 (λ z. F (slice s z) x y), refl)

-- F, then G, which looks at no more than the twenty bits
module _
    (F G : Slice → Slice)
    (looks : (B : Slice) → bits (G B) ≡ bits (G (slice_of (bits B))))
    (undone : (B : Slice) → bits (G (slice_of (bits (F B)))) ≡ bits B)
  where
    module _ (S : ℕ → ℕ → ℕ) (h : (x y : ℕ) → S x y < 2 ^ 64) where
      after : (z : ℕ) → z < 64 → bits (slice (sliced F (state S)) z) ≡ bits (F (slice (state S) z))
      after z l i = tabulate 4 (λ x. tabulate 5 (λ y. bit-number 64 (λ z. F (slice (state S) z) x y) z l i))

      slice_back : (z : ℕ) → z < 64 → bits (G (slice (sliced F (state S)) z)) ≡ bits (slice (state S) z)
      slice_back z l =
          looks (slice (sliced F (state S)) z)
          ∙ ap (λ (b : List (List Bool)). bits (G (slice_of b))) (after z l)
          ∙ undone (slice (state S) z)

      word_back : (x y : ℕ) → word (λ z. slice_of (bits (G (slice (sliced F (state S)) z))) x y) ≡ word (λ z. slice_of (bits (slice (state S) z)) x y)
      word_back x y =
          number_same 64 (λ z. slice_of (bits (G (slice (sliced F (state S)) z))) x y) (λ z. slice_of (bits (slice (state S) z)) x y)
          (λ z l. ap (λ (b : List (List Bool)). slice_of b x y) (slice_back z l))

      state-back : sliced G (sliced F (state S)) ≡ state S
      state-back = (λ i. state (λ x y. word_back x y i)) ∙ (λ i. state (λ x y. made-of-bits 64 (S x y) (h x y) i))

    pub slices-back : (s : State) → IsState s → sliced G (sliced F s) ≡ s
    slices-back s w = ap (λ (t : State). sliced G (sliced F t)) w.2 ∙ state-back w.0 w.1 ∙ sym w.2

-- F and G undo each other
pub slices-inverse : (F G : Slice → Slice)
    → ((B : Slice) → bits (F B) ≡ bits (F (slice_of (bits B)))) → ((B : Slice) → bits (G B) ≡ bits (G (slice_of (bits B))))
    → ((B : Slice) → bits (G (slice_of (bits (F B)))) ≡ bits B) → ((B : Slice) → bits (F (slice_of (bits (G B)))) ≡ bits B)
    → Inverses (sliced F) (sliced G)
slices-inverse F G f g b r =
    record {
      done = λ s w. sliced-state F s;
      undone = λ s w. sliced-state G s;
      back = slices-back F G g b;
      forth = slices-back G F f r;
    }
