-- One call after the other leaves every slice as it was, whether they are refused or done.
-- Assumes nothing.
use mathlib.Core.List.{◌++◌}
use mathlib.Core.Path.{◌≡◌, refl, sym, ap, ◌∙◌}
use Prim.Native.Nat.{ℕ, ◌≤◌}
use native.Mathlib.Omega.{arith}
use lib.ListN.{length, take, drop, length-append, length-drop, take-append-drop}
use lib.Seq.{drop-append_seam, length-take-le, take-append_seam}
use Rattle.bits.proofs.Cases.{zero_or_not}
use Rattle.bytes_le.specs.Bytes.{AllBytes, Bytes, put_bytes}
use Rattle.bytes_le.proofs.All.{all_take}
use Rattle.bytes_le.proofs.Laws.{put_front}
use Rattle.permutation.specs.State.{State, IsState}
use Rattle.state_bytes.specs.StateBytes.{bytes_of, state_length, state_of}
use Rattle.state_bytes.proofs.Lengths.{length-bytes}
use Rattle.state_bytes.proofs.View.{bytes-of-state, state-held, state-of-is}
use Rattle.rounds_back.specs.Driven.{ran}
use Rattle.rounds_back.specs.declared.Direction.{Direction}
use Rattle.core_c.specs.Calls.{after_rounds, rounds_refusal}
use Rattle.core_c.proofs.Rounds.{done-leaves, refused-leaves, within}

-- what a call leaves where it is not refused: the bytes of the state that the rounds come to, and the rest of the slice
put-state : (u : State) (b : Bytes) → put_bytes b 0 (bytes_of u) ≡ bytes_of u ++ drop state_length b
put-state u b = put_front b (bytes_of u) ∙ ap (λ (n : ℕ). bytes_of u ++ drop n b) (length-bytes u)

pub first-call : (w : Direction) (r : ℕ) (b : Bytes) → rounds_refusal r (length b) ≡ 0
    → after_rounds w r b ≡ bytes_of (ran w r (state_of (take state_length b))) ++ drop state_length b
first-call w r b none =
    let s : State = state_of (take state_length b) in
    sym (done-leaves w r b none s (ran w r s) (put_bytes b 0 (bytes_of (ran w r s))) refl refl refl) ∙ put-state (ran w r s) b

-- v takes back what w does to a state
module _
    (w v : Direction) (r : ℕ)
    (stays : (s : State) → IsState s → IsState (ran w r s)) (undone : (s : State) → IsState s → ran v r (ran w r s) ≡ s)
    (b : Bytes) (all : AllBytes b)
  where
    abbrev front : Bytes
    front = take state_length b

    -- the state in the slice, that after the first call, and the slice then
    abbrev s : State
    s = state_of front

    abbrev t : State
    t = ran w r s

    abbrev between : Bytes
    between = bytes_of t ++ drop state_length b

    module _ (none : rounds_refusal r (length b) ≡ 0) where
      room : state_length ≤ length b
      room = (within r (length b) none).1

      front-after : take state_length between ≡ bytes_of t
      front-after = ap (λ (n : ℕ). take n between) (sym (length-bytes t)) ∙ take-append_seam (bytes_of t) (drop state_length b)

      rest-after : drop state_length between ≡ drop state_length b
      rest-after = ap (λ (n : ℕ). drop n between) (sym (length-bytes t)) ∙ drop-append_seam (bytes_of t) (drop state_length b)

      length-after : length between ≡ length b
      length-after =
          let n : length (bytes_of t) ≡ state_length = length-bytes t in
          let h = room in
          length-append (bytes_of t) (drop state_length b) ∙ simp length-drop (omega arith)

      is_state : IsState s
      is_state = state-of-is front (all_take state_length b all)

      restored : b ≡ put_bytes between 0 (bytes_of (ran v r t))
      restored =
          sym (take-append-drop state_length b)
          ∙ ap (λ (f : Bytes). f ++ drop state_length b) (sym (bytes-of-state front (all_take state_length b all) (length-take-le state_length b room)))
          ∙ ap (λ (u : State). bytes_of u ++ drop state_length b) (sym (undone s is_state))
          ∙ ap (λ (d : Bytes). bytes_of (ran v r t) ++ d) (sym rest-after)
          ∙ sym (put-state (ran v r t) between)

      done-back : after_rounds v r (after_rounds w r b) ≡ b
      done-back =
          ap (after_rounds v r) (first-call w r b none)
          ∙ sym
          (done-leaves v r between (ap (rounds_refusal r) length-after ∙ none) t (ran v r t) b
          (sym (ap state_of front-after ∙ state-held t (stays s is_state))) refl restored)

    refused-back : (rounds_refusal r (length b) ≡ 0 → ⊥) → after_rounds v r (after_rounds w r b) ≡ b
    refused-back h =
        ap (after_rounds v r) (sym (refused-leaves w r b (rounds_refusal r (length b)) refl h))
        ∙ sym (refused-leaves v r b (rounds_refusal r (length b)) refl h)

    pub calls_back : after_rounds v r (after_rounds w r b) ≡ b
    calls_back = zero_or_not (rounds_refusal r (length b)) _ done-back refused-back
