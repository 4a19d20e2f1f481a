-- Change request N6: opening in place, by what is known of opening into an output that holds the sealed message.
-- Assumes nothing.
use mathlib.Core.Bool.{Bool, true, false, ◌&&◌}
use mathlib.Core.List.{◌++◌}
use mathlib.Core.Logic.{⊎_elim, ◌≢◌}
use mathlib.Core.Path.{◌≡◌, refl, sym, ap, ◌∙◌}
use Prim.Native.Nat.{ℕ, ◌≤◌, ◌<◌}
use native.Mathlib.Omega.{arith}
use borrow.Author.Tests.{le-leb}
use lib.Dec.{leb}
use lib.ListN.{length, take, drop}
use Rattle.bits.proofs.Cases.{le-or-lt, zero_or_not}
use Rattle.bytes_le.specs.Bytes.{Bytes}
use Rattle.bytes_le.proofs.Laws.{put_front, take_put}
use Rattle.icepole.specs.declared.Variant.{Variant}
use Rattle.icepole.specs.Answers.{Opened}
use Rattle.icepole.specs.Variants.{sizes}
use Rattle.icepole.specs.Answers.{fits_output, open_answer, open_length, open_output, open_refusal, tag_agrees}
use Rattle.icepole_c.specs.Calls.{fits_both, info_after, info_length, open_call_info, open_call_output, open_call_refusal}
use Rattle.icepole.proofs.Answers.{fits-itself}
use Rattle.claims.specs.Demand1.{order_of_verify}
use Rattle.claims.specs.Demand2.{GenuineMessage}
use Rattle.claims.specs.InPlace.{BesideOpening, BesideOpeningInC, InPlace, in_place_answer, in_place_buffer}
use Rattle.claims.proofs.Demand1.{opens-in-place, opens-in-place-in-c}
use Rattle.claims.proofs.Demand2.{genuine, is-length, open-does}
use Rattle.claims.proofs.Orders.{not-given}

module _ (v : Variant) (key nonce ad c : Bytes) where
  number_is : (in_place_answer v key nonce ad c).refusal ≡ open_refusal v key nonce ad c true
  unfolding open_answer
  number_is = refl

  abbrev Opens : Type 0
  Opens = (g : GenuineMessage v key nonce ad c true) × (in_place_buffer v key nonce ad c ≡ g.message ++ drop (length g.message) c)

  only : (in_place_answer v key nonce ad c).refusal ≡ 0 → Opens
  only z = let g = genuine v key nonce ad c true (sym number_is ∙ z) in (g, g.output c ∙ put_front c g.message)

  refused : (in_place_answer v key nonce ad c).refusal ≢ 0 → in_place_buffer v key nonce ad c ≡ c
  refused z = ((opens-in-place v key nonce ad c).refused z).1

  never-5 : (in_place_answer v key nonce ad c).refusal ≢ 5
  never-5 =
      not-given 5 _ (order_of_verify v (length key) (length nonce) (length ad) (length c) (tag_agrees (sizes v) key nonce ad c ≡ false))
      (λ e. omega arith) (λ e. omega arith, (λ e. omega arith, (λ e. omega arith, (λ e. omega arith, (λ e. omega arith, tt)))))
      (opens-in-place v key nonce ad c).order

  -- where the call is done: the front of an output, and how long it is
  front : (b fits : Bool) → b ≡ fits → (g : GenuineMessage v key nonce ad c fits) → (n : ℕ) → n ≡ length g.message → (out : Bytes)
      → take n (open_output v key nonce ad c b out) ≡ g.message
  front b fits e g n en out =
      ap (take n) (ap (λ (b : Bool). open_output v key nonce ad c b out) e ∙ g.output out) ∙ take_put out 0 g.message n (omega arith) (omega arith)

  long : (fits : Bool) (g : GenuineMessage v key nonce ad c fits) → open_length v c ≡ length g.message
  long fits g = ap (open_length v) g.sealed_is ∙ is-length v key nonce g.secret ad g.message g.within

  module _ (out : Bytes) (h : open_length v c ≤ length out) where
    room : fits_output v c out ≡ true
    room = le-leb (open_length v c) (length out) h

    abbrev Fronts : Type 0
    Fronts =
        take (in_place_answer v key nonce ad c).length (in_place_buffer v key nonce ad c)
        ≡ take (in_place_answer v key nonce ad c).length (open_output v key nonce ad c (fits_output v c out) out)

    done : (in_place_answer v key nonce ad c).refusal ≡ 0 → Fronts
    done z =
        let g = (only z).0 in
        let e = ap (λ (r : Opened). r.length) g.answer in
        front true true refl g _ e c ∙ sym (front (fits_output v c out) true room g _ e out)

    nothing : (in_place_answer v key nonce ad c).refusal ≢ 0 → Fronts
    nothing z =
        let l : (in_place_answer v key nonce ad c).length ≡ 0 = ap (λ (r : Opened). r.length) ((opens-in-place v key nonce ad c).refused z).0 in
        rw l refl

    alike : BesideOpening v key nonce ad c out
    alike = record {
      answers = ap (open_answer v key nonce ad c) (sym room);
      fronts = zero_or_not (in_place_answer v key nonce ad c).refusal Fronts done nothing;
    }

    module _ (info : Bytes) where
      same-room : fits_both v key nonce ad c c info ≡ fits_both v key nonce ad c out info
      same-room = ap (λ (b : Bool). leb (info_length v) (length info) && b) (fits-itself v c ∙ sym room)

      same-fronts : open_refusal v key nonce ad c (fits_both v key nonce ad c c info) ≡ 0
          → take (open_length v c) (open_call_output v key nonce ad c c info) ≡ take (open_length v c) (open_call_output v key nonce ad c out info)
      same-fronts z =
          let g = genuine v key nonce ad c (fits_both v key nonce ad c c info) z in
          let l = long (fits_both v key nonce ad c c info) g in
          front _ _ refl g _ l c ∙ sym (front _ _ (sym same-room) g _ l out)

      alike-in-c : BesideOpeningInC v key nonce ad c out info
      unfolding open_answer open_call_info
      alike-in-c = record {
        numbers = ap (λ (b : Bool). (open_answer v key nonce ad c b).refusal) same-room;
        infos = ap (λ (b : Bool). info_after (open_answer v key nonce ad c b) (sizes v).secret info) same-room;
        fronts = same-fronts;
      }

  in_c : (info : Bytes) → info_length v ≤ length info
      → (open_call_refusal v key nonce ad c c info ≡ (in_place_answer v key nonce ad c).refusal)
      × (open_call_output v key nonce ad c c info ≡ in_place_buffer v key nonce ad c)
      × (open_call_info v key nonce ad c c info ≡ info_after (in_place_answer v key nonce ad c) (sizes v).secret info)
  unfolding open_call_info
  in_c info h =
      let b : fits_both v key nonce ad c c info ≡ true = simp (le-leb (info_length v) (length info) h, fits-itself v c) in (
        ap (λ (b : Bool). (open_answer v key nonce ad c b).refusal) b,
        ap (λ (b : Bool). open_output v key nonce ad c b c) b,
        ap (λ (b : Bool). info_after (open_answer v key nonce ad c b) (sizes v).secret info) b,
      )

  five-in-c : (info : Bytes) → open_call_refusal v key nonce ad c c info ≡ 5 → length info < info_length v
  five-in-c info e =
      ⊎_elim (λ (h : info_length v ≤ length info). absurd (never-5 (sym (in_c info h).0 ∙ e))) (λ (h : length info < info_length v). h)
      (le-or-lt (info_length v) (length info))

pub in_place : InPlace
in_place = record {
  opens = λ v key nonce secret ad m w.
      let d = open-does v key nonce secret ad m w true refl in
      (d.0, d.1 _ ∙ put_front _ m);
  only = only;
  alike = alike;
  refused = refused;
  never_5 = never-5;
  fits = fits-itself;
  in_c = in_c;
  five_in_c = five-in-c;
  refused_in_c = λ v key nonce ad c info. (opens-in-place-in-c v key nonce ad c info).refused;
  alike_in_c = λ v key nonce ad c out info h. alike-in-c v key nonce ad c out h info;
}
