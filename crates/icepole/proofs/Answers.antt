-- The answers of the calls, and what they leave in the output, from the number that the code found.
-- Assumes nothing.
use mathlib.Core.Path.{◌≡◌, refl, sym, ap, ap₂, ◌∙◌}
use mathlib.Core.Bool.{Bool, true, false, cond, not}
use mathlib.Core.List.{◌++◌}
use Prim.Native.Nat.{ℕ, zero, suc, ◌+◌, ◌-◌, ◌*◌, ◌/◌, ◌≤◌, ◌<◌}
use native.Mathlib.Omega.{arith}
use borrow.Author.Tests.{le-leb, leb-true, ne_eqb}
use lib.Dec.{leb}
use lib.ListN.{length, replicate, take, drop, length-append}
use Rattle.bytes_le.specs.Bytes.{Bytes, put_bytes, same}
use Rattle.icepole.specs.Answers.{fits_output, open_answer, open_length, open_number, open_output, open_refusal, opened_answer, opened_as, tag_agrees}
use Rattle.icepole.specs.Answers.{seal_answer, seal_number, seal_output, seal_refusal, sealed_as}
use Rattle.refusals.specs.declared.Refusal.{Refusal}
use Rattle.refusals.specs.declared.Refusal.TheVariants.{TagDiffers}
use Rattle.refusals.specs.Numbers.{number, mark}
use Rattle.refusals.proofs.Laws.{positive}
use Rattle.std.specs.Prelude.{Ok, Err}
use Rattle.blocks.specs.Bounds.{Bounded}
use Rattle.blocks.specs.Sealing.{decrypt, expected_tag, message_of, ready_of, sealed, secret_of, tag_part}
use Rattle.icepole.specs.Variants.{sizes}
use Rattle.icepole.specs.Answers.{Opened}
use Rattle.blocks.specs.declared.Sizes.{Sizes}
use Rattle.icepole.specs.declared.Variant.{Variant}
use Rattle.blocks.proofs.Whole.{whole}
use Rattle.icepole.proofs.Numbers.{OpenFits, open-decides, open-fits, open-stands}

-- ---- sealing
module _ (v : Variant) (k n s f g m o : Bytes) where
  is-refusal : seal_refusal v k n s (f ++ g) m o ≡ seal_number (sizes v) (length k) (length n) (length s) (length f + length g) (length m) (length o)
  unfolding seal_refusal
  is-refusal = ap (λ (a : ℕ). seal_number (sizes v) (length k) (length n) (length s) a (length m) (length o)) (length-append f g)

  pub seal-refused : (e : Refusal) → number e ≡ seal_number (sizes v) (length k) (length n) (length s) (length f + length g) (length m) (length o) → mark e ≡ 0
      → (sealed_as (Err e) ≡ seal_answer v k n s (f ++ g) m o) × (o ≡ seal_output v k n s (f ++ g) m o)
  unfolding seal_answer seal_output
  seal-refused e en em =
      let w = is-refusal ∙ sym en in
      let z = ne_eqb (number e) 0 (λ i. let h = positive e in omega (arith, h, i)) in
      (sym (simp (w, z, em)), sym (simp (w, z)))

  pub seal-done : 0 ≡ seal_number (sizes v) (length k) (length n) (length s) (length f + length g) (length m) (length o)
      → (o' : Bytes) → o' ≡ put_bytes o 0 (sealed (sizes v) k n s (f ++ g) m)
      → (sealed_as (Ok ((sizes v).secret + (length m + 16))) ≡ seal_answer v k n s (f ++ g) m o) × (o' ≡ seal_output v k n s (f ++ g) m o)
  unfolding seal_answer seal_output
  seal-done h o' eo = let z : seal_refusal v k n s (f ++ g) m o ≡ 0 = is-refusal ∙ sym h in (sym (simp z), eo ∙ sym (simp z))

-- ---- opening
module _ (v : Variant) (k n f g c : Bytes) (fits : Bool) where
  at_tag : (t : Bool) → open_number (sizes v) (length k) (length n) (length (f ++ g)) (length c) fits t
      ≡ open_number (sizes v) (length k) (length n) (length f + length g) (length c) fits t
  at_tag t = ap (λ (a : ℕ). open_number (sizes v) (length k) (length n) a (length c) fits t) (length-append f g)

  abbrev agrees : Bool
  agrees = tag_agrees (sizes v) k n (f ++ g) c

  -- turned down before the tag was looked at
  stays : (num : ℕ) → suc num ≡ open_number (sizes v) (length k) (length n) (length f + length g) (length c) fits true
      → open_refusal v k n (f ++ g) c fits ≡ suc num
  unfolding open_refusal
  stays num e = at_tag agrees ∙ open-stands (sizes v) (length k) (length n) (length f + length g) (length c) fits agrees num (sym e)

  -- the tag decides
  by-tag : 0 ≡ open_number (sizes v) (length k) (length n) (length f + length g) (length c) fits true
      → (t : Bool) → agrees ≡ t → open_refusal v k n (f ++ g) c fits ≡ cond (not t) 7 0
  unfolding open_refusal
  by-tag h t et =
      at_tag agrees
      ∙ open-decides (sizes v) (length k) (length n) (length f + length g) (length c) fits agrees (sym h)
      ∙ ap (λ (t : Bool). cond (not t) 7 0) et

  refused-by : (e : Refusal) (num : ℕ) → number e ≡ suc num → open_refusal v k n (f ++ g) c fits ≡ suc num → mark e ≡ 0
      → opened_as (Err e) ≡ open_answer v k n (f ++ g) c fits
  unfolding open_answer
  refused-by e num en z em = let w = ne_eqb (suc num) 0 (λ i. omega arith) in sym (simp (z, w, en, em))

  pub open-refused : (e : Refusal) → number e ≡ open_number (sizes v) (length k) (length n) (length f + length g) (length c) fits true → mark e ≡ 0
      → opened_as (Err e) ≡ open_answer v k n (f ++ g) c fits
  open-refused e en em = by (number e) refl
    where
      by : (i : ℕ) → number e ≡ i → opened_as (Err e) ≡ open_answer v k n (f ++ g) c fits
      by zero z = let h = positive e in absurd (omega arith)
      by (suc num) z = refused-by e num z (stays num (sym z ∙ en)) em

  module _ (h : 0 ≡ open_number (sizes v) (length k) (length n) (length f + length g) (length c) fits true) where
    pub open-differs : agrees ≡ false → opened_as (Err (TagDiffers 0)) ≡ open_answer v k n (f ++ g) c fits
    open-differs et = refused-by (TagDiffers 0) 6 refl (by-tag h false et) refl

    pub open_done : agrees ≡ true → (s : Bytes) → s ≡ put_bytes (replicate 16 0) 0 (secret_of (sizes v) k n c)
        → opened_as (Ok (record { length = length c - ((sizes v).secret + 16); secret = s })) ≡ open_answer v k n (f ++ g) c fits
    unfolding open_answer
    open_done et s es =
        let z : open_refusal v k n (f ++ g) c fits ≡ 0 = by-tag h true et in
        ap (λ (s : Bytes). record { refusal = 0; mark = 0; length = length c - ((sizes v).secret + 16); secret = s }) es ∙ sym (simp z)

-- ---- the output, and what number 0 tells, from the answer r
module _ (v : Variant) (k n a c : Bytes) (fits : Bool) (r : Opened) (er : r ≡ open_answer v k n a c fits) where
  is-open-refusal : open_refusal v k n a c fits ≡ r.refusal
  unfolding open_answer
  is-open-refusal = sym (ap (λ (r : Opened). r.refusal) er)

  pub open_stays : (r.refusal ≡ 0 → ⊥) → (o : Bytes) → o ≡ open_output v k n a c fits o
  unfolding open_output
  open_stays h o = sym (simp (ne_eqb (open_refusal v k n a c fits) 0 (λ z. h (sym is-open-refusal ∙ z))))

  module _ (z : r.refusal ≡ 0) where
    pub open-tells : OpenFits (sizes v) (length k) (length n) (length a) (length c) fits (tag_agrees (sizes v) k n a c)
    unfolding open_refusal
    open-tells = open-fits (sizes v) (length k) (length n) (length a) (length c) fits (tag_agrees (sizes v) k n a c) (is-open-refusal ∙ z)

    -- the fields of the answer
    pub open-given : r ≡ opened_answer 0 (open_length v c) (secret_of (sizes v) k n c)
    unfolding open_answer
    open-given = er ∙ ap (λ (i : ℕ). opened_answer i (open_length v c) (secret_of (sizes v) k n c)) (is-open-refusal ∙ z)

    open-written : (o o' : Bytes) → o' ≡ put_bytes o 0 (message_of (sizes v) k n a c) → o' ≡ open_output v k n a c fits o
    unfolding open_output
    open-written o o' eo = let w : open_refusal v k n a c fits ≡ 0 = is-open-refusal ∙ z in eo ∙ sym (simp w)

-- the answer of `open_message`, where b is what the code found for whether the message fits
pub answer-by : (v : Variant) (q : Sizes) → q ≡ sizes v → (k n a c o : Bytes) (b : Bool) → b ≡ leb (length c - (q.secret + 16)) (length o)
    → (r : Opened) → r ≡ open_answer v k n a c b → r ≡ open_answer v k n a c (fits_output v c o)
answer-by v q eq k n a c o b eb r er =
    er ∙ ap (open_answer v k n a c) (eb ∙ ap (λ (q : Sizes). leb (length c - (q.secret + 16)) (length o)) eq)

-- a message always fits into its sealed message
pub fits-itself : (v : Variant) (c : Bytes) → fits_output v c c ≡ true
fits-itself v c = le-leb (open_length v c) (length c) (omega arith)

-- ---- what opening is made of, in the terms of the code
-- the number of the answer r is 0: what the call that decrypts wants, and what it puts into an output o. q is what the code has for the sizes, and u the state
-- after the associated data
module _ (v : Variant) (q : Sizes) (eq : q ≡ sizes v) (hq : Bounded q) (k n a c : Bytes) (fits : Bool) (r : Opened) (er : r ≡ open_answer v k n a c fits)
    (z : r.refusal ≡ 0) where
  is-length : r.length ≡ open_length v c
  is-length = ap (λ (r : Opened). r.length) (open-given v k n a c fits r er z)

  pub to-decrypt : (0 < q.block / 8) × (q.block / 8 < 20) × (q.secret + r.length ≤ length c)
  to-decrypt =
      let w = (open-tells v k n a c fits r er z).sealed in
      let e = ap (λ (q : Sizes). q.secret) eq in
      let l = is-length in
      (omega (arith, hq.some, hq.whole), omega (arith, hq.block), omega (arith, w, l, e))

  -- the message fits
  pub has_room : (o : ℕ) → fits ≡ leb (open_length v c) o → r.length ≤ o
  has_room o e = let h = leb-true (open_length v c) o (sym e ∙ (open-tells v k n a c fits r er z).room) in omega (arith, h, is-length)

  pub decrypted : (u o o' : Bytes) → u ≡ ready_of (sizes v) k n a c → o' ≡ put_bytes o 0 (decrypt (8 * (q.block / 8)) u (take r.length (drop q.secret c)))
      → o' ≡ open_output v k n a c fits o
  unfolding message_of
  decrypted u o o' eu e =
      open-written v k n a c fits r er z o o'
      (e ∙ ap (λ (b : ℕ). put_bytes o 0 (decrypt b u (take r.length (drop q.secret c)))) (whole q hq)
      ∙ ap (λ (q : Sizes). put_bytes o 0 (decrypt q.block u (take r.length (drop q.secret c)))) eq
      ∙ ap₂ (λ (u : Bytes) (l : ℕ). put_bytes o 0 (decrypt (sizes v).block u (take l (drop (sizes v).secret c)))) eu is-length)

pub agrees-by : (v : Variant) (q : Sizes) → q ≡ sizes v → (k n a c : Bytes) (b : Bool) → b ≡ same (expected_tag q k n a c) (tag_part c)
    → b ≡ tag_agrees (sizes v) k n a c
unfolding tag_agrees
agrees-by v q eq k n a c b eb = eb ∙ ap (λ (q : Sizes). tag_agrees q k n a c) eq
