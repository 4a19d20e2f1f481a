-- Demand 2, by the laws of sealing and opening, for the three variants at once.
-- Assumes nothing.
use mathlib.Core.Path.{◌≡◌, refl, sym, ap, ap₂, ◌∙◌}
use mathlib.Core.Bool.{Bool, true}
use mathlib.Core.Option.{some}
use Prim.Native.Nat.{ℕ, ◌+◌, ◌≤◌, ◌<◌}
use native.Mathlib.Omega.{arith}
use borrow.Author.Tests.{le-leb, ne_eqb}
use lib.ListN.{length, take, replicate}
use mathlib.Core.List.{[], ◌++◌}
use Rattle.bytes_le.specs.Bytes.{Bytes, le, put_bytes, same}
use Rattle.bytes_le.proofs.Laws.{take_put}
use Rattle.icepole.specs.Answers.{fits_output, open_answer, open_length, open_number, open_output, open_refusal, opened_answer, seal_answer, seal_output, seal_refusal, tag_agrees}
use Rattle.blocks.specs.Bounds.{Bounded}
use Rattle.blocks.specs.Sealing.{expected_tag, message_of, sealed, secret_of, tag_part}
use Rattle.icepole.specs.Variants.{sizes}
use Rattle.icepole.specs.declared.Variant.{Variant}
use Rattle.icepole.specs.Answers.{Opened}
use Rattle.icepole.proofs.Bounds.{bounded}
use Rattle.icepole.proofs.Numbers.{OpenFits, open-0, open-fits, seal-0}
use Rattle.icepole.proofs.OpenedBytes.{message-bytes, secret-bytes}
use Rattle.blocks.proofs.Opening.{length-message-of, length-sealed, length-secret-of, message-of-sealed, opened, seal-open, secret-of-sealed, tag-of-sealed}
use Rattle.icepole_c.specs.Calls.{open_call_info, open_call_output, open_call_refusal, fits_both, info_after}
use Rattle.claims.specs.Demand2.{Demand2, GenuineMessage, Within, open_done, seal_done}

module _ (v : Variant) where
  h : Bounded (sizes v)
  h = bounded v

  less : (sizes v).secret < 160
  less = omega (arith, (bounded v).secret)

  module _ (k n s a m : Bytes) (w : Within v k n s a m) where
    c : Bytes
    c = sealed (sizes v) k n s a m

    pub length-of : length (sealed (sizes v) k n s a m) ≡ (sizes v).secret + (length m + 16)
    length-of = length-sealed (sizes v) (bounded v).some (bounded v).block less k n s a m w.secret_length

    pub seal-does : (out : Bytes) → (sizes v).secret + (length m + 16) ≤ length out
        → (seal_answer v k n s a m out ≡ seal_done ((sizes v).secret + (length m + 16))) × (seal_output v k n s a m out ≡ put_bytes out 0 (sealed (sizes v) k n s a m))
    unfolding seal_answer seal_output seal_refusal
    seal-does out r =
        let z = sym
        (seal-0 (sizes v) (length k) (length n) (length s) (length a) (length m) (length out) w.key_length w.nonce_length w.secret_length w.associated_length w.message_length r) in
        (simp z, simp z)

    pub is-length : open_length v (sealed (sizes v) k n s a m) ≡ length m
    is-length = rw length-of (omega arith)

    agree : tag_agrees (sizes v) k n a (sealed (sizes v) k n s a m) ≡ true
    unfolding tag_agrees
    agree = tag-of-sealed (sizes v) (bounded v).some (bounded v).block less k n s a m w.secret_length

    accepted : (fits : Bool) → fits ≡ true → open_refusal v k n a (sealed (sizes v) k n s a m) fits ≡ 0
    unfolding open_refusal
    accepted fits e =
        ap (open_number (sizes v) (length k) (length n) (length a) (length (sealed (sizes v) k n s a m)) fits) agree
        ∙ sym
        (open-0 (sizes v) (length k) (length n) (length a) (length (sealed (sizes v) k n s a m)) fits w.key_length w.nonce_length w.associated_length
        (omega (arith, length-of, w.message_length)) (omega (arith, length-of)) e)

    pub open-does : (fits : Bool) → fits ≡ true
        → (open_answer v k n a (sealed (sizes v) k n s a m) fits ≡ open_done (length m) s)
        × ((out : Bytes) → open_output v k n a (sealed (sizes v) k n s a m) fits out ≡ put_bytes out 0 m)
    unfolding open_answer open_output
    open-does fits e =
        let z = accepted fits e in
        let es = secret-of-sealed (sizes v) (bounded v).some (bounded v).block less k n s a m w.secret_length in
        let em = message-of-sealed (sizes v) (bounded v).some (bounded v).block less k n s a m w.secret_length in (
          simp z (ap₂ open_done is-length es),
          λ out. simp z (ap (put_bytes out 0) em),
        )

    pub fits_out : (out : Bytes) → length m ≤ length out → fits_output v (sealed (sizes v) k n s a m) out ≡ true
    fits_out out r = le-leb (open_length v (sealed (sizes v) k n s a m)) (length out) (rw is-length r)

    -- in C
    pub open-in-c : (out info : Bytes) → length m ≤ length out → 8 + (sizes v).secret ≤ length info
        → (open_call_refusal v k n a (sealed (sizes v) k n s a m) out info ≡ 0)
        × (open_call_output v k n a (sealed (sizes v) k n s a m) out info ≡ put_bytes out 0 m)
        × (open_call_info v k n a (sealed (sizes v) k n s a m) out info ≡ put_bytes info 0 (le 8 (length m) ++ s))
    unfolding open_call_info
    open-in-c out info r t =
        let c = sealed (sizes v) k n s a m in
        let e : fits_both v k n a c out info ≡ true = simp (le-leb (8 + (sizes v).secret) (length info) t, fits_out out r) in
        let d = open-does (fits_both v k n a c out info) e in
        let b = (bounded v).secret in
        let z = w.secret_length in
        let q : take (sizes v).secret (put_bytes (replicate 16 0) 0 s) ≡ s =
        take_put (replicate 16 0) 0 s (sizes v).secret (omega arith) (omega arith) in (
          ap (λ (x : Opened). x.refusal) d.0,
          d.1 out,
          ap (λ (x : Opened). info_after x (sizes v).secret info) d.0
              ∙ ap (λ (x : Bytes). put_bytes info 0 (le 8 (length m) ++ x)) q,
        )

  module _ (k n a c : Bytes) (fits : Bool) (e : open_refusal v k n a c fits ≡ 0) where
    facts : OpenFits (sizes v) (length k) (length n) (length a) (length c) fits (tag_agrees (sizes v) k n a c)
    unfolding open_refusal
    facts = open-fits (sizes v) (length k) (length n) (length a) (length c) fits (tag_agrees (sizes v) k n a c) e

    abbrev s : Bytes
    s = secret_of (sizes v) k n c

    abbrev m : Bytes
    m = message_of (sizes v) k n a c

    it_opens : opened (sizes v) k n a c ≡ some (secret_of (sizes v) k n c, message_of (sizes v) k n a c)
    unfolding opened tag_agrees
    it_opens =
        let t : same (expected_tag (sizes v) k n a c) (tag_part c) ≡ true = facts.tag in
        simp (le-leb ((sizes v).secret + 16) (length c) facts.sealed, t)

    pub genuine : GenuineMessage v k n a c fits
    unfolding open_answer open_output
    genuine =
        let f = facts in
        let ls = length-secret-of (sizes v) (bounded v).some (bounded v).block less k n a c f.sealed in
        let lm = length-message-of (sizes v) (bounded v).some (bounded v).block less k n a c f.sealed in
        record {
          secret = s;
          message = m;
          within = record {
            key_length = f.key;
            nonce_length = f.nonce;
            secret_length = ls;
            associated_length = f.associated;
            message_length = rw lm f.message;
          };
          sealed_is = seal-open (sizes v) (bounded v).some (bounded v).block less k n a c s m it_opens;
          room = f.room;
          answer = simp e (ap (λ (i : ℕ). open_done i (secret_of (sizes v) k n c)) (sym lm));
          output = λ out. simp e;
          bytes = λ hc. (secret-bytes (sizes v) k n a c hc, message-bytes (sizes v) k n a c hc);
        }

  withheld : (k n a c : Bytes) (fits : Bool) → (open_refusal v k n a c fits ≡ 0 → ⊥)
      → (open_answer v k n a c fits ≡ opened_answer (open_refusal v k n a c fits) 0 []) × ((out : Bytes) → open_output v k n a c fits out ≡ out)
  unfolding open_answer open_output
  withheld k n a c fits e = let z = ne_eqb (open_refusal v k n a c fits) 0 e in (simp z, λ out. simp z)

pub demand2 : Demand2
demand2 =
    record {
      seals = λ v k n s a m out w r. seal-does v k n s a m w out r;
      sealed_length = length-of;
      opens = λ v k n s a m w. open-does v k n s a m w true refl;
      fits = λ v k n s a m out w r. fits_out v k n s a m w out r;
      opens_in_c = λ v k n s a m out info w r t. open-in-c v k n s a m w out info r t;
      only = genuine;
      withholds = withheld;
    }
