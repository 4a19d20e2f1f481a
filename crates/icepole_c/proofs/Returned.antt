-- What the C calls return and leave, from what sealing and opening answer.
-- Assumes nothing.
use mathlib.Core.Path.{◌≡◌, refl, sym, ap, ap₂, ◌∙◌}
use mathlib.Core.Bool.{Bool, true, false, ◌&&◌}
use mathlib.Core.List.{◌++◌}
use Prim.Native.Nat.{ℕ, ◌+◌, ◌-◌, ◌≤◌, ◌<◌}
use native.Mathlib.Omega.{arith}
use native.Mathlib.Nat.{sub-zero}
use borrow.Author.Tests.{ne_eqb, le-leb, lt-leb}
use lib.ListN.{length, take}
use lib.Seq.{length-take-le}
use Rattle.bytes_le.specs.Bytes.{Bytes, le, put_bytes}
use Rattle.std.specs.Prelude.{Result, Ok, Err}
use Rattle.refusals.specs.declared.Refusal.{Refusal}
use Rattle.refusals.specs.Numbers.{number, number_of, mark_of}
use Rattle.strips.proofs.Answers.{nonzero}
use Rattle.icepole.specs.Answers.{fits_output, open_answer, open_number, open_output, opened_as, seal_answer, seal_refusal}
use Rattle.icepole.specs.Variants.{sizes}
use Rattle.icepole.specs.Answers.{Opened}
use Rattle.icepole.specs.Answers.{Sealed}
use Rattle.blocks.specs.declared.Sizes.{Sizes}
use Rattle.icepole.specs.declared.Variant.{Variant}
use Rattle.bytes_le.proofs.Laws.{put-put}
use Rattle.icepole.proofs.Answers.{open-refused, open_stays}
use Rattle.icepole.proofs.Numbers.{open-fits}
use Rattle.icepole_c.specs.Calls.{OpenContract, open_call_answer, open_call_info, fits_both, info_after}

pub seal-refusal : (v : Variant) (k n s a m o : Bytes) (r : Sealed) → r ≡ seal_answer v k n s a m o → r.refusal ≡ seal_refusal v k n s a m o
unfolding seal_answer
seal-refusal v k n s a m o r e = ap (λ (r : Sealed). r.refusal) e

false-true : false ≡ true → ⊥
false-true e = let z : ◌≡◌ {A = ℕ} 0 1 = cc in omega arith

-- ---- what is put into the further slice t, where opening answered r
pub told : (r : Opened) (n : ℕ) (t : Bytes) → length r.secret ≡ 16 → n ≤ 16 → 8 + n ≤ length t → r.refusal ≡ 0
    → (t₁ t₂ : Bytes) → t₁ ≡ put_bytes t 0 (le 8 r.length) → t₂ ≡ put_bytes t₁ 8 (take (n - 0) r.secret) → t₂ ≡ info_after r n t
told r n t l hn h z t₁ t₂ e₁ e₂ =
    let k : length (take n r.secret) ≡ n = length-take-le n r.secret (omega arith) in
    e₂ ∙ ap₂ (λ (t : Bytes) (i : ℕ). put_bytes t 8 (take i r.secret)) e₁ (sub-zero n)
    ∙ put-put t 0 (le 8 r.length) (take n r.secret) 8 refl (omega arith)
    ∙ sym (simp z)

-- ---- the further slice t is too short: r is what the lengths alone answer, where what is lent is too short for what opening puts
pub short-call : {A : Type 0} (v : Variant) (k n f g c o t : Bytes) (r : Result A Refusal) → length t < 8 + (sizes v).secret
    → number_of r ≡ open_number (sizes v) (length k) (length n) (length f + length g) (length c) false true → mark_of r ≡ 0
    → OpenContract v k n (f ++ g) c o t (number_of r) o t
unfolding open_call_info
short-call v k n f g c o t (Ok x) h e em =
    absurd (false-true (open-fits (sizes v) (length k) (length n) (length f + length g) (length c) false true (sym e)).room)
short-call v k n f g c o t (Err x) h e em =
    let b : fits_both v k n (f ++ g) c o t ≡ false = ap (λ (b : Bool). b && fits_output v c o) (lt-leb (8 + (sizes v).secret) (length t) h) in
    let some = nonzero x in
    let y = open-refused v k n f g c false x e em in
    let a : opened_as (Err x) ≡ open_call_answer v k n (f ++ g) c o t = y ∙ ap (open_answer v k n (f ++ g) c) (sym b) in (
      ap (λ (r : Opened). r.refusal) a,
      open_stays v k n (f ++ g) c false (opened_as (Err x)) y some o ∙ ap (λ (b : Bool). open_output v k n (f ++ g) c b o) (sym b),
      sym (simp (ne_eqb (number x) 0 some)) ∙ ap (λ (r : Opened). info_after r (sizes v).secret t) a,
    )

-- ---- it is long enough: r is what opening answered, o' the output after it, and x and t' are what the call returns and leaves in the further slice. q is what
-- the code has for the sizes
pub long-call : (v : Variant) (q : Sizes) → q ≡ sizes v → (k n a c o t : Bytes) → 8 + q.secret ≤ length t
    → (r : Opened) → r ≡ open_answer v k n a c (fits_output v c o) → (o' : Bytes) → o' ≡ open_output v k n a c (fits_output v c o) o
    → (x : ℕ) → x ≡ r.refusal → (t' : Bytes) → t' ≡ info_after r q.secret t → OpenContract v k n a c o t x o' t'
unfolding open_call_info
long-call v q eq k n a c o t h r er o' eo x ex t' et =
    let h₁ : 8 + (sizes v).secret ≤ length t = rw eq at h in
    let b : fits_output v c o ≡ fits_both v k n a c o t = sym (ap (λ (b : Bool). b && fits_output v c o) (le-leb (8 + (sizes v).secret) (length t) h₁)) in
    let e : r ≡ open_call_answer v k n a c o t = er ∙ ap (open_answer v k n a c) b in (
      ex ∙ ap (λ (r : Opened). r.refusal) e,
      eo ∙ ap (λ (b : Bool). open_output v k n a c b o) b,
      et ∙ ap₂ (λ (r : Opened) (q : Sizes). info_after r q.secret t) e eq,
    )
