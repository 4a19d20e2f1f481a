-- Digits as std writes them, and runs of text that touch.
-- Assumes nothing.
use mathlib.Core.Path.{◌≡◌, refl, sym, ap, ◌∙◌}
use mathlib.Core.List.{[], ◌∷◌, ◌++◌, append-nil}
use mathlib.Core.Bool.{Bool, true, false, cond}
use Prim.Native.Nat.{ℕ, zero, suc, ◌+◌, ◌/◌, ◌%◌, ◌^◌, ◌≤◌, ◌<◌}
use native.Mathlib.Omega.{arith}
use borrow.Author.Tests.{le-ltb, lt-ltb}
use lib.Dec.{ltb}
use lib.ListN.{length, length-append}
use Rattle.std.proofs.lemmas.Fmt.{decimal_from_prepends, length-decimal-le}
use Rattle.std.specs.Fmt.{decimal as printed}
use Rattle.bytes_le.specs.Bytes.{Bytes, put_bytes}
use Rattle.bytes_le.proofs.Laws.{put-put}
use Rattle.plain_text.specs.Text.{decimal, ascii_digit, digits_before, field}

-- ---- digits
one_digit : (k n : ℕ) (after : Bytes) → n < 10 → digits_before (suc k) n after ≡ ascii_digit n ∷ after
one_digit k n after h = rw (lt-ltb n 10 h) refl

more-digits : (k n : ℕ) (after : Bytes) → 10 ≤ n → digits_before (suc k) n after ≡ digits_before k (n / 10) (ascii_digit (n % 10) ∷ after)
more-digits k n after h = rw (le-ltb n 10 h) refl

-- it is what std writes
pub decimal-printed : (n : ℕ) → n < 2 ^ 64 → printed n ≡ decimal n
unfolding decimal
decimal-printed n h =
    sym (decimal_from_prepends digits_before (record { one = one_digit; more = more-digits }) 20 n [] h (length-decimal-le 20 n (omega arith) (omega arith) h) ∙ append-nil (printed n))

digits-length : (k n : ℕ) (after : Bytes) → length (digits_before k n after) ≤ k + length after
digits-length zero n after = omega arith
digits-length (suc k) n after = by (ltb n 10) (digits-length k (n / 10) (ascii_digit (n % 10) ∷ after))
  where
    by : (t : Bool) → length (digits_before k (n / 10) (ascii_digit (n % 10) ∷ after)) ≤ k + suc (length after)
        → length (cond t (ascii_digit n ∷ after) (digits_before k (n / 10) (ascii_digit (n % 10) ∷ after))) ≤ suc k + length after
    by true h = omega arith
    by false h = omega arith

pub decimal-length : (n : ℕ) → length (decimal n) ≤ 20
unfolding decimal
decimal-length n = digits-length 20 n []

-- ---- runs that touch: vs is put into o from at on, which leaves o₁ and the index i
pub record Put (o : Bytes) (at : ℕ) (vs o₁ : Bytes) (i : ℕ) : Type 0 where
  pub index : i ≡ at + length vs
  pub bytes : o₁ ≡ put_bytes o at vs

pub put_then : (o o₁ o₂ vs ws : Bytes) (at i j : ℕ) → at + (length vs + length ws) ≤ length o → Put o at vs o₁ i → Put o₁ i ws o₂ j
    → Put o at (vs ++ ws) o₂ j
put_then o o₁ o₂ vs ws at i j h p q =
    let l = length-append vs ws in
    let pi = p.index in
    record {
      index = q.index ∙ (let e : i + length ws ≡ at + (length vs + length ws) = omega arith in e) ∙ ap (λ (k : ℕ). at + k) (sym l);
      bytes = q.bytes ∙ ap (λ (o : Bytes). put_bytes o i ws) p.bytes ∙ put-put o at vs ws i pi (omega arith);
    }

pub field-length : (word : Bytes) (n : ℕ) → length (field word n) ≤ length word + 20
field-length word n = let h = decimal-length n in rw (length-append word (decimal n)) (omega arith)
