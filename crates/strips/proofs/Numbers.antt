-- The refusal numbers: each from the first condition that holds, and what number 0 tells.
-- Assumes nothing.
use mathlib.Core.Path.{◌≡◌, refl, sym, ap, ◌∙◌}
use mathlib.Core.Bool.{Bool, true, false, ◌||◌}
use mathlib.Core.Logic.{⊎_elim}
use Prim.Native.Nat.{ℕ, ◌+◌, ◌≤◌, ◌<◌, min}
use native.Mathlib.Omega.{arith}
use Rattle.std.proofs.Math.Nat.{min-eq_left}
use borrow.Author.Tests.{le-ltb, lt-ltb, ltb-false}
use lib.Dec.{ltb}
use Rattle.bits.proofs.Cases.{le-or-lt}
use Rattle.icepole.specs.Answers.{seal_number}
use Rattle.blocks.specs.Lengths.{max_length}
use Rattle.blocks.specs.declared.Sizes.{Sizes}
use Rattle.icepole.proofs.Numbers.{SealFits, neither, passed, seal-0, seal-fits}
use Rattle.strips.specs.Answers.{start_number, strip_number, end_number}

-- ---- start: sealing no message
-- every output with room gives the same number
seal-room : (q : Sizes) (k n s a m o o' : ℕ) → q.secret + (m + 16) ≤ o → q.secret + (m + 16) ≤ o' → seal_number q k n s a m o ≡ seal_number q k n s a m o'
unfolding seal_number
seal-room q k n s a m o o' h h' = rw (le-ltb o (q.secret + (m + 16)) h, le-ltb o' (q.secret + (m + 16)) h') refl

-- where the code looks at all of the output
pub start-all : (q : Sizes) (k n s a o room : ℕ) → room ≡ o → seal_number q k n s a 0 (room + 16) ≡ start_number q k n s a o
unfolding start_number
start-all q k n s a o room e = ap (λ (r : ℕ). seal_number q k n s a 0 (r + 16)) e

-- it looks at no more of it than the secret number takes
pub start-cut : (q : Sizes) (k n s a o : ℕ) → seal_number q k n s a 0 (min o q.secret + 16) ≡ start_number q k n s a o
unfolding start_number
start-cut q k n s a o =
    ⊎_elim (λ h. seal-room q k n s a 0 (min o q.secret + 16) (o + 16) (omega arith) (omega arith))
    (λ h. start-all q k n s a o (min o q.secret) (min-eq_left {n = o} {m = q.secret} (omega arith))) (le-or-lt q.secret o)

pub start_fits : (q : Sizes) (k n s a o : ℕ) → start_number q k n s a o ≡ 0 → SealFits q k n s a 0 (o + 16)
unfolding start_number
start_fits q k n s a o = seal-fits q k n s a 0 (o + 16)

pub start-fits-by : (q q' : Sizes) → q ≡ q' → (k n s a o : ℕ) → start_number q' k n s a o ≡ 0 → SealFits q k n s a 0 (o + 16)
start-fits-by q q' eq k n s a o e = start_fits q k n s a o (ap (λ (q : Sizes). start_number q k n s a o) eq ∙ e)

-- and what gives number 0
pub start-accepted : (q : Sizes) (k n s a o : ℕ) → k ≡ q.key → n ≡ q.nonce → s ≡ q.secret → a ≤ max_length → q.secret ≤ o → start_number q k n s a o ≡ 0
unfolding start_number
start-accepted q k n s a o hk hn hs ha ho = sym (seal-0 q k n s a 0 (o + 16) hk hn hs ha (omega arith) (omega arith))

-- ---- strip and end
-- whether a state takes no more
module _ (f : Bool) (c : ℕ) where
  pub over : f ≡ true → (f || ltb max_length c) ≡ true
  over e = rw e refl

  pub over' : f ≡ false → max_length < c → (f || ltb max_length c) ≡ true
  over' e h = rw e (lt-ltb max_length c h)

  pub takes : f ≡ false → c ≤ max_length → (f || ltb max_length c) ≡ false
  takes e h = rw e (le-ltb max_length c h)

module _ (f : Bool) (c m o : ℕ) where
  pub strip-14 : (f || ltb max_length c) ≡ true → 14 ≡ strip_number f c m o
  unfolding strip_number
  strip-14 e = sym (simp e)

  module _ (e : (f || ltb max_length c) ≡ false) where
    pub strip-4 : max_length < c + m → 4 ≡ strip_number f c m o
    unfolding strip_number
    strip-4 h = sym (simp (e, lt-ltb max_length (c + m) h))

    module _ (hm : c + m ≤ max_length) where
      pub strip-5 : o < m → 5 ≡ strip_number f c m o
      unfolding strip_number
      strip-5 h = sym (simp (e, le-ltb max_length (c + m) hm, lt-ltb o m h))

      pub strip-0 : m ≤ o → 0 ≡ strip_number f c m o
      unfolding strip_number
      strip-0 h = sym (simp (e, le-ltb max_length (c + m) hm, le-ltb o m h))

module _ (f : Bool) (c o : ℕ) where
  pub end-14 : (f || ltb max_length c) ≡ true → 14 ≡ end_number f c o
  unfolding end_number
  end-14 e = sym (simp e)

  module _ (e : (f || ltb max_length c) ≡ false) where
    pub end-5 : o < 16 → 5 ≡ end_number f c o
    unfolding end_number
    end-5 h = sym (simp (e, lt-ltb o 16 h))

    pub end-0 : 16 ≤ o → 0 ≡ end_number f c o
    unfolding end_number
    end-0 h = sym (simp (e, le-ltb o 16 h))

-- ---- what number 0 tells
pub record StripFits (f : Bool) (c m o : ℕ) : Type 0 where
  pub open' : f ≡ false
  pub sum : c + m ≤ max_length
  pub out : m ≤ o

pub strip-fits : (f : Bool) (c m o : ℕ) → strip_number f c m o ≡ 0 → StripFits f c m o
unfolding strip_number
strip-fits f c m o e =
    let p₁ = passed (f || ltb max_length c) _ _ e in
    let p₂ = passed (ltb max_length (c + m)) _ _ p₁.1 in
    let p₃ = passed (ltb o m) _ _ p₂.1 in
    record { open' = (neither f (ltb max_length c) p₁.0).0; sum = ltb-false _ _ p₂.0; out = ltb-false _ _ p₃.0 }

pub end-room : (f : Bool) (c o : ℕ) → end_number f c o ≡ 0 → 16 ≤ o
unfolding end_number
end-room f c o e = ltb-false _ _ (passed (ltb o 16) _ _ (passed (f || ltb max_length c) _ _ e).1).0

pub end-open : (f : Bool) (c o : ℕ) → end_number f c o ≡ 0 → f ≡ false
unfolding end_number
end-open f c o e = (neither f (ltb max_length c) (passed (f || ltb max_length c) _ _ e).0).0
