-- Whole messages: what the calls of `ready`, `seal_into` and `tag_agrees` give, joined.
-- Assumes nothing.
use mathlib.Core.Path.{◌≡◌, ap, ap₂, ◌∙◌}
use Prim.Native.Nat.{ℕ, ◌+◌, ◌-◌, ◌*◌, ◌/◌, ◌%◌, ◌≤◌}
use mathlib.Core.Bool.{Bool}
use native.Mathlib.Omega.{arith}
use mathlib.Core.List.{◌++◌, append_assoc}
use lib.ListN.{length, take, drop, length-append, length-drop}
use lib.Seq.{length-take-le, take_all}
use Rattle.bytes_le.specs.Bytes.{Bytes, put_bytes, same}
use Rattle.bytes_le.proofs.Laws.{put-put}
use Rattle.blocks.specs.Bounds.{Bounded}
use Rattle.blocks.specs.Sealing.{◌⊕₈◌, absorb, absorb_associated, absorb_message, decrypt, encrypt, expected_tag, finish, keyed, message_of, message_part}
use Rattle.blocks.specs.Sealing.{ready, ready_of, sealed, tag, tag_part, xor_with}
use Rattle.blocks.specs.Ways.{Takes}
use Rattle.blocks.specs.declared.Sizes.{Sizes}
use Rattle.blocks.proofs.Blocks.{length-encrypt}
use Rattle.blocks.proofs.Opening.{length-keyed, length-ready, length-tag}
use Rattle.blocks.proofs.Steps.{padded}
use Rattle.blocks.specs.WayLaws.{length-xor}

-- a block, by its words
pub whole : (q : Sizes) → Bounded q → 8 * (q.block / 8) ≡ q.block
whole q h = let e : q.block % 8 ≡ 0 = h.whole in omega arith

-- what stands before the message: the state, and what is put out, where d begins with the secret number, or with the sealed one
pub ready-data : (q : Sizes) → Bounded q → {taken : Bytes → Bytes → Bytes} → Takes taken → (k n a d o : Bytes) {o₁ v b x u : Bytes} → q.secret ≤ length d
    → v ≡ keyed k n → b ≡ xor_with v (taken v (take q.secret d)) → o₁ ≡ put_bytes o 0 (v ⊕₈ take q.secret d) → x ≡ finish b q.secret 0
    → u ≡ absorb_associated (8 * (q.block / 8)) x a
    → (u ≡ ready q.block (keyed k n) (taken (keyed k n) (take q.secret d)) a) × (o₁ ≡ put_bytes o 0 (keyed k n ⊕₈ take q.secret d))
unfolding ready
ready-data q hq {taken} laws k n a d o {v = v} {b = b} {x = x} h ev eb eo ex eu =
    let c : Bytes = take q.secret d in
    let hs : q.secret ≤ 16 = hq.secret in
    let lc : length c ≡ q.secret = length-take-le q.secret d h in
    let lv : length v ≡ 160 = ap length ev ∙ length-keyed k n in (
      eu ∙ ap₂ (λ (r : ℕ) (x : Bytes). absorb_associated r x a) (whole q hq)
          (padded v (taken v c) b q.secret 0 x (laws.sized v c (omega arith) ∙ lc) (omega arith) eb ex ∙ ap (λ (v : Bytes). absorb v (taken v c) 0) ev),
      eo ∙ ap (λ (v : Bytes). put_bytes o 0 (v ⊕₈ c)) ev,
    )

-- the three runs of bytes of a sealed message touch
pub sealed-runs : (q : Sizes) → Bounded q → (k n s a m o : Bytes) {o₁ o₂ o₃ u w : Bytes} → length s ≡ q.secret → q.secret + (length m + 16) ≤ length o
    → u ≡ ready q.block (keyed k n) s a → o₁ ≡ put_bytes o 0 (keyed k n ⊕₈ s)
    → w ≡ absorb_message (8 * (q.block / 8)) u m → o₂ ≡ put_bytes o₁ q.secret (encrypt (8 * (q.block / 8)) u m)
    → o₃ ≡ put_bytes o₂ (q.secret + length m) (tag w)
    → o₃ ≡ put_bytes o 0 (sealed q k n s a m)
unfolding sealed
sealed-runs q hq k n s a m o {o₁} ls ho eu e₁ ew e₂ e₃ =
    let u' : Bytes = ready q.block (keyed k n) s a in
    let c₀ : Bytes = keyed k n ⊕₈ s in
    let c₁ : Bytes = encrypt q.block u' m in
    let t : Bytes = tag (absorb_message q.block u' m) in
    let hs : q.secret ≤ 16 = hq.secret in
    let lk : length (keyed k n) ≡ 160 = length-keyed k n in
    let l₀ : length c₀ ≡ length s = length-xor (keyed k n) s (omega arith) in
    let l₁ : length c₁ ≡ length m = length-encrypt q.block hq.some hq.block m u' (length-ready q hq.some hq.block (omega arith) (keyed k n) s a) in
    let lt : length t ≡ 16 = length-tag q hq.some hq.block (omega arith) u' m in
    let l₂ : length (c₀ ++ c₁) ≡ length s + length m = length-append c₀ c₁ ∙ ap₂ (λ (i j : ℕ). i + j) l₀ l₁ in
    let f₂ = e₂ ∙ ap₂ (λ (r : ℕ) (u : Bytes). put_bytes o₁ q.secret (encrypt r u m)) (whole q hq) eu
    ∙ ap (λ (o : Bytes). put_bytes o q.secret c₁) e₁ ∙ put-put o 0 c₀ c₁ q.secret (omega arith) (omega arith) in
    let ew' = ew ∙ ap₂ (λ (r : ℕ) (u : Bytes). absorb_message r u m) (whole q hq) eu in
    e₃ ∙ ap₂ (λ (o w : Bytes). put_bytes o (q.secret + length m) (tag w)) f₂ ew'
    ∙ put-put o 0 (c₀ ++ c₁) t (q.secret + length m) (omega arith) (omega arith)
    ∙ ap (put_bytes o 0) (append_assoc c₀ c₁ t)

-- ---- opening
-- the tag test, in the terms of the code: w is the state after the message, b whether its tag is the one at the end of c
pub tag_at : (q : Sizes) → Bounded q → (c u w : Bytes) (b : Bool) (k l : ℕ) → q.secret + 16 ≤ length c → k ≡ l → l ≡ length c - (q.secret + 16)
    → w ≡ absorb_message (8 * (q.block / 8)) u (decrypt (8 * (q.block / 8)) u (take k (drop q.secret c)))
    → b ≡ same (take 16 w) (take 16 (drop (q.secret + l) c))
    → b ≡ same (tag (absorb_message q.block u (decrypt q.block u (message_part q c)))) (tag_part c)
tag_at q hq c u w b k l h ek el ew eb =
    let e : q.secret + l ≡ length c - 16 = omega arith in
    eb
    ∙ ap₂ same (ap (take 16) (ew ∙ ap₂ (λ (r k : ℕ). absorb_message r u (decrypt r u (take k (drop q.secret c)))) (whole q hq) (ek ∙ el)))
    (ap (λ (i : ℕ). take 16 (drop i c)) e ∙ take_all 16 (drop (length c - 16) c) (rw length-drop (omega arith)))

-- the tag that belongs to what c holds, where u is the state after the associated data
pub agrees : (q : Sizes) (k n a c u : Bytes) (b : Bool) → u ≡ ready_of q k n a c
    → b ≡ same (tag (absorb_message q.block u (decrypt q.block u (message_part q c)))) (tag_part c) → b ≡ same (expected_tag q k n a c) (tag_part c)
unfolding expected_tag message_of
agrees q k n a c u b eu eb =
    eb ∙ ap (λ (u : Bytes). same (tag (absorb_message q.block u (decrypt q.block u (message_part q c)))) (tag_part c)) eu
