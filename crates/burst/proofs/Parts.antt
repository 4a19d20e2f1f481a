-- The laws of a sealed part: its length, opening after sealing, sealing after opening (so that only what was sealed opens), and bytes stay bytes. Then
-- what the calls of `icepole` answer of it, and how often its sealing calls the permutation. The laws of ICEPOLE-128 are used here and nowhere above.
-- Assumes nothing.
use mathlib.Core.Bool.{Bool, true, false, cond, not}
use mathlib.Core.List.{[], ◌++◌, append-nil}
use mathlib.Core.Path.{◌≡◌, refl, sym, ap, ap₂, ◌∙◌}
use Prim.Native.Nat.{ℕ, suc, ◌+◌, ◌-◌, ◌≤◌}
use native.Mathlib.Omega.{arith}
use borrow.Author.Tests.{le-leb}
use lib.Dec.{eqb}
use lib.ListN.{length, take, drop, replicate, length-replicate}
use Rattle.bytes_le.specs.Bytes.{AllBytes, Bytes, put_bytes}
use Rattle.bytes_le.proofs.Laws.{put-part, put-put, put_whole, length-put}
use Rattle.icepole.specs.declared.Variant.TheVariants.{Icepole128}
use Rattle.icepole.specs.Variants.{sizes}
use Rattle.blocks.specs.Sealing.{blocks_before, sealed, secret_of, message_of}
use Rattle.std.specs.Prelude.{Result, Ok, Err, IsOk}
use Rattle.std.proofs.Common.{rules}
use Rattle.refusals.specs.declared.Refusal.{Refusal}
use Rattle.refusals.specs.Numbers.{number_of}
use Rattle.refusals.proofs.Laws.{positive}
use Rattle.icepole.specs.Answers.{Sealed, sealed_as, seal_answer, Opened, tag_agrees, opened_answer, seal_refusal, seal_output, open_refusal, open_answer, open_output, fits_output}
use Rattle.icepole.proofs.Numbers.{seal-0, open-0, open-decides}
use Rattle.blocks.proofs.Opening.{opened, length-sealed, secret-of-sealed, message-of-sealed, tag-of-sealed, length-secret-of, length-message-of, seal-open}
use Rattle.icepole.proofs.OpenedBytes.{secret-bytes, message-bytes}
use Rattle.padded_blocks.specs.PaddedBlocks.{calls_of}
use Rattle.padded_blocks.proofs.Counts.{seal-blocks, seal-calls}
use Rattle.burst.specs.declared.Edition.{Edition}
use Rattle.burst.specs.declared.Name.{Name}
use Rattle.burst.specs.Editions.{max_header}
use Rattle.burst.specs.Parts.{seal_length, nonce_of, part_blocks, part_calls, seal_part, part_agrees, part_mark, part_body, part_refusal, part_answer, part_output, key_length, mark_length}
use Rattle.burst.specs.Layout.{Identity, max_picture, max_index, entry_bytes, record_bytes, closing_seal}
use Rattle.burst.proofs.Puts.{length-nonce}

-- a call with number 0 was done
done : {A : Type 0} (r : Result A Refusal) → number_of r ≡ 0 → IsOk r
done (Ok x) h = search rules
done (Err x) h = absurd (let p = positive x in omega (arith, p, h))

module _ (e : Edition) (key : Bytes) (name : Name) (shot : ℕ) where
  -- ---- what was sealed
  module _ (mark ad body : Bytes) (h : length mark ≡ mark_length) where
    pub length_part : length (seal_part e key name shot mark ad body) ≡ length body + seal_length
    unfolding seal_part
    length_part =
        let l : length (sealed (sizes Icepole128) key (nonce_of e name shot) mark ad body) ≡ 16 + (length body + 16) =
        length-sealed (sizes Icepole128) (omega arith) (omega arith) (omega arith) key (nonce_of e name shot) mark ad body h in
        omega arith

    pub part-agrees : part_agrees e key name shot ad (seal_part e key name shot mark ad body) ≡ true
    unfolding seal_part part_agrees tag_agrees
    part-agrees = tag-of-sealed (sizes Icepole128) (omega arith) (omega arith) (omega arith) key (nonce_of e name shot) mark ad body h

    pub part-mark : part_mark e key name shot ad (seal_part e key name shot mark ad body) ≡ mark
    unfolding seal_part part_mark
    part-mark = secret-of-sealed (sizes Icepole128) (omega arith) (omega arith) (omega arith) key (nonce_of e name shot) mark ad body h

    pub part_body_lem : part_body e key name shot ad (seal_part e key name shot mark ad body) ≡ body
    unfolding seal_part part_body
    part_body_lem = message-of-sealed (sizes Icepole128) (omega arith) (omega arith) (omega arith) key (nonce_of e name shot) mark ad body h

  -- ---- what is opened
  module _ (ad c : Bytes) where
    module _ (h : seal_length ≤ length c) where
      pub length-mark : length (part_mark e key name shot ad c) ≡ mark_length
      unfolding part_mark
      length-mark = length-secret-of (sizes Icepole128) (omega arith) (omega arith) (omega arith) key (nonce_of e name shot) ad c (omega arith)

      pub length-body : length (part_body e key name shot ad c) ≡ length c - seal_length
      unfolding part_body
      length-body = length-message-of (sizes Icepole128) (omega arith) (omega arith) (omega arith) key (nonce_of e name shot) ad c (omega arith)

      pub part-sealed : part_agrees e key name shot ad c ≡ true
          → c ≡ seal_part e key name shot (part_mark e key name shot ad c) ad (part_body e key name shot ad c)
      unfolding seal_part part_agrees part_mark part_body tag_agrees opened
      part-sealed agree =
          let l : 16 + 16 ≤ length c = omega arith in
          seal-open (sizes Icepole128) (omega arith) (omega arith) (omega arith) key (nonce_of e name shot) ad c _ _
          (simp (le-leb (16 + 16) (length c) l, agree))

    module _ (h : AllBytes c) where
      pub mark-bytes : AllBytes (part_mark e key name shot ad c)
      unfolding part_mark
      mark-bytes = secret-bytes (sizes Icepole128) key (nonce_of e name shot) ad c h

      pub body_bytes : AllBytes (part_body e key name shot ad c)
      unfolding part_body
      body_bytes = message-bytes (sizes Icepole128) key (nonce_of e name shot) ad c h

  -- ---- what the calls of `icepole` leave and answer, where every length is right
  module _ (key16 : length key ≡ key_length) (nonce : Bytes) (is : nonce ≡ nonce_of e name shot) (ad : Bytes) (fits : length ad ≤ max_header + max_index) where
    nonce16 : length nonce ≡ 16
    nonce16 = ap length is ∙ length-nonce e name shot

    module _ (mark body out : Bytes) (hm : length mark ≡ mark_length) (hb : length body ≤ max_picture) (ho : length body + seal_length ≤ length out) where
      seals : 0 ≡ seal_refusal Icepole128 key nonce mark ad body out
      unfolding seal_refusal
      seals =
          seal-0 (sizes Icepole128) (length key) (length nonce) (length mark) (length ad) (length body) (length out) key16 nonce16 hm (omega arith) (omega arith)
          (omega arith)

      pub part-done : (r : Result ℕ Refusal) → sealed_as r ≡ seal_answer Icepole128 key nonce mark ad body out → IsOk r
      unfolding seal_answer
      part-done r h = done r (ap (λ (x : Sealed). x.refusal) h ∙ sym seals)

      pub part-put : seal_output Icepole128 key nonce mark ad body out ≡ put_bytes out 0 (seal_part e key name shot mark ad body)
      unfolding seal_output seal_part
      part-put = (simp (sym seals)) ∙ ap (λ (n : Bytes). put_bytes out 0 (sealed (sizes Icepole128) key n mark ad body)) is

    module _ (c : Bytes) (least : seal_length ≤ length c) (most : length c ≤ max_picture + seal_length) where
      swap : (b : Bool) → ◌≡◌ {A = ℕ} (cond (not b) 7 0) (cond b 0 7)
      swap true = refl
      swap false = refl

      decided : (holds : Bool) → holds ≡ true → open_refusal Icepole128 key nonce ad c holds ≡ part_refusal e key name shot ad c
      unfolding open_refusal part_refusal part_agrees
      decided holds h =
          open-decides (sizes Icepole128) (length key) (length nonce) (length ad) (length c) holds (tag_agrees (sizes Icepole128) key nonce ad c)
          (sym (open-0 (sizes Icepole128) (length key) (length nonce) (length ad) (length c) holds key16 nonce16 (omega arith) (omega arith) (omega arith) h))
          ∙ swap (tag_agrees (sizes Icepole128) key nonce ad c)
          ∙ ap (λ (n : Bytes). cond (tag_agrees (sizes Icepole128) key n ad c) 0 7) is

      answered : (holds : Bool) → holds ≡ true → open_answer Icepole128 key nonce ad c holds ≡ part_answer e key name shot ad c
      unfolding open_answer part_answer part_mark
      answered holds h =
          ap₂ (λ (num : ℕ) (n : Bytes). opened_answer num (length c - seal_length) (secret_of (sizes Icepole128) key n c)) (decided holds h) is

      pub part-verified : open_answer Icepole128 key nonce ad c true ≡ part_answer e key name shot ad c
      part-verified = answered true refl

      module _ (out : Bytes) (room : length c ≤ length out + seal_length) where
        holds-out : fits_output Icepole128 c out ≡ true
        holds-out = let l : length c - 32 ≤ length out = omega arith in le-leb (length c - 32) (length out) l

        pub part-opened : open_answer Icepole128 key nonce ad c (fits_output Icepole128 c out) ≡ part_answer e key name shot ad c
        part-opened = answered _ holds-out

        pub part-written : open_output Icepole128 key nonce ad c (fits_output Icepole128 c out) out ≡ part_output e key name shot ad c out
        unfolding open_output part_output part_body
        part-written =
            ap₂ (λ (num : ℕ) (n : Bytes). cond (eqb num 0) (put_bytes out 0 (message_of (sizes Icepole128) key n ad c)) out) (decided _ holds-out) is

  -- ---- what the answer tells of the tag
  module _ (ad c : Bytes) (r : Opened) (is : r ≡ part_answer e key name shot ad c) where
    number_is : r.refusal ≡ cond (part_agrees e key name shot ad c) 0 7
    unfolding part_answer part_refusal
    number_is = ap (λ (x : Opened). x.refusal) is

    pub answer-agrees : eqb r.refusal 0 ≡ part_agrees e key name shot ad c
    answer-agrees = ap (λ (n : ℕ). eqb n 0) number_is ∙ by (part_agrees e key name shot ad c)
      where
        by : (b : Bool) → eqb (cond b 0 7) 0 ≡ b
        by true = refl
        by false = refl

    pub answer-stands : r.refusal ≡ 0 → part_agrees e key name shot ad c ≡ true
    answer-stands h = sym answer-agrees ∙ ap (λ (n : ℕ). eqb n 0) h

    pub answer-differs : (r.refusal ≡ 0 → ⊥) → part_agrees e key name shot ad c ≡ false
    answer-differs h = by (part_agrees e key name shot ad c) refl
      where
        by : (b : Bool) → part_agrees e key name shot ad c ≡ b → part_agrees e key name shot ad c ≡ false
        by true g = absurd (h (number_is ∙ ap (λ (x : Bool). cond x 0 7) g))
        by false g = g

    pub answer-mark : part_agrees e key name shot ad c ≡ true → seal_length ≤ length c → r.secret ≡ part_mark e key name shot ad c
    unfolding part_answer part_refusal
    answer-mark h l =
        let z = length-replicate {A = ℕ} 16 0 in
        let m = length-mark ad c l in
        ap (λ (x : Opened). x.secret) is ∙ simp h (put_whole (replicate 16 0) (part_mark e key name shot ad c) (omega arith))

  pub part-output : (ad c out : Bytes) → part_agrees e key name shot ad c ≡ true → part_output e key name shot ad c out ≡ put_bytes out 0 (part_body e key name shot ad c)
  unfolding part_output part_refusal
  part-output ad c out h = simp h

  -- ---- a buffer whose part from `at` on was lent for a sealed part
  pub part_at : (mark ad body b t ys : Bytes) (at u : ℕ) → length mark ≡ mark_length → at + (length body + seal_length) ≤ length b → t ≡ drop at b → u ≡ length b - at
      → ys ≡ put_bytes t 0 (seal_part e key name shot mark ad body)
      → take at b ++ (ys ++ drop u (drop at b)) ≡ put_bytes b at (seal_part e key name shot mark ad body)
  part_at mark ad body b t ys at u hm hb et eu ey =
      let l = length_part mark ad body hm in
      ap (λ (r : Bytes). take at b ++ (r ++ drop u (drop at b))) (ey ∙ ap (λ (r : Bytes). put_bytes r 0 (seal_part e key name shot mark ad body)) et)
      ∙ put-part b at (seal_part e key name shot mark ad body) u (omega arith) eu

-- the record, as `keep` lays it
pub record-at : (e : Edition) (key : Bytes) (name : Name) (shot : ℕ) (stamp a picture b t ys : Bytes) (at u : ℕ) → a ≡ entry_bytes shot 0 at (length picture)
    → length stamp ≡ mark_length → at + length picture + seal_length ≤ length b → t ≡ drop at b → u ≡ length b - at
    → ys ≡ put_bytes t 0 (seal_part e key name shot stamp (a ++ []) picture)
    → take at b ++ (ys ++ drop u (drop at b)) ≡ put_bytes b at (record_bytes e key name shot at stamp picture)
unfolding record_bytes
record-at e key name shot stamp a picture b t ys at u ea hs hb et eu ey =
    part_at e key name shot stamp (a ++ []) picture b t ys at u hs (omega arith) et eu ey
    ∙ ap (λ (x : Bytes). put_bytes b at (seal_part e key name shot stamp x picture)) (append-nil a ∙ ea)

-- header, index and closing seal, as `close` lays them
pub closing_at : (e : Edition) (key : Bytes) (i : Identity) (h x b b₁ b₂ t ys : Bytes) (at end u : ℕ) → length i.site_mark ≡ mark_length
    → end ≡ at + length x → length h ≤ at → end + seal_length ≤ length b
    → b₁ ≡ put_bytes b 0 h → b₂ ≡ put_bytes b₁ at x → t ≡ drop end b₂ → u ≡ length b₂ - end
    → ys ≡ put_bytes t 0 (seal_part e key i.name 0 i.site_mark (h ++ x) [])
    → take end b₂ ++ (ys ++ drop u (drop end b₂)) ≡ put_bytes (put_bytes b 0 h) at (x ++ closing_seal e key i h x)
unfolding closing_seal
closing_at e key i h x b b₁ b₂ t ys at end u hs ee hl hb e₁ e₂ et eu ey =
    let s = seal_part e key i.name 0 i.site_mark (h ++ x) [] in
    let l₁ : length b₁ ≡ length b = ap length e₁ ∙ length-put b 0 h (omega arith) in
    let l₂ : length b₂ ≡ length b = ap length e₂ ∙ length-put b₁ at x (omega arith) ∙ l₁ in
    let lc : length s ≡ 0 + seal_length = length_part e key i.name 0 i.site_mark (h ++ x) [] hs in
    part_at e key i.name 0 i.site_mark (h ++ x) [] b₂ t ys end u hs (omega arith) et eu ey
    ∙ ap (λ (r : Bytes). put_bytes r end s) (e₂ ∙ ap (λ (r : Bytes). put_bytes r at x) e₁)
    ∙ put-put (put_bytes b 0 h) at x s end ee (rw (length-put b 0 h (omega arith)) (omega arith))

-- ---- how often sealing a part calls the permutation
-- one P12, and a P6 for each padded block
pub part-calls : (e : Edition) (key : Bytes) (name : Name) (shot : ℕ) (mark ad body : Bytes)
    → (calls_of 12 (part_calls e key name shot mark ad body) ≡ 1) × (calls_of 6 (part_calls e key name shot mark ad body) ≡ part_blocks e mark ad body)
unfolding part_calls part_blocks
part-calls e key name shot mark ad body = seal-calls (sizes Icepole128).block key (nonce_of e name shot) mark ad body

-- lengths alone decide how many blocks there are
pub part-blocks : (e : Edition) (mark ad body mark' ad' body' : Bytes) → length ad ≡ length ad' → length body ≡ length body'
    → part_blocks e mark ad body ≡ part_blocks e mark' ad' body'
unfolding part_blocks
part-blocks e mark ad body mark' ad' body' ea eb =
    seal-blocks (sizes Icepole128).block mark ad body
    ∙ ap₂ (λ (a b : ℕ). suc (suc (blocks_before (sizes Icepole128).block a) + suc (blocks_before (sizes Icepole128).block b))) ea eb
    ∙ sym (seal-blocks (sizes Icepole128).block mark' ad' body')
