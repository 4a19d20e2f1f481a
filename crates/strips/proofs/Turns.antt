-- What a turn of each loop over a strip does, and how the parts of a strip join.
-- Assumes nothing.
use mathlib.Core.Path.{◌≡◌, sym, ap, ap₂, ◌∙◌}
use mathlib.Core.List.{[], ◌∷◌, ◌++◌}
use Prim.Native.Nat.{ℕ, ◌+◌, ◌-◌, ◌≤◌, ◌<◌}
use native.Mathlib.Numerals.{add-one}
use native.Mathlib.Omega.{arith}
use lib.Bits.{bit_xor}
use lib.ListN.{length, get_or, take, drop, length-drop, take-append-drop}
use lib.Seq.{drop-drop, length-take-le, take_all, take-suc}
use Rattle.bytes_le.specs.Bytes.{Bytes, put_bytes}
use Rattle.bytes_le.proofs.Laws.{put-put, put_whole}
use Rattle.blocks.specs.Sealing.{◌⊕₈◌, xor_at, xor_with, absorb, finish}
use Rattle.blocks.proofs.Steps.{padded}
use Rattle.blocks.specs.WayLaws.{length-xor}
use Rattle.strips.specs.Machine.{Held, held, make_room, fed, fed_bytes}
use Rattle.strips.proofs.Machine.{across, bytes-join, bytes-last, bytes-more, fed-join, fed-last, fed-more, length-fed, room_within}

-- ---- a state that is loaded from its bytes, and its bytes stored where others stood
pub loaded : (b t : Bytes) → t ≡ take 160 b → length b ≡ 160 → t ≡ b
loaded b t e l = e ∙ take_all 160 b (omega arith)

pub stored : (b c t : Bytes) → c ≡ put_bytes b 0 t → length t ≡ 160 → length b ≡ 160 → c ≡ t
stored b c t e l h = e ∙ put_whole b t (omega arith)

-- ---- one byte more within a block: j bytes of m are done, and b holds them
module _ (m : Bytes) (j : ℕ) (h : j < length m) (v : Bytes) (fill : ℕ) (hf : fill + j < 128) (b : Bytes)
    (e : held b (fill + j) ≡ fed 128 (held v fill) (take j m)) where
  abbrev x : ℕ
  x = get_or m j 0

  snoc : take (j + 1) m ≡ take j m ++ (x ∷ [])
  snoc = ap (λ (k : ℕ). take k m) (add-one j) ∙ take-suc m j 0 h

  at_b : make_room 128 (fed 128 (held v fill) (take j m)) ≡ held b (fill + j)
  at_b = ap (make_room 128) (sym e) ∙ room_within 128 (omega arith) b (fill + j) hf

  pub byte-fed : held (xor_at b (fill + j) x) (fill + (j + 1)) ≡ fed 128 (held v fill) (take (j + 1) m)
  byte-fed =
      let n : fill + (j + 1) ≡ fill + j + 1 = omega arith in
      ap (held (xor_at b (fill + j) x)) n
      ∙ ap (λ (k : Held). held (xor_at k.state k.fill x) (k.fill + 1)) (sym at_b)
      ∙ sym (ap (fed 128 (held v fill)) snoc ∙ fed-join 128 (held v fill) (take j m) (x ∷ []))

  pub byte-out : fed_bytes 128 (held v fill) (take (j + 1) m) ≡ fed_bytes 128 (held v fill) (take j m) ++ (bit_xor (get_or b (fill + j) 0) x ∷ [])
  byte-out =
      ap (fed_bytes 128 (held v fill)) snoc
      ∙ bytes-join 128 (held v fill) (take j m) (x ∷ [])
      ∙ ap (λ (k : Held). fed_bytes 128 (held v fill) (take j m) ++ (bit_xor (get_or k.state k.fill 0) x ∷ [])) at_b

-- ---- one full block more, at index at of m: w has it xored in, and t is the state after it
module _ (m : Bytes) (at : ℕ) (h : 128 < length m - at) (s w t : Bytes) (hs : length s ≡ 160) (ew : w ≡ xor_with s (take 128 (drop at m)))
    (et : t ≡ finish w 128 1) where
  longer : 128 < length (drop at m)
  longer = rw length-drop h

  length-block : length (take 128 (drop at m)) ≡ 128
  length-block = length-take-le 128 (drop at m) (omega (arith, longer))

  after : held t 0 ≡ held (absorb s (take 128 (drop at m)) 1) 0
  after = ap (λ (t : Bytes). held t 0) (padded s (take 128 (drop at m)) w 128 1 t length-block (omega arith) ew et)

  pub block-fed : fed 128 (held t 0) (drop (at + 128) m) ≡ fed 128 (held s 0) (drop at m)
  block-fed =
      ap₂ (fed 128) after (sym (drop-drop 128 at m)) ∙ sym (fed-more 128 (omega arith) (omega arith) s hs (drop at m) longer)

  -- what is put from here on is what was to be put
  pub block-put : (o o₂ : Bytes) → length m ≤ length o → o₂ ≡ put_bytes o at (s ⊕₈ take 128 (drop at m))
      → put_bytes o₂ (at + 128) (fed_bytes 128 (held t 0) (drop (at + 128) m)) ≡ put_bytes o at (fed_bytes 128 (held s 0) (drop at m))
  block-put o o₂ ho e =
      let w : Bytes = s ⊕₈ take 128 (drop at m) in
      let lt = length-block in
      let lw : length w ≡ 128 = length-xor s (take 128 (drop at m)) (omega arith) ∙ lt in
      let z : Bytes = fed_bytes 128 (held t 0) (drop (at + 128) m) in
      let lz : length z ≡ length m - (at + 128) = length-fed 128 (held t 0) (drop (at + 128) m) ∙ length-drop (at + 128) m in
      ap (λ (o : Bytes). put_bytes o (at + 128) z) e
      ∙ put-put o at w z (at + 128) (omega arith) (omega arith)
      ∙ ap (put_bytes o at)
      (ap₂ (λ (k : Held) (d : Bytes). w ++ fed_bytes 128 k d) after (sym (drop-drop 128 at m)) ∙ sym (bytes-more 128 (omega arith) (omega arith) s hs (drop at m) longer))

-- ---- the last block, of k bytes, waits
module _ (m : Bytes) (at k : ℕ) (ek : k ≡ length m - at) (h : k ≤ 128) (s : Bytes) (hs : length s ≡ 160) where
  all : take k (drop at m) ≡ drop at m
  all = take_all k (drop at m) (rw length-drop (omega arith))

  short : length (drop at m) ≤ 128
  short = rw length-drop (omega arith)

  -- t is the state with it; t's bytes are put over b, and the ciphertext into o
  pub last : (b b₁ o o₁ t : Bytes) → length b ≡ 160 → length t ≡ 160 → t ≡ xor_with s (take k (drop at m)) → b₁ ≡ put_bytes b 0 t
      → o₁ ≡ put_bytes o at (s ⊕₈ take k (drop at m))
      → (b₁ ≡ (fed 128 (held s 0) (drop at m)).state) × (o₁ ≡ put_bytes o at (fed_bytes 128 (held s 0) (drop at m)))
  last b b₁ o o₁ t lb lt et eb eo = (
    stored b b₁ t eb lt lb ∙ et ∙ ap (xor_with s) all ∙ ap (λ (k : Held). k.state) (sym (fed-last 128 (omega arith) (omega arith) s hs (drop at m) short)),
    eo ∙ ap (put_bytes o at) (ap (λ (b : Bytes). s ⊕₈ b) all ∙ sym (bytes-last 128 (omega arith) (omega arith) s hs (drop at m) short)),
  )

-- ---- a strip that fills the block that waits, and goes on: b holds the full block
module _ (v : Bytes) (fill : ℕ) (m : Bytes) (room : ℕ) (er : fill + room ≡ 128) (h : room < length m) (b w : Bytes)
    (eb : held b (fill + room) ≡ fed 128 (held v fill) (take room m)) (ew : w ≡ finish b 128 1) where
  full : fed 128 (held v fill) (take room m) ≡ held b 128
  full = sym eb ∙ ap (held b) er

  some : 0 < length (drop room m)
  some = rw length-drop (omega arith)

  fresh : held (finish b 128 1) 0 ≡ held w 0
  fresh = ap (λ (w : Bytes). held w 0) (sym ew)

  pub strip-fed : fed 128 (held w 0) (drop room m) ≡ fed 128 (held v fill) m
  strip-fed =
      sym
      (ap (fed 128 (held v fill)) (sym (take-append-drop room m))
      ∙ fed-join 128 (held v fill) (take room m) (drop room m)
      ∙ ap (λ (k : Held). fed 128 k (drop room m)) full
      ∙ (across 128 (omega arith) b (drop room m) some).0
      ∙ ap (λ (k : Held). fed 128 k (drop room m)) fresh)

  pub strip-put : (o o₁ : Bytes) → length m ≤ length o → o₁ ≡ put_bytes o 0 (fed_bytes 128 (held v fill) (take room m))
      → put_bytes o₁ room (fed_bytes 128 (held w 0) (drop room m)) ≡ put_bytes o 0 (fed_bytes 128 (held v fill) m)
  strip-put o o₁ ho e =
      let y : Bytes = fed_bytes 128 (held v fill) (take room m) in
      let z : Bytes = fed_bytes 128 (held w 0) (drop room m) in
      let ly : length y ≡ room = length-fed 128 (held v fill) (take room m) ∙ length-take-le room m (omega arith) in
      let lz : length z ≡ length m - room = length-fed 128 (held w 0) (drop room m) ∙ length-drop room m in
      ap (λ (o : Bytes). put_bytes o room z) e
      ∙ put-put o 0 y z room (omega arith) (omega arith)
      ∙ ap (put_bytes o 0)
      (sym
      (ap (fed_bytes 128 (held v fill)) (sym (take-append-drop room m))
      ∙ bytes-join 128 (held v fill) (take room m) (drop room m)
      ∙ ap (λ (k : Held). y ++ fed_bytes 128 k (drop room m)) full
      ∙ ap (λ (l : Bytes). y ++ l) ((across 128 (omega arith) b (drop room m) some).1 ∙ ap (λ (k : Held). fed_bytes 128 k (drop room m)) fresh)))
