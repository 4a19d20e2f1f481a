-- The seals of a plain burst make its file; how long that is, and how often they call the permutation.
-- Assumes nothing.
use mathlib.Core.List.{List, [], ◌∷◌, ◌++◌, append-nil, append_assoc}
use mathlib.Core.Path.{◌≡◌, refl, sym, ap, ap₂, ◌∙◌}
use Prim.Native.Nat.{ℕ, ◌+◌, ◌*◌}
use native.Mathlib.Omega.{arith}
use lib.ListN.{length, length-append}
use Rattle.bytes_le.specs.Bytes.{Bytes}
use Rattle.padded_blocks.specs.PaddedBlocks.{calls_of}
use Rattle.padded_blocks.proofs.Counts.{calls-append}
use Rattle.burst.specs.declared.Edition.{Edition}
use Rattle.burst.specs.declared.Name.{Name}
use Rattle.burst.specs.Editions.{Known}
use Rattle.burst.specs.Parts.{mark_length, part_calls, seal_part}
use Rattle.burst.specs.Layout.{record_bytes, closing_seal}
use Rattle.burst.proofs.Puts.{length-header}
use Rattle.burst.proofs.Parts.{part-calls}
use Rattle.trace.specs.Plain.{Firing, kept, gap, pictures, gaps, records, Plain, used_of, total_of, header_of, index_of, file_of}
use Rattle.trace.specs.Seals.{Seal, record_seals, last_seal, seals_of, sealed_bytes, seals_calls, seals_blocks, burst_calls, burst_blocks, FileOfSeals}
use Rattle.trace.proofs.Shots.{Valid, length-index, length-records, length-closing}

-- ---- the file
records-sealed : (e : Edition) (key : Bytes) (name : Name) (n at : ℕ) (xs : List Firing)
    → records e key name n at xs ≡ sealed_bytes e key name (record_seals n at xs)
unfolding record_bytes
records-sealed e key name n at [] = refl
records-sealed e key name n at (kept s p ∷ xs) = ap (λ (l : Bytes). record_bytes e key name n at s p ++ l) (records-sealed e key name (n + 1) _ xs)
records-sealed e key name n at (gap ∷ xs) = records-sealed e key name (n + 1) at xs

sealed-append : (e : Edition) (key : Bytes) (name : Name) (xs ys : List Seal) → sealed_bytes e key name (xs ++ ys) ≡ sealed_bytes e key name xs ++ sealed_bytes e key name ys
sealed-append e key name [] ys = refl
sealed-append e key name (x ∷ xs) ys =
    let s = seal_part e key name x.shot x.mark x.associated x.body in
    ap (λ (l : Bytes). s ++ l) (sealed-append e key name xs ys) ∙ sym (append_assoc s (sealed_bytes e key name xs) (sealed_bytes e key name ys))

pub file-of-seals : FileOfSeals
unfolding closing_seal
file-of-seals e p =
    let xs = record_seals 1 e.header p.shots in
    sealed-append e p.key p.identity.name xs (last_seal e p ∷ [])
    ∙ ap₂ (λ (a b : Bytes). a ++ b) (sym (records-sealed e p.key p.identity.name 1 e.header p.shots)) (append-nil _)

pub length-file : (e : Edition) → Known e → (p : Plain) → Valid p.shots → length p.identity.site_mark ≡ mark_length → length (file_of e p) ≡ total_of e p
unfolding file_of total_of header_of index_of
length-file e w p v s =
    let h : length (header_of e p) ≡ e.header =
    length-header e w p.identity.name (length p.shots) (pictures p.shots) (gaps p.shots) (used_of e p) in
    let r = length-records e p.key p.identity.name 1 e.header p.shots v in
    let x : length (index_of e p) ≡ 12 * pictures p.shots = length-index 1 e.header p.shots in
    let c = length-closing e p.key p.identity (header_of e p) (index_of e p) s in
    simp length-append (omega arith)

-- ---- the calls of the permutation
module _ (e : Edition) (key : Bytes) (name : Name) where
  seals-calls : (xs : List Seal) → (calls_of 12 (seals_calls e key name xs) ≡ length xs) × (calls_of 6 (seals_calls e key name xs) ≡ seals_blocks e xs)
  seals-calls [] = (refl, refl)
  seals-calls (x ∷ xs) =
      let h = seals-calls xs in
      let c = part_calls e key name x.shot x.mark x.associated x.body in
      let g = part-calls e key name x.shot x.mark x.associated x.body in
      let a₁₂ = calls-append 12 c (seals_calls e key name xs) in
      let a₆ = calls-append 6 c (seals_calls e key name xs) in
      (omega arith, omega arith)

blocks-append : (e : Edition) (xs ys : List Seal) → seals_blocks e (xs ++ ys) ≡ seals_blocks e xs + seals_blocks e ys
blocks-append e [] ys = omega arith
blocks-append e (x ∷ xs) ys = let h = blocks-append e xs ys in omega arith

length-seals : (n at : ℕ) (xs : List Firing) → length (record_seals n at xs) ≡ pictures xs
length-seals n at [] = refl
length-seals n at (kept s p ∷ xs) = let h = length-seals (n + 1) (at + length p + 32) xs in omega arith
length-seals n at (gap ∷ xs) = length-seals (n + 1) at xs

module _ (e : Edition) (p : Plain) where
  -- a P12 for each picture, and one for the closing seal
  pub burst-p12 : calls_of 12 (burst_calls e p) ≡ pictures p.shots + 1
  unfolding burst_calls
  burst-p12 =
      (seals-calls e p.key p.identity.name (seals_of e p)).0
      ∙ length-append (record_seals 1 e.header p.shots) (last_seal e p ∷ [])
      ∙ ap (λ (k : ℕ). k + 1) (length-seals 1 e.header p.shots)

  -- a P6 for each padded block
  pub burst-p6 : calls_of 6 (burst_calls e p) ≡ burst_blocks e p
  unfolding burst_calls burst_blocks
  burst-p6 = (seals-calls e p.key p.identity.name (seals_of e p)).1

  pub burst-blocks : burst_blocks e p ≡ seals_blocks e (record_seals 1 e.header p.shots) + seals_blocks e (last_seal e p ∷ [])
  unfolding burst_blocks
  burst-blocks = blocks-append e (record_seals 1 e.header p.shots) (last_seal e p ∷ [])
