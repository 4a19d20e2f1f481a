-- Change request N4 (02): "The scheduler must know beforehand whether a planned burst fits and how long the core will be busy. From a list of up to 60 lengths, 0 for
-- a dropped shot, work out the file length and the numbers of P12 and P6 calls, without sealing. All three must equal what the recorder would use by the definitions.
-- It refuses a list above 60 with 9, then a length above 1,048,576 with 10."
-- The call is `sizing::size_up`, whose contract is that it answers `size_answer lengths`, for every list; `burst_size_up` gives the same numbers in C. `Demand1` has
-- what it refuses. Here:
--   bursts   for every plain burst of edition 2, of at most 60 shots that can be recorded and that have these lengths, the three numbers are the length of its
--            file and its P12 and P6 calls
--   lists    so too for every list of calls that has an accepted close, from the lengths of the shots that were taken
--   state    the calls that count for a seal are those that sealing makes: the state of which the tag is taken is the one after them, from the starting words on
--   parts    so it is with each part that is sealed for a burst file, in blocks of 128 bytes: the tag at its end is of the state after the calls that count for it
--   file-of  the seals that count for a burst are those of its file: their bytes are its records and its closing seal
--   p12      there is one P12 for each picture and one for the closing seal
--   p6       there is one P6 for each padded block of each seal, the secret-number blocks included
--   fits     begin, keeps and drops of these lengths and a close are all accepted exactly if the list is not refused and the buffer has at least as many bytes as
--            the file: a buffer of exactly that length takes them all, and one byte less does not
--   carried  and then the three numbers are those of the burst that was recorded
-- Assumes nothing.
use Rattle.std.specs.Prelude.{List, [], ◌∷◌, ◌++◌, map, ◌↔◌, ◌≡◌, ℕ, ◌+◌, ◌≤◌, length, replicate}
use Rattle.bytes_le.specs.Bytes.{Bytes}
use Rattle.state_bytes.specs.StateBytes.{start_bytes}
use Rattle.blocks.specs.Sealing.{◌⊕₈◌, encrypt, keyed, ready, tag}
use Rattle.padded_blocks.specs.PaddedBlocks.{state_after, calls_of, SealingState}
use Rattle.burst.specs.declared.Edition.{Edition}
use Rattle.burst.specs.declared.Name.{Name}
use Rattle.burst.specs.Editions.{edition2}
use Rattle.burst.specs.Parts.{nonce_of, seal_part, part_calls}
use Rattle.burst.specs.Layout.{Identity}
use Rattle.trace.specs.Plain.{Firing, kept, gap, pictures, Plain, file_of, Call, CallList, plain_of}
use Rattle.trace.specs.Seals.{burst_calls, burst_blocks, FileOfSeals}
use Rattle.trace.specs.Trace.{run_answers}
use Rattle.trace.specs.Agreement.{Reached, edition_for}
use Rattle.sizing.specs.Sizing.{Size}
use Rattle.sizing.specs.Sizing.{lengths_of, size_answer}
use Rattle.sizing.specs.Plans.{planned_by, OnlyShots, Beginnable, carried_out, AllDone}

-- ---- the three numbers of a burst
pub record Sized (e : Edition) (p : Plain) (s : Size) : Type 0 where
  pub accepted : s.refusal ≡ 0
  pub file : s.file_length ≡ length (file_of e p)
  pub p12 : s.p12 ≡ calls_of 12 (burst_calls e p)
  pub p6 : s.p6 ≡ calls_of 6 (burst_calls e p)

-- shots that can be recorded: stamps of 16 bytes, pictures of 1 to 1,048,576
abbrev pub Recordable : List Firing → Type 0
Recordable [] = Unit {0}
Recordable (kept s p ∷ xs) = ((length s ≡ 16) × (1 ≤ length p) × (length p ≤ 1048576)) × Recordable xs
Recordable (gap ∷ xs) = Recordable xs

abbrev pub Bursts : Type 0
Bursts = (p : Plain) → Recordable p.shots → length p.shots ≤ 60 → length p.identity.site_mark ≡ 16
    → Sized edition2 p (size_answer (lengths_of p.shots))

abbrev pub Lists : Type 0
Lists = (l : CallList) → Reached (edition_for l) l → Sized (edition_for l) (plain_of (edition_for l) l) (size_answer (lengths_of (plain_of (edition_for l) l).shots))

-- ---- how often the permutation is called
abbrev pub Parts : Type 0
Parts = (e : Edition) (key : Bytes) (name : Name) (shot : ℕ) (mark ad body : Bytes)
    → let v = keyed key (nonce_of e name shot) in
    seal_part e key name shot mark ad body
    ≡ (v ⊕₈ mark) ++ (encrypt 128 (ready 128 v mark ad) body ++ tag (state_after start_bytes (part_calls e key name shot mark ad body)))

abbrev pub P12Calls : Type 0
P12Calls = (e : Edition) (p : Plain) → calls_of 12 (burst_calls e p) ≡ pictures p.shots + 1

abbrev pub P6Calls : Type 0
P6Calls = (e : Edition) (p : Plain) → calls_of 6 (burst_calls e p) ≡ burst_blocks e p

-- ---- whether a plan fits
module _ (key : Bytes) (i : Identity) (cs : List Call) (b : Bytes) where
  abbrev whole : CallList
  whole = carried_out key i (length b) cs

  abbrev size : Size
  size = size_answer (planned_by cs)

  pub record Fits : Type 0 where
    pub fits : AllDone (run_answers whole b) ↔ ((size.refusal ≡ 0) × (size.file_length ≤ length b))
    pub carried : AllDone (run_answers whole b) → Sized (edition_for whole) (plain_of (edition_for whole) whole) size

pub record SizeUp : Type 0 where
  pub bursts : Bursts
  pub lists : Lists
  pub state : SealingState
  pub parts : Parts
  pub file-of : FileOfSeals
  pub p12 : P12Calls
  pub p6 : P6Calls
  pub fits : (key : Bytes) (i : Identity) (cs : List Call) (b : Bytes) → Beginnable key i → OnlyShots cs → Fits key i cs b

-- ---- worked values: refusal, file length, P12 and P6 calls
abbrev numbers : List ℕ → List ℕ
numbers lengths = (size_answer lengths).refusal ∷ (size_answer lengths).file_length ∷ (size_answer lengths).p12 ∷ (size_answer lengths).p6 ∷ []

-- no shots; 60 dropped; pictures around one block; a drop, a picture, a drop; with 7 and 8 pictures header and index are 124 and 136 bytes, with 18 and 19 they are
-- 256 and 268; a list above 60, whatever its lengths; a length above the largest, as the last of 60
abbrev pub plans : List (List ℕ)
plans =
    []
    ∷ replicate 60 0
    ∷ (1 ∷ [])
    ∷ (127 ∷ [])
    ∷ (128 ∷ [])
    ∷ (129 ∷ [])
    ∷ (0 ∷ 3 ∷ 0 ∷ [])
    ∷ replicate 7 1
    ∷ replicate 8 1
    ∷ replicate 18 1
    ∷ replicate 19 1
    ∷ replicate 61 0
    ∷ (1048577 ∷ replicate 60 0)
    ∷ (replicate 59 0 ++ (1048577 ∷ []))
    ∷ []

abbrev pub said : List (List ℕ)
said =
    (0 ∷ 72 ∷ 1 ∷ 3 ∷ [])
    ∷ (0 ∷ 72 ∷ 1 ∷ 3 ∷ [])
    ∷ (0 ∷ 117 ∷ 2 ∷ 6 ∷ [])
    ∷ (0 ∷ 243 ∷ 2 ∷ 6 ∷ [])
    ∷ (0 ∷ 244 ∷ 2 ∷ 6 ∷ [])
    ∷ (0 ∷ 245 ∷ 2 ∷ 7 ∷ [])
    ∷ (0 ∷ 119 ∷ 2 ∷ 6 ∷ [])
    ∷ (0 ∷ 387 ∷ 8 ∷ 24 ∷ [])
    ∷ (0 ∷ 432 ∷ 9 ∷ 28 ∷ [])
    ∷ (0 ∷ 882 ∷ 19 ∷ 58 ∷ [])
    ∷ (0 ∷ 927 ∷ 20 ∷ 62 ∷ [])
    ∷ (9 ∷ 0 ∷ 0 ∷ 0 ∷ [])
    ∷ (9 ∷ 0 ∷ 0 ∷ 0 ∷ [])
    ∷ (10 ∷ 0 ∷ 0 ∷ 0 ∷ [])
    ∷ []

abbrev pub WorkedSizes : Type 0
WorkedSizes = map numbers plans ≡ said
