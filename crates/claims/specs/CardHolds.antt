-- Change request N2 (02): "Marketing prints how many bursts a card holds. From card bytes, shots per burst (all kept, edition 2) and one picture length, give the
-- whole number of full bursts and the exact bytes left: card = bursts times file length + left, with left below the file length. All numbers are 64 bits. It refuses
-- shots of 0 or above 60 with 16, first, and a picture length out of range with 10."
-- The call is `sizing::card_line`, whose contract is that it answers `card_answer card shots picture`, for all numbers of 64 bits; `burst_card_line` gives the same
-- numbers in C. `CardCalls` has what it refuses. Here, of every card, 1 to 60 shots and a picture of 1 to 1,048,576 bytes, where `each` is `full_length` of edition 2:
--   accepted  the line is not refused
--   bursts    each is the length of the file of every full burst: a plain burst of edition 2 with so many shots that can be recorded, all kept, whose pictures have
--             this length, and with a site mark of 16 bytes
--   lists     so too for every list of calls that has an accepted close
--   full      there is such a burst
--   recorded  and such lists: a begin, keeps of such pictures and a close are all accepted exactly if the buffer has so many bytes
--   sized     each is the file length that sizing up (N4) answers
--   bytes     each in numbers: 72 bytes, and 44 more than its picture for each shot
--   split     card = bursts times each + left
--   below     left is below each
--   only      no other two numbers do that
--   holds     the files of full bursts, whichever they are, fit on the card exactly if there are no more of them than the line says
--   over      and if there are so many, the bytes of the card that are left over are those that the line says
-- Assumes nothing.
use Rattle.std.specs.Prelude.{List, [], ◌∷◌, map, ◌↔◌, ◌≡◌, ℕ, ◌+◌, ◌*◌, ◌≤◌, ◌<◌, length, replicate}
use Rattle.bytes_le.specs.Bytes.{Bytes}
use Rattle.burst.specs.declared.Edition.{Edition}
use Rattle.burst.specs.Editions.{edition2}
use Rattle.burst.specs.Layout.{Identity}
use Rattle.trace.specs.Plain.{Firing, kept, gap, Plain, file_of, Call, CallList, plain_of}
use Rattle.trace.specs.Trace.{run_answers}
use Rattle.trace.specs.Agreement.{Reached, edition_for}
use Rattle.sizing.specs.Cards.{CardLine}
use Rattle.sizing.specs.Sizing.{planned_burst, size_answer}
use Rattle.sizing.specs.Plans.{planned_by, OnlyShots, Beginnable, carried_out, AllDone}
use Rattle.sizing.specs.Cards.{full_length, card_answer}
use Rattle.claims.specs.SizeUp.{Recordable}

-- ---- a full burst: so many shots that can be recorded, all kept, with pictures of one length
abbrev pub AllKept : (picture : ℕ) → List Firing → Type 0
AllKept picture [] = Unit {0}
AllKept picture (kept s p ∷ xs) = (length p ≡ picture) × AllKept picture xs
AllKept picture (gap ∷ xs) = ⊥

pub record FullBurst (shots picture : ℕ) (p : Plain) : Type 0 where
  pub recordable : Recordable p.shots
  pub count : length p.shots ≡ shots
  pub all_kept : AllKept picture p.shots
  pub mark : length p.identity.site_mark ≡ 16

-- ---- a card's bursts, and the bytes of their files
abbrev pub AllFull : (shots picture : ℕ) → List Plain → Type 0
AllFull shots picture [] = Unit {0}
AllFull shots picture (p ∷ ps) = FullBurst shots picture p × AllFull shots picture ps

abbrev pub files_length : Edition → List Plain → ℕ
files_length e [] = 0
files_length e (p ∷ ps) = length (file_of e p) + files_length e ps

module _ (card shots picture : ℕ) where
  abbrev line : CardLine
  line = card_answer card shots picture

  abbrev each : ℕ
  each = full_length edition2 shots picture

  pub record Holds : Type 0 where
    pub accepted : line.refusal ≡ 0
    pub bursts : (p : Plain) → FullBurst shots picture p → length (file_of edition2 p) ≡ each
    pub lists : (l : CallList) → Reached (edition_for l) l
        → let p = plain_of (edition_for l) l in
        length p.shots ≡ shots → AllKept picture p.shots → length (file_of (edition_for l) p) ≡ each
    pub full : FullBurst shots picture (planned_burst (replicate shots picture))
    pub recorded : (key : Bytes) (i : Identity) (cs : List Call) (b : Bytes) → Beginnable key i → OnlyShots cs → planned_by cs ≡ replicate shots picture
        → AllDone (run_answers (carried_out key i (length b) cs) b) ↔ (each ≤ length b)
    pub sized : (size_answer (replicate shots picture)).file_length ≡ each
    pub bytes : each ≡ 72 + shots * (picture + 44)
    pub split : card ≡ line.bursts * each + line.left
    pub below : line.left < each
    pub only : (b l : ℕ) → card ≡ b * each + l → l < each → (b ≡ line.bursts) × (l ≡ line.left)
    pub holds : (ps : List Plain) → AllFull shots picture ps → (files_length edition2 ps ≤ card) ↔ (length ps ≤ line.bursts)
    pub over : (ps : List Plain) → AllFull shots picture ps → length ps ≡ line.bursts → files_length edition2 ps + line.left ≡ card

abbrev pub CardHolds : Type 0
CardHolds = (card shots picture : ℕ) → (1 ≤ shots) × (shots ≤ 60) → (1 ≤ picture) × (picture ≤ 1048576) → Holds card shots picture

-- ---- worked values: refusal, bursts and bytes left, of card, shots and picture length
pub record Carton : Type 0 where
  pub card : ℕ
  pub shots : ℕ
  pub picture : ℕ

abbrev pub of : (card shots picture : ℕ) → Carton
of card shots picture = record { card = card; shots = shots; picture = picture }

abbrev pub numbers : Carton → List ℕ
numbers c =
    let line = card_answer c.card c.shots c.picture in
    line.refusal ∷ line.bursts ∷ line.left ∷ []

-- cards of no bytes; of one byte less than a file has, of a file, and of one byte more; of one byte less than two files, and of two; the largest of 64 bits, with the
-- shortest files and with longer ones; 2^35, whose low 32 bits are 0; 60 shots on 32,000,000,000 bytes; shots of 0, of 61, and numbers whose low 16 or 32 bits are 1;
-- pictures out of range; and both at once
abbrev pub cartons : List Carton
cartons =
    of 0 1 1
    ∷ of 116 1 1
    ∷ of 117 1 1
    ∷ of 118 1 1
    ∷ of 233 1 1
    ∷ of 234 1 1
    ∷ of 18446744073709551615 1 1
    ∷ of 18446744073709551615 60 3
    ∷ of 34359738368 10 100
    ∷ of 32000000000 60 1
    ∷ of 1000 0 1
    ∷ of 1000 61 1
    ∷ of 1000 65537 1
    ∷ of 1000 4294967297 1
    ∷ of 1000 1 0
    ∷ of 1000 60 1048577
    ∷ of 1000 1 4294967297
    ∷ of 1000 0 0
    ∷ of 1000 61 1048577
    ∷ []

abbrev pub printed : List (List ℕ)
printed =
    (0 ∷ 0 ∷ 0 ∷ [])
    ∷ (0 ∷ 0 ∷ 116 ∷ [])
    ∷ (0 ∷ 1 ∷ 0 ∷ [])
    ∷ (0 ∷ 1 ∷ 1 ∷ [])
    ∷ (0 ∷ 1 ∷ 116 ∷ [])
    ∷ (0 ∷ 2 ∷ 0 ∷ [])
    ∷ (0 ∷ 157664479262474800 ∷ 15 ∷ [])
    ∷ (0 ∷ 6378542210826262 ∷ 1911 ∷ [])
    ∷ (0 ∷ 22724694 ∷ 1040 ∷ [])
    ∷ (0 ∷ 11544011 ∷ 1508 ∷ [])
    ∷ (16 ∷ 0 ∷ 0 ∷ [])
    ∷ (16 ∷ 0 ∷ 0 ∷ [])
    ∷ (16 ∷ 0 ∷ 0 ∷ [])
    ∷ (16 ∷ 0 ∷ 0 ∷ [])
    ∷ (10 ∷ 0 ∷ 0 ∷ [])
    ∷ (10 ∷ 0 ∷ 0 ∷ [])
    ∷ (10 ∷ 0 ∷ 0 ∷ [])
    ∷ (16 ∷ 0 ∷ 0 ∷ [])
    ∷ (16 ∷ 0 ∷ 0 ∷ [])
    ∷ []

pub record WorkedCards : Type 0 where
  pub lines : map numbers cartons ≡ printed
  -- the longest file there is, 62,917,272 bytes, on 32,000,000,000 bytes and on the largest card of 64 bits
  pub longest : numbers (of 32000000000 60 1048576) ≡ 0 ∷ 508 ∷ 38025824 ∷ []
  pub largest : numbers (of 18446744073709551615 60 1048576) ≡ 0 ∷ 293190462449 ∷ 32487 ∷ []
