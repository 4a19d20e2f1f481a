-- One key for a whole survey (02, N1): the cameras of a survey share a key and all start at burst 1, and no nonce of one camera is one of another.
-- The layout of edition 2 is its row and `header_rest`. `Demand1` has what begin refuses, with 15 among it. `Demand3` has that the reader accepts exactly
-- the files of plain bursts of either edition, that equal files mean equal camera numbers, and that check gives the camera number back. Here:
--   writes    of every list the recorder makes edition 2
--   begins    begin refuses with 1, 3, 15, 11, the last below 72 bytes; accepted, it zeros 40 bytes, used is 40, and the recorder holds the camera number
--   carries   every later call of a list, accepted or refused, leaves the recorder's burst number and camera number
--   sound     soundness does not look at the camera number: a recorder made by hand with 0 is sound if it is with another
--   file      a file of edition 2, with its header and the nonce and the associated data of its closing seal
--   records   a record of edition 2, with its nonce
--   nonces    the nonces of a begun list: those of edition 2, and those of edition 1, which are as they were
--   holds     a burst of edition 2 has the camera number that begin was given, and it is not 0; one of edition 1 has 0, whatever was given
--   apart     bursts of two cameras, closed or not, have no nonce in common, whatever their burst numbers and shots, closing seals included
--   from_old  nor have a burst of edition 2 and one of edition 1
--   fronts    what the front rules ask of the edition, of its least length and most shots, of picture offset, camera number and zeros
--   answers   check of an accepted file answers the camera number of its header, and 0 for edition 1
-- Assumes nothing.
use Rattle.std.specs.Prelude.{true, false, cond, List, [], ◌∷◌, ◌++◌, map, ◌⊎◌, ◌≢◌, ◌≡◌, ℕ, ◌+◌, ◌*◌, ◌≤◌, ◌<◌, length, take, drop, set, replicate}
use Rattle.bytes_le.specs.Bytes.{Bytes, le, le_at, put_bytes}
use Rattle.icepole.specs.declared.Variant.TheVariants.{Icepole128}
use Rattle.icepole.specs.Variants.{sizes}
use Rattle.blocks.specs.Sealing.{sealed}
use Rattle.burst.specs.declared.Edition.{Edition}
use Rattle.burst.specs.declared.Name.{Name}
use Rattle.burst.specs.declared.Recorder.{Recorder}
use Rattle.burst.specs.Editions.{edition1, edition2}
use Rattle.burst.specs.Parts.{Fits, nonce_of}
use Rattle.burst.specs.Layout.{Identity, identified, entry_bytes, record_bytes}
use Rattle.burst.specs.Numbers.{begin_number, keep_number, drop_number}
use Rattle.burst.specs.Recorder.{is_sound, new_recorder, no_recorder, begin_answer, begin_buffer}
use Rattle.trace.specs.Plain.{pictures, gaps, used_by, records, index, Plain, Call, CallList, Answer, begin_number_of, plain_of, plain_answers, header_of, index_of, file_of, total_of}
use Rattle.trace.specs.Trace.{next_recorder}
use Rattle.trace.specs.Agreement.{edition_for}
use Rattle.reader.specs.Front.{edition_number_in, taken_in, picture_offset_in, front_rules}
use Rattle.reader.specs.Reader.{check_answer}
use Rattle.burst_c.specs.Calls.{checked_bytes}
use Rattle.plain_text.specs.Text.{ascii}
use Rattle.listing.specs.Listing.{listing}
use Rattle.claims.specs.Demand1.{◌on◌, FirstOf}
use Rattle.claims.specs.Marked.{Row, ◌is◌, the, list7, front7}

-- ---- the recorder
abbrev pub Writes : Type 0
Writes = (l : CallList) → edition_for l ≡ edition2

module _ (key : Bytes) (i : Identity) (buffer : Bytes) where
  pub record Begins : Type 0 where
    pub order :
        FirstOf (begin_answer key i buffer).refusal
        ((1 on (length key ≢ 16))
        ∷ (3 on (length i.site_mark ≢ 16))
        ∷ (15 on (i.name.camera ≡ 0))
        ∷ (11 on (length buffer < 72))
        ∷ [])
    pub zeroed : (begin_answer key i buffer).refusal ≡ 0 → begin_buffer key i buffer ≡ put_bytes buffer 0 (replicate 40 0)
    pub used : (begin_answer key i buffer).refusal ≡ 0 → (begin_answer key i buffer).recorder.used ≡ 40
    pub camera : (begin_answer key i buffer).refusal ≡ 0 → (begin_answer key i buffer).recorder.camera ≡ i.name.camera

abbrev pub Carries : Type 0
Carries = (r : Recorder) (buffer : Bytes) (c : Call)
    → ((next_recorder r buffer c).burst_number ≡ r.burst_number) × ((next_recorder r buffer c).camera ≡ r.camera)

-- a recorder with another camera number
abbrev pub with_camera : Recorder → ℕ → Recorder
with_camera r camera = record {
  key = r.key;
  burst_number = r.burst_number;
  site_mark = r.site_mark;
  taken = r.taken;
  kept = r.kept;
  used = r.used;
  entries = r.entries;
  closed = r.closed;
  camera = camera;
}

abbrev pub SoundWithAny : Type 0
SoundWithAny = (r : Recorder) (camera : ℕ) → is_sound edition2 (with_camera r camera) ≡ is_sound edition2 r

-- ---- the file
-- nonce: burst number, shot number, camera number, two zeros
abbrev pub nonce2 : Name → (shot : ℕ) → Bytes
nonce2 name shot = le 8 name.burst_number ++ (le 2 shot ++ (le 4 name.camera ++ replicate 2 0))

abbrev pub Record : Type 0
Record = (key : Bytes) (name : Name) (shot offset : ℕ) (stamp picture : Bytes)
    → record_bytes edition2 key name shot offset stamp picture
    ≡ sealed (sizes Icepole128) key (nonce2 name shot) stamp (entry_bytes shot 0 offset (length picture)) picture

-- edition 2, taken, kept, dropped, burst number, picture offset 40, index offset, closing offset, total length, camera number, four zeros
module _ (p : Plain) where
  abbrev used : ℕ
  used = used_by 40 p.shots

  abbrev pub header2 : Bytes
  header2 =
      le 2 2
      ++ (le 2 (length p.shots)
      ++ (le 2 (pictures p.shots)
      ++ (le 2 (gaps p.shots)
      ++ (le 8 p.identity.name.burst_number
      ++ (le 4 40
      ++ (le 4 used
      ++ (le 4 (used + 12 * pictures p.shots)
      ++ (le 4 (used + 12 * pictures p.shots + 32) ++ (le 4 p.identity.name.camera ++ replicate 4 0)))))))))

-- header, records, index, closing seal
abbrev pub File : Type 0
File = (p : Plain)
    → file_of edition2 p
    ≡ header2 p
    ++ (records edition2 p.key p.identity.name 1 40 p.shots
    ++ (index 1 40 p.shots
    ++ sealed (sizes Icepole128) p.key (nonce2 p.identity.name 0) p.identity.site_mark (header2 p ++ index 1 40 p.shots) []))

-- ---- nonces. Shot number 0 is the closing seal's
-- a list that was begun as one of edition e, closed or not
pub record BegunAs (e : Edition) (l : CallList) : Type 0 where
  pub named : Fits l.identity.name
  pub accepted : begin_number_of e l ≡ 0

-- what names its burst, and the nonces of its seals
abbrev pub name_of : Edition → CallList → Name
name_of e l = (plain_of e l).identity.name

abbrev pub nonces : Edition → CallList → (shot : ℕ) → Bytes
nonces e l shot = nonce_of e (name_of e l) shot

abbrev pub Nonces : Type 0
Nonces = (l : CallList) (shot : ℕ)
    → (BegunAs edition2 l → nonces edition2 l shot ≡ nonce2 l.identity.name shot)
    × (BegunAs edition1 l → nonces edition1 l shot ≡ le 8 l.identity.name.burst_number ++ (le 2 shot ++ replicate 6 0))

abbrev pub Holds : Type 0
Holds = (l : CallList)
    → (BegunAs edition2 l → ((name_of edition2 l).camera ≡ l.identity.name.camera) × ((name_of edition2 l).camera ≢ 0))
    × (BegunAs edition1 l → (name_of edition1 l).camera ≡ 0)

abbrev pub Apart : Type 0
Apart = (e e' : Edition) (l l' : CallList) → BegunAs e l → BegunAs e' l' → (name_of e l).camera ≢ (name_of e' l').camera
    → (shot shot' : ℕ) → nonces e l shot ≢ nonces e' l' shot'

abbrev pub FromOld : Type 0
FromOld = (l l' : CallList) → BegunAs edition2 l → BegunAs edition1 l' → (shot shot' : ℕ) → nonces edition2 l shot ≢ nonces edition1 l' shot'

-- ---- the reader
pub record Front1 (f : Bytes) : Type 0 where
  pub number : edition_number_in f ≡ 1
  pub least : 64 ≤ length f
  pub most : taken_in f ≤ 60
  pub pictures : picture_offset_in f ≡ 32

pub record Front2 (f : Bytes) : Type 0 where
  pub number : edition_number_in f ≡ 2
  pub least : 72 ≤ length f
  pub most : taken_in f ≤ 60
  pub pictures : picture_offset_in f ≡ 40
  pub camera : le_at 4 f 32 ≢ 0
  pub zeros : take 4 (drop 36 f) ≡ replicate 4 0

abbrev pub Fronts : Type 0
Fronts = (f : Bytes) → front_rules f ≡ true → Front1 f ⊎ Front2 f

abbrev pub Answers : Type 0
Answers = (key f : Bytes) → (check_answer key f).refusal ≡ 0
    → (Front1 f × ((check_answer key f).camera ≡ 0)) ⊎ (Front2 f × ((check_answer key f).camera ≡ le_at 4 f 32))

pub record OneKey : Type 0 where
  pub writes : Writes
  pub begins : (key : Bytes) (i : Identity) (buffer : Bytes) → Begins key i buffer
  pub carries : Carries
  pub sound : SoundWithAny
  pub file : File
  pub records : Record
  pub nonces : Nonces
  pub holds : Holds
  pub apart : Apart
  pub from_old : FromOld
  pub fronts : Fronts
  pub answers : Answers

-- ---- worked values: 01's burst 7 as one of edition 2, by camera number 1000, in a buffer of 119 bytes
abbrev pub list7' : CallList
list7' = record { key = list7.key; identity = identified 7 1000 list7.identity.site_mark; buffer_length = 119; calls = list7.calls }

abbrev pub burst7' : Plain
burst7' = plain_of edition2 list7'

-- its front with zeros for its seals, which the lister does not look at; and with one byte changed
abbrev front7' : Bytes
front7' = header_of edition2 burst7' ++ (replicate 35 0 ++ (index_of edition2 burst7' ++ replicate 32 0))

abbrev with : ℕ → ℕ → Bytes
with at byte = set front7' at byte

-- the neighbours of begin's order, then a begin that is accepted; as edition 1 a begin with 0 is
abbrev begins7 : List ℕ
begins7 =
    begin_number edition2 15 15 0 71
    ∷ begin_number edition2 16 15 0 71
    ∷ begin_number edition2 16 16 0 71
    ∷ begin_number edition2 16 16 1 71
    ∷ begin_number edition2 16 16 1 72
    ∷ begin_number edition1 16 16 0 64
    ∷ []

-- the 60th and the 61st shot
abbrev sixty : List ℕ
sixty = drop_number edition2 true 59 ∷ drop_number edition2 true 60 ∷ keep_number edition2 true 59 0 40 16 3 119 ∷ keep_number edition2 true 60 0 40 16 3 119 ∷ []

-- recorders without shots: as begin makes them, with the bytes used of edition 1, with camera number 0; and the camera number of one that begin refused
abbrev made : (camera used : ℕ) → ℕ
made camera used = cond (is_sound edition2 (new_recorder (replicate 16 0) (identified 7 camera (replicate 16 0)) used false)) 1 0

-- what check puts into the info in C
abbrev info : Bytes
info = checked_bytes (record {
  refusal = 0;
  mark = 0;
  burst_number = 7;
  site_mark = replicate 16 9;
  taken = record { 0 = 3 };
  kept = record { 0 = 1 };
  dropped = 2;
  camera = 1000;
})

-- fronts that break a rule: camera number 0, each of the zeros, the picture offset, taken 61, called edition 1, cut to 71 and to 64 bytes; and the front of
-- edition 1 called edition 2, 0, 3 and 257
abbrev broken : List Bytes
broken =
    set (with 32 0) 33 0
    ∷ with 36 1
    ∷ with 37 1
    ∷ with 38 1
    ∷ with 39 1
    ∷ with 16 32
    ∷ set (with 2 61) 6 60
    ∷ with 0 1
    ∷ take 71 front7'
    ∷ take 64 front7'
    ∷ set (front7 1) 0 2
    ∷ set (front7 1) 0 0
    ∷ set (front7 1) 0 3
    ∷ set (front7 1) 1 1
    ∷ []

abbrev pub worked : List Row
worked =
    ((header_of edition2 burst7' ∷ [])
    is ((0x02 ∷ 0x00 ∷ 0x03 ∷ 0x00 ∷ 0x01 ∷ 0x00 ∷ 0x02 ∷ 0x00 ∷ 0x07 ∷ 0x00 ∷ 0x00 ∷ 0x00 ∷ 0x00 ∷ 0x00 ∷ 0x00 ∷ 0x00
    ∷ 0x28 ∷ 0x00 ∷ 0x00 ∷ 0x00 ∷ 0x4B ∷ 0x00 ∷ 0x00 ∷ 0x00 ∷ 0x57 ∷ 0x00 ∷ 0x00 ∷ 0x00 ∷ 0x77 ∷ 0x00 ∷ 0x00 ∷ 0x00
    ∷ 0xE8 ∷ 0x03 ∷ 0x00 ∷ 0x00 ∷ 0x00 ∷ 0x00 ∷ 0x00 ∷ 0x00 ∷ []) ∷ []))
    ∷ ((index_of edition2 burst7' ∷ []) is ((0x02 ∷ 0x00 ∷ 0x00 ∷ 0x00 ∷ 0x28 ∷ 0x00 ∷ 0x00 ∷ 0x00 ∷ 0x03 ∷ 0x00 ∷ 0x00 ∷ 0x00 ∷ []) ∷ []))
    ∷ (the (total_of edition2 burst7') is the 119)
    ∷ (map (λ (a : Answer). a.number ∷ a.mark ∷ a.value ∷ []) (plain_answers edition2 list7')
    is ((0 ∷ 0 ∷ 0 ∷ []) ∷ (0 ∷ 0 ∷ 1 ∷ []) ∷ (0 ∷ 0 ∷ 2 ∷ []) ∷ (0 ∷ 0 ∷ 3 ∷ []) ∷ (0 ∷ 0 ∷ 119 ∷ []) ∷ []))
    ∷ ((nonce_of edition2 burst7'.identity.name 2 ∷ nonce_of edition2 burst7'.identity.name 0 ∷ [])
    is ((0x07 ∷ replicate 7 0 ++ (0x02 ∷ 0x00 ∷ 0xE8 ∷ 0x03 ∷ replicate 4 0)) ∷ (0x07 ∷ replicate 9 0 ++ (0xE8 ∷ 0x03 ∷ replicate 4 0)) ∷ []))
    ∷ ((begins7 ∷ []) is ((1 ∷ 3 ∷ 15 ∷ 11 ∷ 0 ∷ 0 ∷ []) ∷ []))
    ∷ ((listing front7' ∷ []) is (ascii "burst 7\ntaken 3 kept 1 dropped 2\nshot 2 at 40 length 3\n" ∷ []))
    ∷ ((listing (set (with 2 60) 6 59) ∷ []) is (ascii "burst 7\ntaken 60 kept 1 dropped 59\nshot 2 at 40 length 3\n" ∷ []))
    ∷ (map listing broken is replicate 14 (ascii "front 12\n"))
    ∷ ((sixty ∷ []) is ((0 ∷ 9 ∷ 0 ∷ 9 ∷ []) ∷ []))
    ∷ (((made 5 40 ∷ made 5 32 ∷ made 0 40 ∷ no_recorder.camera ∷ []) ∷ []) is ((1 ∷ 0 ∷ 1 ∷ 0 ∷ []) ∷ []))
    ∷ ((info ∷ []) is ((7 ∷ replicate 7 0 ++ (replicate 16 9 ++ (3 ∷ 0 ∷ 1 ∷ 0 ∷ 2 ∷ 0 ∷ 0xE8 ∷ 0x03 ∷ 0 ∷ 0 ∷ []))) ∷ []))
    ∷ []

-- every row's two sides agree
abbrev pub WorkedCamera : Type 0
WorkedCamera = map (λ (r : Row). r.given) worked ≡ map (λ (r : Row). r.said) worked
