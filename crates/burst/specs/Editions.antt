-- The editions of the burst file as rows of one table (01, "The burst file"; 02, N1): every number that an edition sets stands in its row and nowhere else.
-- File, plain burst and front rules are said of any row; the recorder's calls are at the row that is written.
-- Assumes nothing.
use Rattle.std.specs.Prelude.{Bool, cond, not, ◌&&◌, List, [], ◌∷◌, map, ◌⊎◌, ◌≡◌, ℕ, ◌+◌, ◌≤◌, ◌<◌, ◌^◌, eqb, leb}
use Rattle.burst.specs.declared.Edition.{Edition}
use Rattle.burst.specs.Fields.{count_width, camera_width, fields_length}

-- a row: the number in the header, the bytes of the header, the most shots, and the bytes of the camera number in the header, 0 where there is none
abbrev row : (number header shots camera : ℕ) → Edition
row number header shots camera = record { number = number; header = header; shots = shots; camera = camera }

abbrev pub edition1 : Edition
edition1 = row 1 fields_length 60 0

-- 02, N1: four zeros behind the camera number
abbrev pub edition2 : Edition
edition2 = row 2 40 60 camera_width

abbrev pub editions : List Edition
editions = edition1 ∷ edition2 ∷ []

infix 20 ◌among◌
-- e is one of these rows
abbrev pub ◌among◌ : Edition → List Edition → Type 0
e among [] = ⊥
e among (x ∷ xs) = (e ≡ x) ⊎ (e among xs)

-- ---- which row
abbrev pub row_in : ℕ → List Edition → Edition
row_in number [] = edition1
row_in number (x ∷ xs) = cond (eqb number x.number) x (row_in number xs)

-- the row of an edition number. A number that no row has gives edition 1, which the front rule "the number is the row's" then refuses
unfoldable pub numbered : ℕ → Edition
numbered number = row_in number editions

-- the row that the writer makes, from the key's length: edition 2 for every key
unfoldable pub written : (key : ℕ) → Edition
written key = edition2

-- ---- camera numbers (02, N1)
-- whether bursts of an edition have a camera number
abbrev pub has_camera : Edition → Bool
has_camera e = not (eqb e.camera 0)

-- what a burst of an edition holds of the camera number that its begin is given: 0 where it has none
abbrev pub camera_held : Edition → ℕ → ℕ
camera_held e camera = cond (has_camera e) camera 0

-- whether a camera number is wanted and 0 was given, with which a nonce would be one of edition 1
abbrev pub no_camera : Edition → ℕ → Bool
no_camera e camera = has_camera e && eqb camera 0

-- ---- the largest of the rows
abbrev largest : List ℕ → ℕ
largest [] = 0
largest (n ∷ ns) = cond (leb n (largest ns)) (largest ns) n

-- the most shots of any row: the recorder has room for so many entries
abbrev pub max_entries : ℕ
max_entries = largest (map (λ (e : Edition). e.shots) editions)

-- bytes of the longest header of any row
abbrev pub max_header : ℕ
max_header = largest (map (λ (e : Edition). e.header) editions)

-- ---- what holds of every row: what code and proofs need of it
pub record Known (e : Edition) : Type 0 where
  pub number : e.number < 256 ^ count_width
  pub least : fields_length + e.camera ≤ e.header
  pub header : e.header ≤ max_header
  pub shots : e.shots ≤ max_entries
  pub camera : (e.camera ≡ 0) ⊎ (e.camera ≡ camera_width)
  pub back : numbered e.number ≡ e
