-- Demand 3, over whole lists of calls (01, "Recorder", "Reader"; 02, N1): a begin, then keep, drop (by value or in place) and close in any order, refused ones
-- among them.
--   agrees      numbers, shot numbers and totals equal those of the plain burst, and after an accepted close the front of the buffer is its file
--   answered    an accepted close is one that was answered 0
--   closes      a burst that was begun and is not closed can be closed next
--   one_burst   no file belongs to two bursts under its key, nor to two editions
--   accepts     the reader accepts exactly the files of such lists
--   gives_back  it then gives back burst number, camera number, site mark and the list of shots, with taken = kept + dropped
--   on_card     so too from the front of the buffer that the list leaves
--   reads       and of every accepted file, what was read back makes that file again, as one of the file's own edition
--   withholds   otherwise it releases no picture byte
-- A list is read as one of an edition, a row of `editions`; the row that the recorder makes of it is `edition_for`. The cipher is the one that `Parts` of
-- the burst file chooses, ICEPOLE-128. Assumes nothing.
use Rattle.std.specs.Prelude.{true, cond, ◌&&◌, List, [], ◌∷◌, ◌++◌, ◌↔◌, ◌⊎◌, ◌≡◌, ℕ, zero, suc, ◌+◌, ◌^◌, ◌≤◌, ◌<◌, eqb, length, take, replicate}
use Rattle.std.proofs.Math.Option.{Option, some, none}
use Rattle.bytes_le.specs.Bytes.{Bytes, AllBytes, put_bytes}
use Rattle.burst.specs.declared.Edition.{Edition}
use Rattle.burst.specs.declared.Name.{Name}
use Rattle.burst.specs.Editions.{editions, ◌among◌}
use Rattle.burst.specs.Parts.{Fits}
use Rattle.burst.specs.Layout.{max_picture, record_bytes}
use Rattle.burst.specs.Numbers.{used_after}
use Rattle.trace.specs.Plain.{Firing, kept, gap, pictures, gaps, Plain, file_of, Call, keep_shot, drop_shot, close_burst, CallList, Answer, plain_of, plain_answers, total_of}
use Rattle.trace.specs.Trace.{run_answers, run_buffer}
use Rattle.trace.specs.Agreement.{Reached, edition_for, Agreement}
use Rattle.reader.specs.Reader.{Checked}
use Rattle.reader.specs.Front.{edition_in}
use Rattle.reader.specs.Reader.{not_checked, not_fetched, check_answer, fetch_answer, fetch_output, record_refusal, record_offset, record_bytes_in}

-- ---- an accepted close: one of the list's closes was answered 0
abbrev pub CloseAnswered : List Call → List Answer → Type 0
CloseAnswered [] answers = ⊥
CloseAnswered (c ∷ cs) [] = ⊥
CloseAnswered (keep_shot s p ∷ cs) (a ∷ answers) = CloseAnswered cs answers
CloseAnswered (drop_shot way ∷ cs) (a ∷ answers) = CloseAnswered cs answers
CloseAnswered (close_burst ∷ cs) (a ∷ answers) = (a.number ≡ 0) ⊎ CloseAnswered cs answers

abbrev pub rest : List Answer → List Answer
rest [] = []
rest (a ∷ answers) = answers

abbrev pub Answered : Type 0
Answered = (e : Edition) (l : CallList) → Reached e l ↔ CloseAnswered l.calls (rest (plain_answers e l))

-- ---- a burst that was begun can always be closed
-- the list with one more close at its end
abbrev pub and_close : CallList → CallList
and_close l = record { key = l.key; identity = l.identity; buffer_length = l.buffer_length; calls = l.calls ++ (close_burst ∷ []) }

abbrev pub first_number : List Answer → ℕ
first_number [] = 0
first_number (a ∷ answers) = a.number

-- where begin was answered 0 and no close was, one more close is answered 0, with the total; the answers before it are those of the list without it
abbrev pub AlwaysCloses : Type 0
AlwaysCloses = (l : CallList) (b : Bytes) → length b ≡ l.buffer_length → first_number (run_answers l b) ≡ 0 → (CloseAnswered l.calls (rest (run_answers l b)) → ⊥)
    → run_answers (and_close l) b ≡ run_answers l b ++ (record { number = 0; mark = 0; value = total_of (edition_for l) (plain_of (edition_for l) l) } ∷ [])

-- ---- no file belongs to two bursts under its key
pub record SameBurst (p p' : Plain) : Type 0 where
  pub burst_number : p.identity.name.burst_number ≡ p'.identity.name.burst_number
  pub camera : p.identity.name.camera ≡ p'.identity.name.camera
  pub site_mark : p.identity.site_mark ≡ p'.identity.site_mark
  pub shots : p.shots ≡ p'.shots

-- a list whose burst has a file as one of edition e: e is a row, the name's numbers fit, and there is an accepted close
pub record Filed (e : Edition) (l : CallList) : Type 0 where
  pub listed : e among editions
  pub named : Fits l.identity.name
  pub reached : Reached e l

-- two lists, each read as one of any row
abbrev pub OneBurst : Type 0
OneBurst = (e e' : Edition) (l l' : CallList) → Filed e l → Filed e' l' → l.key ≡ l'.key → file_of e (plain_of e l) ≡ file_of e' (plain_of e' l')
    → (e ≡ e') × SameBurst (plain_of e l) (plain_of e' l')

-- ---- the reader accepts exactly the files of such lists
-- every slice has fewer bytes than so many
abbrev pub slice_bound : ℕ
slice_bound = 2 ^ 63

-- a lent slice
pub record Slice (b : Bytes) : Type 0 where
  pub bytes : AllBytes b
  pub size : length b < slice_bound

-- what the types of the calls say of their arguments; of the name, `Filed` says it
abbrev pub TypedCalls : List Call → Type 0
TypedCalls [] = Unit {0}
TypedCalls (keep_shot s p ∷ cs) = (Slice s × Slice p) × TypedCalls cs
TypedCalls (drop_shot way ∷ cs) = TypedCalls cs
TypedCalls (close_burst ∷ cs) = TypedCalls cs

pub record Typed (l : CallList) : Type 0 where
  pub key : Slice l.key
  pub site_mark : Slice l.identity.site_mark
  pub buffer : l.buffer_length < slice_bound
  pub calls : TypedCalls l.calls

-- f is genuine under the key: the file of some such list with that key, as one of some row
pub record Genuine (key f : Bytes) : Type 0 where
  pub edition : Edition
  pub list : CallList
  pub filed : Filed edition list
  pub typed : Typed list
  pub keyed : list.key ≡ key
  pub file : file_of edition (plain_of edition list) ≡ f

abbrev pub Accepts : Type 0
Accepts = (key f : Bytes) → AllBytes key → AllBytes f → ((check_answer key f).refusal ≡ 0) ↔ Genuine key f

-- ---- and gives back the list
-- a kept picture: its shot number, stamp and picture, and where its record stands
pub record Picture : Type 0 where
  pub shot : ℕ
  pub stamp : Bytes
  pub picture : Bytes
  pub offset : ℕ

-- the picture of a place, counted from 0, of shots the first of which is shot number n; the first record stands at `offset`
abbrev pub picture_at : (n offset : ℕ) → List Firing → ℕ → Option Picture
picture_at n offset [] place = none
picture_at n offset (gap ∷ xs) place = picture_at (n + 1) offset xs place
picture_at n offset (kept s p ∷ xs) zero = some (record { shot = n; stamp = s; picture = p; offset = offset })
picture_at n offset (kept s p ∷ xs) (suc place) = picture_at (n + 1) (used_after offset (length p)) xs place

-- an output that holds every picture
unfoldable pub whole : Bytes
whole = replicate max_picture 0

-- the list of shots from the answers of check and fetch alone: shot number n is what the fetch at the next place gives if that is shot n, else a gap
module _ (key f : Bytes) where
  abbrev pub read_from : (left n place : ℕ) → List Firing
  read_from zero n place = []
  read_from (suc left) n place =
      cond (eqb (fetch_answer key f place whole).refusal 0 && eqb (fetch_answer key f place whole).shot.0 n)
      (kept (fetch_answer key f place whole).stamp (take (fetch_answer key f place whole).length (fetch_output key f place whole)) ∷ read_from left (n + 1) (place + 1))
      (gap ∷ read_from left (n + 1) place)

  unfoldable pub read_shots : List Firing
  read_shots = read_from (check_answer key f).taken.0 1 0

pub record GivenBack (e : Edition) (key f : Bytes) (p : Plain) : Type 0 where
  -- the file tells its edition
  pub edition : edition_in f ≡ e
  pub checked : check_answer key f ≡ record {
    refusal = 0;
    mark = 0;
    burst_number = p.identity.name.burst_number;
    site_mark = p.identity.site_mark;
    taken = record { 0 = length p.shots };
    kept = record { 0 = pictures p.shots };
    dropped = gaps p.shots;
    camera = p.identity.name.camera;
  }
  pub counts : length p.shots ≡ pictures p.shots + gaps p.shots
  -- at every place below kept, into an output that holds the picture
  pub every : (place : ℕ) → place < pictures p.shots → (w : Picture) × (picture_at 1 e.header p.shots place ≡ some w)
  pub fetched : (place : ℕ) (out : Bytes) (w : Picture) → picture_at 1 e.header p.shots place ≡ some w → length w.picture ≤ length out
      → (fetch_answer key f place out ≡ record { refusal = 0; mark = 0; shot = record { 0 = w.shot }; stamp = w.stamp; length = length w.picture })
      × (fetch_output key f place out ≡ put_bytes out 0 w.picture)
  -- the sealed record, and where it stands
  pub sealed : (place : ℕ) (w : Picture) → picture_at 1 e.header p.shots place ≡ some w
      → (record_refusal key f place ≡ 0)
      × (record_offset key f place ≡ w.offset)
      × (record_bytes_in key f place ≡ record_bytes e key p.identity.name w.shot w.offset w.stamp w.picture)
  pub shots : read_shots key f ≡ p.shots

abbrev pub GivesBack : Type 0
GivesBack = (e : Edition) (l : CallList) → Filed e l → GivenBack e l.key (file_of e (plain_of e l)) (plain_of e l)

-- ---- of every accepted file
-- what check says of the name
abbrev pub name_given : Checked → Name
name_given c = record { burst_number = c.burst_number; camera = c.camera }

abbrev pub burst_in : Bytes → Bytes → Plain
burst_in key f = record {
  key = key;
  identity = record { name = name_given (check_answer key f); site_mark = (check_answer key f).site_mark };
  shots = read_shots key f;
  closed = true;
}

pub record ReadBack (key f : Bytes) : Type 0 where
  pub counts : (check_answer key f).taken.0 ≡ (check_answer key f).kept.0 + (check_answer key f).dropped
  pub file : file_of (edition_in f) (burst_in key f) ≡ f

abbrev pub Reads : Type 0
Reads = (key f : Bytes) → AllBytes key → AllBytes f → (check_answer key f).refusal ≡ 0 → ReadBack key f

-- ---- the same of the front of the buffer that a list leaves
abbrev pub OnCard : Type 0
OnCard = (l : CallList) (b : Bytes) → length b ≡ l.buffer_length → Fits l.identity.name → Reached (edition_for l) l
    → GivenBack (edition_for l) l.key (take (total_of (edition_for l) (plain_of (edition_for l) l)) (run_buffer l b)) (plain_of (edition_for l) l)

-- ---- otherwise no picture byte is released
pub record Withheld (key f : Bytes) (place : ℕ) (out : Bytes) : Type 0 where
  -- a fetch that is refused, with whatever number, leaves the output and answers zeros with check's mark
  pub fetch : ((fetch_answer key f place out).refusal ≡ 0 → ⊥)
      → (fetch_output key f place out ≡ out)
      × (fetch_answer key f place out ≡ not_fetched (fetch_answer key f place out).refusal (check_answer key f).mark)
  -- where check refuses, it answers zeros, fetch answers its number and mark, and record its number; record's mark is check's by its contract
  pub check : ((check_answer key f).refusal ≡ 0 → ⊥)
      → (check_answer key f ≡ not_checked (check_answer key f).refusal (check_answer key f).mark)
      × (fetch_answer key f place out ≡ not_fetched (check_answer key f).refusal (check_answer key f).mark)
      × (record_refusal key f place ≡ (check_answer key f).refusal)
  -- a refused record is the empty part
  pub part : (record_refusal key f place ≡ 0 → ⊥) → (record_bytes_in key f place ≡ []) × (record_offset key f place ≡ 0)

abbrev pub Withholds : Type 0
Withholds = (key f : Bytes) (place : ℕ) (out : Bytes) → Withheld key f place out

pub record Demand3 : Type 0 where
  pub agrees : Agreement
  pub answered : Answered
  pub closes : AlwaysCloses
  pub one_burst : OneBurst
  pub accepts : Accepts
  pub gives_back : GivesBack
  pub on_card : OnCard
  pub reads : Reads
  pub withholds : Withholds
