-- A planned burst carried out: a begin, a keep or a drop for each shot, and a close (02, N4).
-- Assumes nothing.
use Rattle.std.specs.Prelude.{List, [], ◌∷◌, ◌++◌, ◌≢◌, ◌≡◌, ℕ, ◌≤◌, length}
use Rattle.bytes_le.specs.Bytes.{Bytes}
use Rattle.burst.specs.Parts.{key_length, mark_length}
use Rattle.burst.specs.Layout.{Identity}
use Rattle.trace.specs.Plain.{Call, keep_shot, drop_shot, close_burst, CallList, Answer}

-- the planned lengths of calls: of a keep its picture's, of a drop 0
abbrev pub planned_by : List Call → List ℕ
planned_by [] = []
planned_by (keep_shot s p ∷ cs) = length p ∷ planned_by cs
planned_by (drop_shot way ∷ cs) = 0 ∷ planned_by cs
planned_by (close_burst ∷ cs) = planned_by cs

-- calls that carry out a plan: keeps of pictures that are not empty, with stamps of the right length, and drops
abbrev pub OnlyShots : List Call → Type 0
OnlyShots [] = Unit {0}
OnlyShots (keep_shot s p ∷ cs) = ((length s ≡ mark_length) × (1 ≤ length p)) × OnlyShots cs
OnlyShots (drop_shot way ∷ cs) = OnlyShots cs
OnlyShots (close_burst ∷ cs) = ⊥

-- what begin is given, but for the buffer: nothing that it refuses
pub record Beginnable (key : Bytes) (i : Identity) : Type 0 where
  pub key_fits : length key ≡ key_length
  pub mark_fits : length i.site_mark ≡ mark_length
  pub numbered : i.name.camera ≢ 0

-- the list of all calls, on a buffer of n bytes
abbrev pub carried_out : (key : Bytes) (i : Identity) (n : ℕ) → List Call → CallList
carried_out key i n cs = record { key = key; identity = i; buffer_length = n; calls = cs ++ (close_burst ∷ []) }

-- no call was refused
abbrev pub AllDone : List Answer → Type 0
AllDone [] = Unit {0}
AllDone (a ∷ rest) = (a.number ≡ 0) × AllDone rest
