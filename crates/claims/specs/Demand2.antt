-- Demand 2. "Sealing equals ICEPOLE-128, 128a and 256a .. on every message within the limits; opening returns the message for exactly those bytes that
-- sealing gives under the same key, nonce and associated data." It is about what the calls answer and leave: the contracts of `icepole::seal`, `verify` and
-- `open_message` say that their answers are `seal_answer` and `open_answer`, and that the output is then `seal_output` and `open_output`, where ad is the joining
-- of the two parts. `fits` says whether the answer fits into what is lent for it: `fits_output` for `open_message`, `fits_both` for the C opening, true for `verify`.
-- The C opening returns the number of that answer, and puts its length and secret number into the further slice (`open_call_info`).
-- Assumes nothing.
use Rattle.std.specs.Prelude.{◌≡◌, Bool, true, [], ◌++◌, ℕ, ◌+◌, ◌≤◌, length}
use Rattle.bytes_le.specs.Bytes.{Bytes, AllBytes, le, put_bytes}
use Rattle.icepole.specs.declared.Variant.{Variant}
use Rattle.icepole.specs.Answers.{Sealed}
use Rattle.icepole.specs.Answers.{Opened}
use Rattle.icepole.specs.Variants.{sizes}
use Rattle.blocks.specs.Lengths.{tag_length, max_length}
use Rattle.blocks.specs.Sealing.{sealed}
use Rattle.icepole.specs.Answers.{no_secret, seal_answer, seal_output, opened_answer, open_refusal, open_answer, open_output, fits_output}
use Rattle.icepole_c.specs.Calls.{info_length, open_call_refusal, open_call_output, open_call_info}

-- key, nonce and secret number have the variant's lengths, and the data is within the limits
pub record Within (v : Variant) (key nonce secret ad m : Bytes) : Type 0 where
  pub key_length : length key ≡ (sizes v).key
  pub nonce_length : length nonce ≡ (sizes v).nonce
  pub secret_length : length secret ≡ (sizes v).secret
  pub associated_length : length ad ≤ max_length
  pub message_length : length m ≤ max_length

-- done: number 0, mark 0, and the count of bytes written
abbrev pub seal_done : ℕ → Sealed
seal_done count = record { refusal = 0; mark = 0; count = count }

-- done: number 0, mark 0, the message's length, and the secret number, with zeros up to the longest one's length
abbrev pub open_done : ℕ → Bytes → Opened
open_done count secret = record { refusal = 0; mark = 0; length = count; secret = put_bytes no_secret 0 secret }

-- c is what sealing gives for some secret number and message within the limits, and these are what opening c answers and writes
pub record GenuineMessage (v : Variant) (key nonce ad c : Bytes) (fits : Bool) : Type 0 where
  pub secret : Bytes
  pub message : Bytes
  pub within : Within v key nonce secret ad message
  pub sealed_is : c ≡ sealed (sizes v) key nonce secret ad message
  pub room : fits ≡ true
  pub answer : open_answer v key nonce ad c fits ≡ open_done (length message) secret
  pub output : (out : Bytes) → open_output v key nonce ad c fits out ≡ put_bytes out 0 message
  pub bytes : AllBytes c → AllBytes secret × AllBytes message

pub record Demand2 : Type 0 where
  -- sealing within the limits, into an output with room, is done, and writes the sealed message at its front
  pub seals : (v : Variant) (key nonce secret ad m out : Bytes) → Within v key nonce secret ad m → (sizes v).secret + (length m + tag_length) ≤ length out
      → (seal_answer v key nonce secret ad m out ≡ seal_done ((sizes v).secret + (length m + tag_length)))
      × (seal_output v key nonce secret ad m out ≡ put_bytes out 0 (sealed (sizes v) key nonce secret ad m))
  -- a sealed message is the secret number and the tag longer than its message
  pub sealed_length : (v : Variant) (key nonce secret ad m : Bytes) → Within v key nonce secret ad m
      → length (sealed (sizes v) key nonce secret ad m) ≡ (sizes v).secret + (length m + tag_length)
  -- opening what sealing gives, where the answer fits, is done, and gives back secret number and message
  pub opens : (v : Variant) (key nonce secret ad m : Bytes) → Within v key nonce secret ad m
      → (open_answer v key nonce ad (sealed (sizes v) key nonce secret ad m) true ≡ open_done (length m) secret)
      × ((out : Bytes) → open_output v key nonce ad (sealed (sizes v) key nonce secret ad m) true out ≡ put_bytes out 0 m)
  -- it fits into an output with room for the message
  pub fits : (v : Variant) (key nonce secret ad m out : Bytes) → Within v key nonce secret ad m → length m ≤ length out
      → fits_output v (sealed (sizes v) key nonce secret ad m) out ≡ true
  -- in C, with room in the output and in the further slice: the message, and its length (8 bytes) with the secret number, at their fronts
  pub opens_in_c : (v : Variant) (key nonce secret ad m out info : Bytes) → Within v key nonce secret ad m → length m ≤ length out → info_length v ≤ length info
      → (open_call_refusal v key nonce ad (sealed (sizes v) key nonce secret ad m) out info ≡ 0)
      × (open_call_output v key nonce ad (sealed (sizes v) key nonce secret ad m) out info ≡ put_bytes out 0 m)
      × (open_call_info v key nonce ad (sealed (sizes v) key nonce secret ad m) out info ≡ put_bytes info 0 (le 8 (length m) ++ secret))
  -- opening is done only on what sealing gives
  pub only : (v : Variant) (key nonce ad c : Bytes) (fits : Bool) → open_refusal v key nonce ad c fits ≡ 0 → GenuineMessage v key nonce ad c fits
  -- otherwise it gives nothing: the answer is the number with zeros, and the output stays
  pub withholds : (v : Variant) (key nonce ad c : Bytes) (fits : Bool) → (open_refusal v key nonce ad c fits ≡ 0 → ⊥)
      → (open_answer v key nonce ad c fits ≡ opened_answer (open_refusal v key nonce ad c fits) 0 [])
      × ((out : Bytes) → open_output v key nonce ad c fits out ≡ out)
