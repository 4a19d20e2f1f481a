-- The C calls of sealing and opening (01, "Sealing and opening"; 02, N6), over the variant: `SealContract`, `OpenContract` and `InPlaceContract` are the
-- contracts of sealing, opening and opening in place, three calls each.
-- Opening puts the message's length (8 bytes) and then the secret number at the front of a further lent slice, here called info.
-- Assumes nothing.
use Rattle.std.specs.Prelude.{◌≡◌, Bool, ◌&&◌, ◌++◌, ℕ, ◌+◌, leb, length, take}
use Rattle.bytes_le.specs.Bytes.{Bytes, put_bytes, le}
use Rattle.icepole.specs.Answers.{Opened}
use Rattle.icepole.specs.declared.Variant.{Variant}
use Rattle.icepole.specs.Variants.{sizes}
use Rattle.icepole.specs.Answers.{seal_refusal, seal_output, open_answer, open_output, fits_output, unless}

-- a call that is lent these, ad being the joining of its two parts, returns r and leaves the output as out'
abbrev pub SealContract : Variant → (key nonce secret ad m out : Bytes) → ℕ → Bytes → Type 0
SealContract v key nonce secret ad m out r out' = (r ≡ seal_refusal v key nonce secret ad m out) × (out' ≡ seal_output v key nonce secret ad m out)

-- how many bytes of info are written
abbrev pub info_length : Variant → ℕ
info_length v = 8 + (sizes v).secret

-- info after an opening that answers r, with a secret number of n bytes
abbrev pub info_after : Opened → ℕ → Bytes → Bytes
info_after r n info = unless r.refusal info (put_bytes info 0 (le 8 r.length ++ take n r.secret))

module _ (v : Variant) (key nonce ad c out info : Bytes) where
  -- whether info and out are both long enough; else 5
  abbrev pub fits_both : Bool
  fits_both = leb (info_length v) (length info) && fits_output v c out

  -- what opening answers: the C call returns its number and puts the rest into info
  abbrev pub open_call_answer : Opened
  open_call_answer = open_answer v key nonce ad c fits_both

  abbrev pub open_call_refusal : ℕ
  open_call_refusal = open_call_answer.refusal

  abbrev pub open_call_output : Bytes
  open_call_output = open_output v key nonce ad c fits_both out

  unfoldable pub open_call_info : Bytes
  open_call_info = info_after open_call_answer (sizes v).secret info

  -- the call returns r and leaves the output as out' and the further slice as info'
  abbrev pub OpenContract : ℕ → Bytes → Bytes → Type 0
  OpenContract r out' info' = (r ≡ open_call_refusal) × (out' ≡ open_call_output) × (info' ≡ open_call_info)

-- opening in place: c is the sealed message, and the output too. The message always fits into it (`claims/specs/InPlace.antt`), so 5 is for info alone
abbrev pub InPlaceContract : Variant → (key nonce ad c info : Bytes) → ℕ → Bytes → Bytes → Type 0
InPlaceContract v key nonce ad c info r c' info' = OpenContract v key nonce ad c c info r c' info'
