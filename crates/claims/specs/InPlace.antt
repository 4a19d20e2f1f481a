-- Change request N6 (02): "Playback units have memory for one picture. Opening is also offered on a single buffer: the sealed message goes in, and on success the
-- plain message stands at its front, the other bytes being as they were. It gives the same number, length and secret number as the two-buffer opening with a long
-- enough output, on every input, and a refusal leaves the sealed bytes. The output check (5) cannot occur here."
-- The whole buffer is the sealed message, here c; ad is the joining of the two parts of associated data. The contract of `icepole::open_in_place` is that it answers
-- `in_place_answer` and leaves `in_place_buffer` in the buffer. The C calls return `open_call_refusal` and leave `open_call_output` and `open_call_info`, as the C opening does,
-- with c for the output (`InPlaceContract`). The order of the numbers is a part of demand 1.
-- Assumes nothing.
use Rattle.std.specs.Prelude.{true, ◌++◌, ◌≢◌, ◌≡◌, ◌≤◌, ◌<◌, length, take, drop}
use Rattle.bytes_le.specs.Bytes.{Bytes}
use Rattle.blocks.specs.Sealing.{sealed}
use Rattle.icepole.specs.declared.Variant.{Variant}
use Rattle.icepole.specs.Answers.{Opened}
use Rattle.icepole.specs.Variants.{sizes}
use Rattle.icepole.specs.Answers.{open_answer, open_output, open_length, fits_output}
use Rattle.icepole_c.specs.Calls.{info_length, info_after, open_call_refusal, open_call_output, open_call_info}
use Rattle.claims.specs.Demand2.{Within, GenuineMessage, open_done}

module _ (v : Variant) (key nonce ad c : Bytes) where
  -- what opening answers where the message fits
  abbrev pub in_place_answer : Opened
  in_place_answer = open_answer v key nonce ad c true

  -- what opening then leaves in an output that holds the sealed message
  abbrev pub in_place_buffer : Bytes
  in_place_buffer = open_output v key nonce ad c true c

  -- ---- beside the two-buffer opening of c into out, where that is long enough
  module _ (out : Bytes) where
    pub record BesideOpening : Type 0 where
      -- "the same number, length and secret number", and the same mark
      pub answers : in_place_answer ≡ open_answer v key nonce ad c (fits_output v c out)
      -- the bytes of the message are the same at both fronts; where the call is refused the length is 0
      pub fronts : take in_place_answer.length in_place_buffer ≡ take in_place_answer.length (open_output v key nonce ad c (fits_output v c out) out)

    -- in C: the numbers, the whole of info, and the fronts
    module _ (info : Bytes) where
      pub record BesideOpeningInC : Type 0 where
        pub numbers : open_call_refusal v key nonce ad c c info ≡ open_call_refusal v key nonce ad c out info
        pub infos : open_call_info v key nonce ad c c info ≡ open_call_info v key nonce ad c out info
        pub fronts : open_call_refusal v key nonce ad c c info ≡ 0
            → take (open_length v c) (open_call_output v key nonce ad c c info) ≡ take (open_length v c) (open_call_output v key nonce ad c out info)

pub record InPlace : Type 0 where
  -- ---- "on success the plain message stands at its front, the other bytes being as they were": of what sealing gives
  pub opens : (v : Variant) (key nonce secret ad m : Bytes) → Within v key nonce secret ad m
      → let c : Bytes = sealed (sizes v) key nonce secret ad m in
      (in_place_answer v key nonce ad c ≡ open_done (length m) secret) × (in_place_buffer v key nonce ad c ≡ m ++ drop (length m) c)
  -- and only of that
  pub only : (v : Variant) (key nonce ad c : Bytes) → (in_place_answer v key nonce ad c).refusal ≡ 0
      → (g : GenuineMessage v key nonce ad c true) × (in_place_buffer v key nonce ad c ≡ g.message ++ drop (length g.message) c)
  -- ---- "the same .. as the two-buffer opening with a long enough output, on every input"
  pub alike : (v : Variant) (key nonce ad c out : Bytes) → open_length v c ≤ length out → BesideOpening v key nonce ad c out
  -- ---- "a refusal leaves the sealed bytes"
  pub refused : (v : Variant) (key nonce ad c : Bytes) → (in_place_answer v key nonce ad c).refusal ≢ 0 → in_place_buffer v key nonce ad c ≡ c
  -- ---- "The output check (5) cannot occur here": 5 is never the number, for the message that c implies always fits into c
  pub never_5 : (v : Variant) (key nonce ad c : Bytes) → (in_place_answer v key nonce ad c).refusal ≢ 5
  pub fits : (v : Variant) (c : Bytes) → fits_output v c c ≡ true
  -- ---- in C: where info is long enough, the same number and buffer; length and secret number go to the front of info where the number is 0, else it stays
  pub in_c : (v : Variant) (key nonce ad c info : Bytes) → info_length v ≤ length info
      → (open_call_refusal v key nonce ad c c info ≡ (in_place_answer v key nonce ad c).refusal)
      × (open_call_output v key nonce ad c c info ≡ in_place_buffer v key nonce ad c)
      × (open_call_info v key nonce ad c c info ≡ info_after (in_place_answer v key nonce ad c) (sizes v).secret info)
  -- 5 is for info alone
  pub five_in_c : (v : Variant) (key nonce ad c info : Bytes) → open_call_refusal v key nonce ad c c info ≡ 5 → length info < info_length v
  -- a refusal leaves the sealed bytes, and info, also where info is too short
  pub refused_in_c : (v : Variant) (key nonce ad c info : Bytes) → open_call_refusal v key nonce ad c c info ≢ 0
      → (open_call_output v key nonce ad c c info ≡ c) × (open_call_info v key nonce ad c c info ≡ info)
  pub alike_in_c : (v : Variant) (key nonce ad c out info : Bytes) → open_length v c ≤ length out → BesideOpeningInC v key nonce ad c out info
