-- The marked values of document 01, its example of burst 7 with what the lister prints for it, and its refusals by example and the order of every call's
-- (but 13, which takes an accepted file), as one table: what the definitions give, and what the document says. `proofs/Marked.antt` shows that the two
-- sides agree.
-- Assumes nothing.
use Rattle.std.specs.Prelude.{◌≡◌, true, false, List, [], ◌∷◌, ◌++◌, map, ℕ, ◌^◌, replicate, drop, set}
use Rattle.bits.specs.Bits.{bit, number}
use Rattle.bytes_le.specs.Bytes.{Bytes}
use Rattle.permutation.specs.State.{Grid, State, set_word, state}
use Rattle.permutation.specs.Permutation.{μ, ρ, π, sbox}
use Rattle.state_bytes.specs.StateBytes.{state_length, state_of}
use Rattle.blocks.specs.Sealing.{xor_with, pad}
use Rattle.icepole.specs.declared.Variant.TheVariants.{Icepole128}
use Rattle.icepole.specs.Variants.{sizes}
use Rattle.icepole.specs.Answers.{seal_number, open_number}
use Rattle.burst.specs.Editions.{edition1}
use Rattle.burst.specs.Parts.{nonce_of}
use Rattle.burst.specs.Layout.{closing_offset, identified}
use Rattle.burst.specs.Numbers.{begin_number, keep_number, drop_number, close_number}
use Rattle.trace.specs.Plain.{pictures, Plain, by_value, in_place, keep_shot, drop_shot, close_burst, CallList, Answer, used_of, total_of, header_of, index_of, plain_of, plain_answers}
use Rattle.reader.specs.Reader.{check_refusal, record_refusal, fetch_refusal}
use Rattle.strips.specs.Answers.{start_number, strip_number, end_number}
use Rattle.plain_text.specs.Text.{ascii}
use Rattle.listing.specs.Listing.{listing}

-- the state with S[x][y] = w and zeros elsewhere
abbrev pub only : ℕ → ℕ → ℕ → State
only x y w = set_word (state (λ a b. 0)) x y w

-- the S-box on the number whose five bits are M_0, M_1, .., M_4
abbrev pub sbox_of : ℕ → ℕ
sbox_of n = number 5 (sbox (bit n))

-- the zero state with a padded block xored in
abbrev pub xored_in : Bytes → ℕ → State
xored_in b frame = state_of (xor_with (replicate state_length 0) (pad b frame))

-- burst 7 with drop, keep of 3 bytes, drop (01, "Afterwards"), closed in a buffer of 111 bytes; the key, the site mark, the stamp and the picture do not
-- matter here, and neither does the camera number, which edition 1 does not have
abbrev pub list7 : CallList
list7 = record {
  key = replicate 16 0;
  identity = identified 7 5 (replicate 16 0);
  buffer_length = 111;
  calls = drop_shot by_value ∷ keep_shot (replicate 16 0) (replicate 3 0) ∷ drop_shot in_place ∷ close_burst ∷ [];
}

abbrev pub burst7 : Plain
burst7 = plain_of edition1 list7

-- 60 shots, the 61st, a close in 64 bytes, and a drop after it
abbrev pub list60 : CallList
list60 = record {
  key = replicate 16 0;
  identity = identified 7 5 (replicate 16 0);
  buffer_length = 64;
  calls = replicate 61 (drop_shot by_value) ++ (close_burst ∷ drop_shot in_place ∷ []);
}

-- each answer as its number, mark and value
abbrev answers : CallList → Grid
answers l = map (λ (a : Answer). a.number ∷ a.mark ∷ a.value ∷ []) (plain_answers edition1 l)

-- the refusals of document 01's table by its examples, from the lengths alone; then the largest picture in the smallest buffer, one byte less, and one
-- byte more of picture
abbrev pub refusals : List ℕ
refusals =
    seal_number (sizes Icepole128) 15 16 16 0 3 35
    ∷ seal_number (sizes Icepole128) 16 12 16 0 3 35
    ∷ keep_number edition1 true 0 0 32 0 3 111
    ∷ seal_number (sizes Icepole128) 16 16 16 0 67108865 67108897
    ∷ seal_number (sizes Icepole128) 16 16 16 0 3 34
    ∷ open_number (sizes Icepole128) 16 16 0 31 true true
    ∷ open_number (sizes Icepole128) 16 16 0 35 true false
    ∷ drop_number edition1 false 3
    ∷ drop_number edition1 true 60
    ∷ keep_number edition1 true 0 0 32 16 0 111
    ∷ begin_number edition1 16 16 0 63
    ∷ keep_number edition1 true 0 0 32 16 1048576 1048684
    ∷ keep_number edition1 true 0 0 32 16 1048576 1048683
    ∷ keep_number edition1 true 0 0 32 16 1048577 1048685
    ∷ []

-- 0100 0300 0100 0200 0700000000000000 20000000 43000000 4F000000 6F000000
abbrev pub header7 : Bytes
header7 =
    0x01 ∷ 0x00 ∷ 0x03 ∷ 0x00 ∷ 0x01 ∷ 0x00 ∷ 0x02 ∷ 0x00
    ∷ 0x07 ∷ 0x00 ∷ 0x00 ∷ 0x00 ∷ 0x00 ∷ 0x00 ∷ 0x00 ∷ 0x00
    ∷ 0x20 ∷ 0x00 ∷ 0x00 ∷ 0x00 ∷ 0x43 ∷ 0x00 ∷ 0x00 ∷ 0x00
    ∷ 0x4F ∷ 0x00 ∷ 0x00 ∷ 0x00 ∷ 0x6F ∷ 0x00 ∷ 0x00 ∷ 0x00
    ∷ []

-- the front of burst 7 with zeros for its seals, which the lister does not look at; and with another kept
abbrev pub front7 : ℕ → Bytes
front7 kept =
    set (header_of edition1 burst7) 4 kept ++ (replicate 35 0 ++ (index_of edition1 burst7 ++ replicate 32 0))

-- strip after end, an end after it, a count above the maximum; then the largest sum, and one byte more
abbrev pub strip_refusals : List ℕ
strip_refusals =
    strip_number true 3 3 3
    ∷ end_number true 3 16
    ∷ strip_number false 67108865 0 0
    ∷ strip_number false 67108863 1 1
    ∷ strip_number false 67108864 1 1
    ∷ []

-- ---- the orders (01, "Turned down, by example")
-- for each two neighbours of an order a call of which both conditions hold, and whose number is the first one's. So no two can change places
-- 1 and 2, 2 and 3, 3 and 4, 4 and 5
abbrev pub seal_order : List ℕ
seal_order =
    seal_number (sizes Icepole128) 15 12 16 0 3 35
    ∷ seal_number (sizes Icepole128) 16 12 0 0 3 35
    ∷ seal_number (sizes Icepole128) 16 16 0 0 67108865 67108897
    ∷ seal_number (sizes Icepole128) 16 16 16 0 67108865 0
    ∷ []

-- 1 and 2, 2 and 4, 4 (of the associated data) and 6, 6 and 5 (of a further slice), 5 and 7; then a message that is too long by what its sealed message
-- implies, with 5
abbrev pub open_order : List ℕ
open_order =
    open_number (sizes Icepole128) 15 12 0 35 true true
    ∷ open_number (sizes Icepole128) 16 12 67108865 35 true true
    ∷ open_number (sizes Icepole128) 16 16 67108865 31 true true
    ∷ open_number (sizes Icepole128) 16 16 0 31 false true
    ∷ open_number (sizes Icepole128) 16 16 0 35 false false
    ∷ open_number (sizes Icepole128) 16 16 0 67108897 false true
    ∷ []

-- 1 and 2, 2 and 3, 3 and 4, 4 and 5; then 5 alone
abbrev pub start_order : List ℕ
start_order =
    start_number (sizes Icepole128) 15 12 16 0 16
    ∷ start_number (sizes Icepole128) 16 12 0 0 16
    ∷ start_number (sizes Icepole128) 16 16 0 67108865 16
    ∷ start_number (sizes Icepole128) 16 16 16 67108865 15
    ∷ start_number (sizes Icepole128) 16 16 16 0 15
    ∷ []

-- 14 and 4, 4 (of the sum) and 5, 5 alone
abbrev pub strip_order : List ℕ
strip_order = strip_number true 3 67108865 67108865 ∷ strip_number false 3 67108862 0 ∷ strip_number false 3 3 2 ∷ []

-- 14 and 5, 5 alone
abbrev pub end_order : List ℕ
end_order = end_number true 3 15 ∷ end_number false 3 15 ∷ []

-- 1 and 3, 3 and 11
abbrev pub begin_order : List ℕ
begin_order = begin_number edition1 15 15 0 64 ∷ begin_number edition1 16 15 0 63 ∷ []

-- 8 and 3, 3 and 9, 9 and 10, 10 and 11
abbrev pub keep_order : List ℕ
keep_order =
    keep_number edition1 false 0 0 32 0 3 111
    ∷ keep_number edition1 true 60 0 32 0 3 111
    ∷ keep_number edition1 true 60 0 32 16 0 111
    ∷ keep_number edition1 true 0 0 32 16 0 107
    ∷ []

-- drop's 8 and 9; close's 8 and 11, 11 alone
abbrev pub drop_close_order : List ℕ
drop_close_order = drop_number edition1 false 60 ∷ close_number false 0 32 63 ∷ close_number true 0 32 63 ∷ []

-- check's 1 and 12. Its 12 and 7: the seals of this file are zeros, which would give 7 if that came first. Fetch's and record's check with 13 and fetch's 5:
-- place 0 of a file with kept 0, whose entry says 3 bytes, and no output. 13 and 5 hold together without check's only of an accepted file, which is not
-- worked out here; `Demand1` has that order
abbrev pub read_order : List ℕ
read_order =
    check_refusal (replicate 15 0) (front7 0)
    ∷ check_refusal (replicate 16 0) (front7 0)
    ∷ fetch_refusal (replicate 15 0) (front7 0) 0 []
    ∷ fetch_refusal (replicate 16 0) (front7 0) 0 []
    ∷ record_refusal (replicate 15 0) (front7 0) 0
    ∷ record_refusal (replicate 16 0) (front7 0) 0
    ∷ []

pub record Row : Type 0 where
  pub given : Grid
  pub said : Grid

infix 20 ◌is◌
-- a definition's value, and the value that the document marks
abbrev pub ◌is◌ : Grid → Grid → Row
a is b = record { given = a; said = b }

-- a number as a grid of one entry, so that the table has one type
abbrev pub the : ℕ → Grid
the n = (n ∷ []) ∷ []

abbrev pub marked : List Row
marked =
    (μ (only 0 0 1) is set_word (set_word (set_word (only 0 1 1) 1 0 1) 2 0 1) 3 0 1)
    ∷ (the (sbox_of 0) is the 31)
    ∷ (the (sbox_of 31) is the 0)
    ∷ (the (sbox_of 1) is the 9)
    ∷ (π (only 0 0 0x0123456789ABCDEF) is only 0 1 0x0123456789ABCDEF)
    ∷ (π (only 3 4 0x0123456789ABCDEF) is only 3 3 0x0123456789ABCDEF)
    ∷ (ρ (only 1 0 (2 ^ 63)) is only 1 0 1)
    ∷ (xored_in [] 0 is only 0 0 2)
    ∷ (xored_in (replicate 128 0) 1 is only 0 4 3)
    ∷ ((header_of edition1 burst7 ∷ []) is (header7 ∷ []))
    ∷ (the (used_of edition1 burst7) is the 67)
    ∷ (the (closing_offset (used_of edition1 burst7) (pictures burst7.shots)) is the 79)
    ∷ (the (total_of edition1 burst7) is the 111)
    ∷ (answers list7 is ((0 ∷ 0 ∷ 0 ∷ []) ∷ (0 ∷ 0 ∷ 1 ∷ []) ∷ (0 ∷ 0 ∷ 2 ∷ []) ∷ (0 ∷ 0 ∷ 3 ∷ []) ∷ (0 ∷ 0 ∷ 111 ∷ []) ∷ []))
    ∷ ((index_of edition1 burst7 ∷ []) is ((0x02 ∷ 0x00 ∷ 0x00 ∷ 0x00 ∷ 0x20 ∷ 0x00 ∷ 0x00 ∷ 0x00 ∷ 0x03 ∷ 0x00 ∷ 0x00 ∷ 0x00 ∷ []) ∷ []))
    ∷ ((nonce_of edition1 burst7.identity.name 2 ∷ []) is ((0x07 ∷ replicate 7 0 ++ (0x02 ∷ replicate 7 0)) ∷ []))
    ∷ (drop 60 (answers list60) is ((0 ∷ 0 ∷ 60 ∷ []) ∷ (9 ∷ 0 ∷ 0 ∷ []) ∷ (0 ∷ 0 ∷ 64 ∷ []) ∷ (8 ∷ 0 ∷ 0 ∷ []) ∷ []))
    ∷ ((refusals ∷ []) is ((1 ∷ 2 ∷ 3 ∷ 4 ∷ 5 ∷ 6 ∷ 7 ∷ 8 ∷ 9 ∷ 10 ∷ 11 ∷ 0 ∷ 11 ∷ 10 ∷ []) ∷ []))
    ∷ (the (check_refusal (replicate 16 0) (front7 61)) is the 12)
    ∷ ((strip_refusals ∷ []) is ((14 ∷ 14 ∷ 14 ∷ 0 ∷ 4 ∷ []) ∷ []))
    ∷ ((seal_order ∷ []) is ((1 ∷ 2 ∷ 3 ∷ 4 ∷ []) ∷ []))
    ∷ ((open_order ∷ []) is ((1 ∷ 2 ∷ 4 ∷ 6 ∷ 5 ∷ 4 ∷ []) ∷ []))
    ∷ ((start_order ∷ []) is ((1 ∷ 2 ∷ 3 ∷ 4 ∷ 5 ∷ []) ∷ []))
    ∷ ((strip_order ∷ []) is ((14 ∷ 4 ∷ 5 ∷ []) ∷ []))
    ∷ ((end_order ∷ []) is ((14 ∷ 5 ∷ []) ∷ []))
    ∷ ((begin_order ∷ []) is ((1 ∷ 3 ∷ []) ∷ []))
    ∷ ((keep_order ∷ []) is ((8 ∷ 3 ∷ 9 ∷ 10 ∷ []) ∷ []))
    ∷ ((drop_close_order ∷ []) is ((8 ∷ 8 ∷ 11 ∷ []) ∷ []))
    ∷ ((read_order ∷ []) is ((1 ∷ 12 ∷ 1 ∷ 12 ∷ 1 ∷ 12 ∷ []) ∷ []))
    ∷ ((listing (front7 1) ∷ listing (front7 61) ∷ []) is (ascii "burst 7\ntaken 3 kept 1 dropped 2\nshot 2 at 32 length 3\n" ∷ ascii "front 12\n" ∷ []))
    ∷ ((listing (replicate 65536 0) ∷ listing (replicate 65537 0) ∷ []) is (ascii "front 12\n" ∷ ascii "front too long\n" ∷ []))
    ∷ []

-- every row's two sides agree
abbrev pub MarkedHold : Type 0
MarkedHold = map (λ (r : Row). r.given) marked ≡ map (λ (r : Row). r.said) marked
