-- A sealed part of the burst file: a record, or the closing seal, which has shot number 0 (01, "The burst file"; 02, N1, N4). It holds a mark, which is the stamp or
-- the site mark, and a body. (The mark that goes with a refusal number is another.)
-- Here the cipher is chosen; recorder, reader and demand 3 name no variant.
-- Assumes nothing.
use Rattle.std.specs.Prelude.{Bool, cond, List, ◌++◌, ℕ, ◌+◌, ◌-◌, ◌<◌, ◌^◌, length, replicate}
use Rattle.bytes_le.specs.Bytes.{Bytes, le, put_bytes}
use Rattle.icepole.specs.declared.Variant.TheVariants.{Icepole128}
use Rattle.icepole.specs.Variants.{sizes}
use Rattle.blocks.specs.Lengths.{tag_length}
use Rattle.blocks.specs.Sealing.{sealed, secret_of, message_of}
use Rattle.padded_blocks.specs.PaddedBlocks.{seal_blocks, Permuting, seal_calls}
use Rattle.icepole.specs.Answers.{Opened, tag_agrees, opened_answer, unless}
use Rattle.burst.specs.declared.Edition.{Edition}
use Rattle.burst.specs.declared.Name.{Name}
use Rattle.burst.specs.Fields.{count_width, burst_number_width, camera_width}
use Rattle.burst.specs.Editions.{camera_held}

-- bytes of the key
abbrev pub key_length : ℕ
key_length = (sizes Icepole128).key

-- bytes of a mark: of a stamp, or of the site mark
abbrev pub mark_length : ℕ
mark_length = (sizes Icepole128).secret

-- what stands for a stamp or a site mark in the answer of a refused call
abbrev pub no_mark : Bytes
no_mark = replicate mark_length 0

-- bytes by which sealing lengthens: the sealed mark and the tag. A closing seal has no more
abbrev pub seal_length : ℕ
seal_length = mark_length + tag_length

-- what the types of begin's arguments say of a name: burst number and camera number fit their fields
abbrev pub Fits : Name → Type 0
Fits name = (name.burst_number < 256 ^ burst_number_width) × (name.camera < 256 ^ camera_width)

-- the name of a burst of an edition, from what its begin is given
abbrev pub name_held : Edition → Name → Name
name_held e name = record { burst_number = name.burst_number; camera = camera_held e name.camera }

-- nonce: burst number, shot number, camera number, two zeros. A burst of edition 1 holds camera number 0 (`name_held`), so that six zeros end its nonces
unfoldable pub nonce_of : Edition → Name → (shot : ℕ) → Bytes
nonce_of e name shot =
    le burst_number_width name.burst_number ++ (le count_width shot ++ (le camera_width name.camera ++ replicate 2 0))

-- how many padded blocks sealing a part absorbs (02, N4)
unfoldable pub part_blocks : Edition → (mark associated body : Bytes) → ℕ
part_blocks e mark associated body = seal_blocks (sizes Icepole128).block mark associated body

module _ (e : Edition) (key : Bytes) (name : Name) (shot : ℕ) where
  -- ---- sealing: ICEPOLE-128, with the mark as the secret number and the body as the message
  unfoldable pub seal_part : (mark associated body : Bytes) → Bytes
  seal_part mark associated body = sealed (sizes Icepole128) key (nonce_of e name shot) mark associated body

  -- the calls of the permutation that this makes
  unfoldable pub part_calls : (mark associated body : Bytes) → List Permuting
  part_calls mark associated body = seal_calls (sizes Icepole128).block key (nonce_of e name shot) mark associated body

  -- ---- opening the sealed bytes c: whether the tag agrees, the mark, and the body
  module _ (associated c : Bytes) where
    unfoldable pub part_agrees : Bool
    part_agrees = tag_agrees (sizes Icepole128) key (nonce_of e name shot) associated c

    unfoldable pub part_mark : Bytes
    part_mark = secret_of (sizes Icepole128) key (nonce_of e name shot) c

    unfoldable pub part_body : Bytes
    part_body = message_of (sizes Icepole128) key (nonce_of e name shot) associated c

    -- ---- what verifying and opening answer where every length is right: the tag alone decides
    unfoldable pub part_refusal : ℕ
    part_refusal = cond part_agrees 0 7

    -- the body's length, and the mark in the field of the secret number
    unfoldable pub part_answer : Opened
    part_answer = opened_answer part_refusal (length c - seal_length) part_mark

    unfoldable pub part_output : (out : Bytes) → Bytes
    part_output out = unless part_refusal out (put_bytes out 0 part_body)
