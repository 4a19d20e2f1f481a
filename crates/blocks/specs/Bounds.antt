-- The sizes that the functions of this crate are proved for; no contract of a public call and no claim names this file. Those of the three variants are among
-- them (`icepole/proofs/Bounds.antt`).
-- Assumes nothing.
use Rattle.std.specs.Prelude.{◌≡◌, ◌≤◌, ◌<◌, ◌%◌}
use Rattle.state_bytes.specs.StateBytes.{state_length}
use Rattle.blocks.specs.declared.Sizes.{Sizes}
use Rattle.blocks.specs.Lengths.{max_key, max_nonce, max_secret}

pub record Bounded (q : Sizes) : Type 0 where
  pub key : q.key ≤ max_key
  pub nonce : q.nonce ≤ max_nonce
  pub secret : q.secret ≤ max_secret
  -- a block is not empty, is shorter than the state, and is whole words
  pub some : 0 < q.block
  pub block : q.block < state_length
  pub whole : q.block % 8 ≡ 0
