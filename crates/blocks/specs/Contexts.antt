-- What a message is sealed and opened under, as the list of bytes that the other definitions take.
-- Assumes nothing.
use Rattle.std.specs.Prelude.{◌++◌, length}
use Rattle.bytes_le.specs.Bytes.{Bytes}
use Rattle.blocks.specs.declared.Context.{Context}
use Rattle.blocks.specs.declared.Lengths.{Lengths}

-- the associated data: its two parts, joined
abbrev pub associated : Context → Bytes
associated x = x.first.now ++ x.second.now

-- the lengths of its parts
abbrev pub lengths_of : Context → Lengths
lengths_of x = record { key = length x.key.now; nonce = length x.nonce.now; first = length x.first.now; second = length x.second.now }
