-- Every line has room.
-- Assumes nothing.
use mathlib.Core.List.{◌++◌}
use Prim.Native.Nat.{ℕ, ◌+◌, ◌≤◌}
use native.Mathlib.Omega.{arith}
use lib.ListN.{length, length-append}
use Rattle.bytes_le.specs.Bytes.{Bytes}
use Rattle.plain_text.specs.Text.{ascii, field}
use Rattle.plain_text.proofs.Puts.{field-length}
use Rattle.round_log.specs.RoundLog.{Verdict, Agrees, Differs, Refused}
use Rattle.check_round_log.specs.Line.{line, line_room}

words : (word rest : Bytes) (n : ℕ) → length word + (20 + length rest) ≤ line_room → length (field word n ++ rest) ≤ line_room
words word rest n h = let l = field-length word n in rw (length-append (field word n) rest) (omega arith)

pub line-length : (v : Verdict) → length (line v) ≤ line_room
line-length (Agrees r) = words (ascii "agrees, ") (ascii " rounds\n") r (omega arith)
line-length (Differs i) = words (ascii "round ") (ascii " differs\n") i (omega arith)
line-length (Refused n) = words (ascii "refused ") (ascii "\n") n (omega arith)
