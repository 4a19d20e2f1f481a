-- The line that the program prints for a verdict, in ASCII. The words are ours: 02, N9 has the verdict.
-- Assumes nothing.
use Rattle.std.specs.Prelude.{◌++◌, ℕ}
use Rattle.bytes_le.specs.Bytes.{Bytes}
use Rattle.plain_text.specs.Text.{ascii, field}
use Rattle.round_log.specs.RoundLog.{Verdict, Agrees, Differs, Refused}

abbrev pub line : Verdict → Bytes
line (Agrees r) = field (ascii "agrees, ") r ++ ascii " rounds\n"
line (Differs i) = field (ascii "round ") i ++ ascii " differs\n"
line (Refused n) = field (ascii "refused ") n ++ ascii "\n"

-- room for every line
abbrev pub line_room : ℕ
line_room = 36
