-- What the C calls of include/core.h return and write.
-- Assumes nothing.
use Rattle.std.specs.Prelude.{cond, ℕ, eqb, ltb, length, take}
use Rattle.bytes_le.specs.Bytes.{Bytes, put_bytes}
use Rattle.permutation.specs.Permutation.{max_rounds}
use Rattle.state_bytes.specs.StateBytes.{state_length, bytes_of, state_of}
use Rattle.round_log.specs.RoundLog.{Verdict, Agrees, Differs, Refused}
use Rattle.rounds_back.specs.Driven.{ran, too_many_rounds}
use Rattle.rounds_back.specs.declared.Direction.{Direction}

-- ---- icepole_check_log, by the verdict on the log
-- the number returned
abbrev pub call_refusal : Verdict → ℕ
call_refusal (Agrees r) = 0
call_refusal (Differs i) = 0
call_refusal (Refused n) = n

-- 1 where every round agrees, else 0
abbrev pub call_agrees : Verdict → ℕ
call_agrees (Agrees r) = 1
call_agrees (Differs i) = 0
call_agrees (Refused n) = 0

-- how many rounds agree where all do, else the first that differs; 0 for what is no log
abbrev pub call_round : Verdict → ℕ
call_round (Agrees r) = r
call_round (Differs i) = i
call_round (Refused n) = 0

-- ---- icepole_rounds_back and icepole_rounds_forward, for r rounds (02, N10)
-- the number returned, for a slice of n bytes: 20, then 5
abbrev pub rounds_refusal : ℕ → ℕ → ℕ
rounds_refusal r n = cond (ltb max_rounds r) too_many_rounds (cond (ltb n state_length) 5 0)

-- the slice b afterwards: its first 160 bytes are those of the state that the rounds come to, the others stay; where it is refused, all stay
unfoldable pub after_rounds : Direction → ℕ → Bytes → Bytes
after_rounds direction r b = cond (eqb (rounds_refusal r (length b)) 0) (put_bytes b 0 (bytes_of (ran direction r (state_of (take state_length b))))) b
