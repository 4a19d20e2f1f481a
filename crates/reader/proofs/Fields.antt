-- Entries are the same where their fields are.
-- Assumes nothing.
use mathlib.Core.Path.{◌≡◌}
use Prim.Native.Nat.{ℕ}
use Rattle.burst.specs.declared.Entry.{Entry}

abbrev entry : ℕ → ℕ → ℕ → ℕ → Entry
entry s z o n = record { shot = record { 0 = s }; zeros = z; offset = o; length = n }

pub entry-same : {s s' z z' o o' n n' : ℕ} → s ≡ s' → z ≡ z' → o ≡ o' → n ≡ n' → entry s z o n ≡ entry s' z' o' n'
entry-same a b c d = cc
