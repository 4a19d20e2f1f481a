-- Lanes 0 to 4 of Keccak-f[1600] of the zero state, of which N8 makes no starting word. The numbers are those of the Rust reference, whose tests find them here, and
-- are widely known.
-- Assumes nothing.
use Rattle.std.specs.Prelude.{List, [], ◌∷◌, ℕ}

abbrev pub first_lanes : List ℕ
first_lanes = 0xF1258F7940E1DDE7 ∷ 0x84D5CCF933C0478A ∷ 0xD598261EA65AA9EE ∷ 0xBD1547306F80494D ∷ 0x8B284E056253D057 ∷ []
