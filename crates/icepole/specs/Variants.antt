-- The three variants (003, 2.2, 2.7, 2.10 and 2.11; 01, "Sealing and opening").
-- Assumes nothing.
use Rattle.blocks.specs.declared.Sizes.{Sizes}
use Rattle.icepole.specs.declared.Variant.{Variant}
use Rattle.icepole.specs.declared.Variant.TheVariants.{Icepole128, Icepole128a, Icepole256a}

-- the sizes of key, nonce, secret number and block, in bytes
abbrev pub sizes : Variant → Sizes
sizes Icepole128 = record { key = 16; nonce = 16; secret = 16; block = 128 }
sizes Icepole128a = record { key = 16; nonce = 12; secret = 0; block = 128 }
sizes Icepole256a = record { key = 32; nonce = 12; secret = 0; block = 120 }
