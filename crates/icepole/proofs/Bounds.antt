-- The sizes of the three variants are sizes that the code is proved for.
-- Assumes nothing.
use native.Mathlib.Omega.{arith}
use mathlib.Core.Path.{◌≡◌, refl, sym, subst}
use Rattle.blocks.specs.Bounds.{Bounded}
use Rattle.blocks.specs.Lengths.{max_key, max_nonce, max_secret}
use Rattle.icepole.specs.Variants.{sizes}
use Rattle.blocks.specs.declared.Sizes.{Sizes}
use Rattle.icepole.specs.declared.Variant.{Variant}
use Rattle.icepole.specs.declared.Variant.TheVariants.{Icepole128, Icepole128a, Icepole256a}

pub bounded : (v : Variant) → Bounded (sizes v)
bounded Icepole128 = record { key = omega arith; nonce = omega arith; secret = omega arith; some = omega arith; block = omega arith; whole = omega arith }
bounded Icepole128a = record { key = omega arith; nonce = omega arith; secret = omega arith; some = omega arith; block = omega arith; whole = omega arith }
bounded Icepole256a = record { key = omega arith; nonce = omega arith; secret = omega arith; some = omega arith; block = omega arith; whole = omega arith }

-- the same, of sizes that equal a variant's
pub bounded-by : (v : Variant) (q : Sizes) → q ≡ sizes v → Bounded q
bounded-by v q e = subst (λ (q : Sizes). Bounded q) (sym e) (bounded v)

-- the lengths of `Lengths.antt` are those of the variants that have the longest
longest : (max_key ≡ (sizes Icepole256a).key) × (max_nonce ≡ (sizes Icepole128).nonce) × (max_secret ≡ (sizes Icepole128).secret)
longest = (refl, refl, refl)
