-- `bytes_le::load_le` meets its contract: with zeros behind them, the bytes are those of a word.
-- Assumes nothing.
use Rattle.std.proofs.Common.{◌≡◌, ℕ, List, ◌+◌, ◌-◌, ◌++◌, arith, take, drop, replicate, ap, ◌∙◌}
use Rattle.std.specs.Int.{w64, from_le_bytes}
use Rattle.bytes_le.proofs.Loads.{loaded, all-bytes}
use Rattle.bytes_le.proofs.load_le.Goals as goal

pub returns : goal.returns
returns c =
    let a = c.args in
    let k : a.at + a.n - a.at ≡ a.n = omega arith in
    loaded a.b.now a.at a.n _ (all-bytes a.b.now (λ i. (c.type_inv.b i).fits)) c.requires.0 c.requires.1 c.from_le_bytes.type_inv
    (c.from_le_bytes.ensures ∙ ap (λ (r : List ℕ). from_le_bytes w64 (r ++ drop a.n (replicate 8 0))) (c.copy_from_slice.ensures.after ∙ ap (λ (i : ℕ). take i (drop a.at a.b.now)) k))
