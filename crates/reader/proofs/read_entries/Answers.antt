-- `reader::read_entries` meets its contract. The loop's invariant: the first i entries are read.
-- Assumes nothing.
use mathlib.Core.Path.{refl}
use native.Mathlib.Omega.{arith}
use Rattle.reader.specs.Front.{entries_at}
use Rattle.reader.proofs.Rules.{read-turn}
use Rattle.reader.proofs.read_entries.Goals as goal

pub loop-i-init : goal.loop-i-init
unfolding entries_at
loop-i-init c = refl

pub loop-i-preserved : goal.loop-i-preserved
loop-i-preserved c =
    let l = c.loop-i in
    read-turn l.entries c.args.f.now c.args.start l.i _ (omega (arith, c.loop-i-test, l.auto.entries)) c.entry_at.ensures l.invariant
