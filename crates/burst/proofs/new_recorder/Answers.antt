-- `burst::new_recorder` meets its contract.
-- Assumes nothing.
use mathlib.Core.Path.{ap}
use lib.ListN.{replicate}
use Rattle.burst.specs.declared.Entry.{Entry}
use Rattle.burst.specs.declared.Recorder.{Recorder}
use Rattle.burst.specs.Editions.{max_entries}
use Rattle.burst.specs.Recorder.{new_recorder}
use Rattle.burst.proofs.new_recorder.Goals as goal

pub returns : goal.returns
unfolding new_recorder
returns c =
    let a = c.args in
    ap (λ (x : Entry). let r : Recorder = record {
      key = a.key;
      burst_number = a.name.burst_number;
      site_mark = a.site_mark;
      taken = record { 0 = 0 };
      kept = record { 0 = 0 };
      used = a.used;
      entries = replicate max_entries x;
      closed = a.closed;
      camera = a.name.camera;
    } in r) c.no_entry-none.ensures
