-- `reader::name_in` meets its contract.
-- Assumes nothing.
use mathlib.Core.Path.{◌≡◌, sym, ap, ap₂, subst, ◌∙◌}
use Prim.Native.Nat.{ℕ, ◌≤◌}
use native.Mathlib.Omega.{arith}
use lib.ListN.{length}
use Rattle.burst.specs.declared.Edition.{Edition}
use Rattle.burst.specs.declared.Name.{Name}
use Rattle.burst.specs.Editions.{numbered}
use Rattle.burst.proofs.Rows.{numbered-known}
use Rattle.reader.specs.declared.Header.{Header}
use Rattle.reader.specs.Front.{edition_number_in, edition_in, camera_of}
use Rattle.reader.proofs.name_in.Goals as goal
use Rattle.reader.proofs.name_in.Goals.{After-edition_numbered-e}

-- the row is the file's own
own : (c : After-edition_numbered-e) → c.edition_numbered-e.result ≡ edition_in c.args.f.now
own c = c.edition_numbered-e.ensures.0 ∙ ap (λ (h : Header). numbered h.edition) c.header_in-h.ensures

pub header_in-h-requires : goal.header_in-h-requires
header_in-h-requires c = let k = numbered-known (edition_number_in c.args.f.now) in omega (arith, k.least, c.requires)

pub camera_in-camera-requires : goal.camera_in-camera-requires
camera_in-camera-requires c =
    (c.edition_numbered-e.ensures.1, subst (λ (e : Edition). e.header ≤ length c.args.f.now) (sym (own (goal.at.camera_in-camera-requires c).After-edition_numbered-e)) c.requires)

pub returns : goal.returns
returns c =
    ap₂ (λ (b n : ℕ). let name : Name = record { burst_number = b; camera = n } in name)
    (ap (λ (h : Header). h.burst_number) c.header_in-h.ensures)
    (c.camera_in-camera.ensures ∙ ap (λ (e : Edition). camera_of e c.args.f.now) (own (goal.at.returns c).After-edition_numbered-e))
