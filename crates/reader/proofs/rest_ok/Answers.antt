-- `reader::rest_ok` meets its contract: the camera number, then the zeros.
-- Assumes nothing.
use mathlib.Core.Path.{◌≡◌, sym, ap, ◌∙◌}
use Prim.Native.Nat.{ℕ, ◌+◌, ◌-◌}
use native.Mathlib.Omega.{arith}
use lib.ListN.{take, drop}
use Rattle.std.proofs.lemmas.List.{drop-take}
use Rattle.burst.specs.Editions.{no_camera}
use Rattle.burst.specs.Fields.{camera_at}
use Rattle.reader.specs.Front.{camera_of, all_zero, rest_rules}
use Rattle.reader.proofs.Rules.{all-zero}
use Rattle.reader.proofs.rest_ok.Goals as goal
use Rattle.reader.proofs.rest_ok.Goals.{After-no_camera}

-- what the test of the camera number tells of the file's
tested : (c : After-no_camera) → let a = c.args in c.no_camera.result ≡ no_camera a.e (camera_of a.e a.f.now)
tested c = c.no_camera.ensures ∙ ap (no_camera c.args.e) c.camera_in-camera.ensures

pub returns-then-no_camera : goal.returns-then-no_camera
unfolding rest_rules
returns-then-no_camera c = sym (simp (sym (tested (goal.at.returns-then-no_camera c).After-no_camera) ∙ c.if-no_camera.true))

pub returns : goal.returns
unfolding rest_rules
returns c =
    let f = c.args.f.now in
    let start = camera_at + c.args.e.camera in
    let end = c.args.e.header in
    let n : start + (end - start) ≡ end = let p = c.requires in omega (arith, p.0.least, p.0.header) in
    c.all_zero.ensures
    ∙ all-zero (take (end - start) (drop start f))
    ∙ ap all_zero (sym (drop-take start (end - start) f))
    ∙ ap (λ (k : ℕ). all_zero (drop start (take k f))) n
    ∙ sym (simp (sym (tested (goal.at.returns c).After-no_camera) ∙ c.if-no_camera.false))
