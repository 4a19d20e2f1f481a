-- Steps that can be undone, one after the other, can be undone: the last first.
-- Assumes nothing.
use mathlib.Core.Path.{refl, ap, ◌∙◌}
use Rattle.permutation.specs.State.{State}
use Rattle.rounds_back.specs.Inverses.{Inverses}

pub none : Inverses (λ s. s) (λ s. s)
none = record { done = λ s w. w; undone = λ s w. w; back = λ s w. refl; forth = λ s w. refl }

-- f, then h
pub then : {f g h k : State → State} → Inverses f g → Inverses h k → Inverses (λ s. h (f s)) (λ s. g (k s))
then {f} {g} {h} {k} a b =
    record {
      done = λ s w. b.done (f s) (a.done s w);
      undone = λ s w. a.undone (k s) (b.undone s w);
      back = λ s w. ap g (b.back (f s) (a.done s w)) ∙ a.back s w;
      forth = λ s w. ap h (a.forth (k s) (b.undone s w)) ∙ b.forth s w;
    }
