-- What is recorded of a run are the events of its history.
use mathlib.Core.Path.{◌≡◌, refl, ap}
use mathlib.Core.List.{◌∷◌, map}
use Rattle.plain.specs.Calls.{Pool}
use Rattle.stepped.specs.Outcome.{Memories}
use Rattle.agreement.specs.Reached.{History, happened, Reached, from_unstarted, from_start, by_event}
use Rattle.collisions.specs.Recorded.{Recorded, recorded}

pub recorded-history : {h : History} {s₁ : Memories} {s : Pool} (R : Reached h s₁ s)
    → map (λ (x : Recorded). x.happened) (recorded R) ≡ h
recorded-history (from_unstarted U) = refl
recorded-history (from_start s₁ s b lent T) = refl
recorded-history (by_event {h} {s₁} {s} R e p) =
    ap (λ (q : History). happened e s₁ s ∷ q) (recorded-history R)
