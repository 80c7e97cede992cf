-- What is written from memories that are the same.
use Rattle.std.proofs.Common.{◌≡◌, ℕ, List, Option, Result, OnOk, subst}
use Rattle.stepped.specs.Outcome.{Memories}
use Rattle.stand_reports.specs.declared.LastCode.{LastCode}
use Rattle.stand_reports.specs.Written.{Writes}

pub writes_from : {E : Type 0} (r : Result (Unit {0}) E) (report : Memories → List ℕ → ℕ × List ℕ) (last : LastCode)
    (s s' : Memories) (row : List ℕ) (ahead before after : Option (List ℕ)) → s ≡ s'
    → OnOk r (Writes report last s row ahead before after) → OnOk r (Writes report last s' row ahead before after)
writes_from r report last s s' row ahead before after e h =
    subst (λ (m : Memories). OnOk r (Writes report last m row ahead before after)) e h
