-- What is written of what was read.
use Rattle.std.proofs.Common.{◌≡◌, ℕ, List, Option, None, Some, Result, Ok, Err, IfSome, OnOk, take, ap, subst, ◌∙◌}
use Rattle.std.specs.Io.KnownBytes.{Appends}

-- once it is written, f of the bytes taken is f of the input's first m bytes
pub writes_first : {E : Type 0} (r : Result (Unit {0}) E) (all before after : Option (List ℕ)) (written taken : List ℕ)
    (f : List ℕ → List ℕ) (m : ℕ)
    → OnOk r (Appends before after written) → written ≡ f taken → IfSome all (λ input. taken ≡ take m input)
    → OnOk r (IfSome all (λ input. Appends before after (f (take m input))))
writes_first (Err x) all before after written taken f m h e k = tt
writes_first (Ok u) None before after written taken f m h e k = tt
writes_first (Ok u) (Some input) before after written taken f m h e k =
    subst (λ (l : List ℕ). Appends before after l) (e ∙ ap f k) h
