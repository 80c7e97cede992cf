-- What is read, and what is written of it.
use Rattle.std.proofs.Common.{◌≡◌, ℕ, List, Option, None, Some, Result, Ok, Err, IfSome, OnOk, ◌++◌, take, subst}
use Rattle.std.specs.Io.KnownBytes.{Appends}
use Rattle.std.proofs.KnownBytes.{Appends-trans}

-- what holds of the bytes that were taken holds of the input's first bytes
pub of_first : (all : Option (List ℕ)) (taken : List ℕ) (m : ℕ) (P : List ℕ → Type 0)
    → IfSome all (λ input. taken ≡ take m input) → P taken → IfSome all (λ input. P (take m input))
of_first None taken m P k h = tt
of_first (Some input) taken m P k h = subst P k h

-- two texts are written one behind the other, which make up the output for the input's first bytes
pub both_written : {E : Type 0} (r : Result (Unit {0}) E) (all a b c : Option (List ℕ)) (m : ℕ) (f : List ℕ → List ℕ)
    (xs ys : List ℕ) → Appends a b xs → OnOk r (Appends b c ys) → IfSome all (λ input. xs ++ ys ≡ f (take m input))
    → OnOk r (IfSome all (λ input. Appends a c (f (take m input))))
both_written (Err x) all a b c m f xs ys h k e = tt
both_written (Ok u) None a b c m f xs ys h k e = tt
both_written (Ok u) (Some input) a b c m f xs ys h k e =
    subst (λ (l : List ℕ). Appends a c l) e (Appends-trans a b c xs ys h k)

-- what follows from a fact of the input's first bytes
pub follows : (all : Option (List ℕ)) {P Q : List ℕ → Type 0} → ((input : List ℕ) → P input → Q input) → IfSome all P
    → IfSome all Q
follows None f h = tt
follows (Some input) f h = f input h
