-- docs/POOL.md, "The plain pool"
-- Where a return leads behind its group: to a further group of the cache, to step 1 of the free, or on with leaving. "A
-- branch on what was read is no step."
use Rattle.std.specs.Prelude.{List, ◌∷◌, [], ℕ, zero, suc, ◌-◌}
use Rattle.limits.specs.Limits.{CLASSES}
use Rattle.plain.specs.State.{State, EMPTY, PARTIAL, FULL, read, offer, Work, pushing, f1, f2, leave-end, Purpose}
use Rattle.plain.specs.State.{to_free, to_leave}

-- x where the row is empty, else y
abbrev pub if_none : {A : Type 0} → List ℕ → A → A → A
if_none [] x y = x
if_none (i ∷ q) x y = y

-- "in rising order of class, each non-empty cache is returned" (the request for leaving): it goes on with the first
-- cache that is not empty, of the n classes from c on. "Empty caches take no step"; with all empty "one further step"
-- is left.
unfoldable pub leave_from : (ℕ → List ℕ) → ℕ → ℕ → Work
leave_from k c zero = leave-end
leave_from k c (suc n) = if_none (k c) (leave_from k (suc c) n) (f2 c to_leave [])

-- where the empty cache of the class c leads: free's step 6, "Else 1"; leaving goes on with the classes above c
abbrev pub when_returned : (ℕ → List ℕ) → ℕ → Purpose → Work
when_returned k c (to_free u) = f1 c u
when_returned k c to_leave = leave_from k (suc c) (CLASSES - suc c)

-- free, step 6: "Cache not empty: 2. Else 1.", by the cache of the class c
abbrev pub f6 : (ℕ → List ℕ) → ℕ → Purpose → Work
f6 k c z = if_none (k c) (when_returned k c z) (f2 c z [])

-- free, step 5: "If it was FULL: push the descriptor on the partial list"
abbrev pub f5 : State → (ℕ → List ℕ) → ℕ → Purpose → ℕ → Work
f5 EMPTY k c z d = f6 k c z
f5 PARTIAL k c z d = f6 k c z
f5 FULL k c z d = pushing (offer c z d) read
