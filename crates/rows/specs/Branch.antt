-- docs/POOL.md, "Below the pool"
-- The branch that a decided test takes, and the test of two facts at once.

-- The first value if the fact holds, else the second.
abbrev pub if {ℓ} : {A : Type ℓ} {P : Type 0} → Dec P → A → A → A
if (yes p) a b = a
if (no n) a b = b

-- Both facts are decided: they hold together, or not.
unfoldable pub both : {P Q : Type 0} → Dec P → Dec Q → Dec (P × Q)
both (yes p) (yes q) = yes (p, q)
both (yes p) (no n) = no (λ h. n h.1)
both (no n) d = no (λ h. n h.0)
