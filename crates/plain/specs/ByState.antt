-- docs/POOL.md, "The invariant"
-- What counts only in some states of an anchor.
use Rattle.std.specs.Prelude.{◌≡◌, ℕ}
use Rattle.plain.specs.State.{State, EMPTY, PARTIAL, FULL}

-- n while the anchor is not EMPTY, else 0
abbrev pub if_open : State → ℕ → ℕ
if_open EMPTY n = 0
if_open PARTIAL n = n
if_open FULL n = n

-- the anchor is not EMPTY: everything counts
abbrev pub IsOpen : State → Type 0
IsOpen s = (n : ℕ) → if_open s n ≡ n

-- X is asked while the anchor is not EMPTY, else nothing
abbrev pub IfOpen : State → Type 0 → Type 0
IfOpen EMPTY X = Unit {0}
IfOpen PARTIAL X = X
IfOpen FULL X = X

-- X is asked while the anchor is EMPTY, else nothing
abbrev pub IfEmpty : State → Type 0 → Type 0
IfEmpty EMPTY X = X
IfEmpty PARTIAL X = Unit {0}
IfEmpty FULL X = Unit {0}

-- 1 if the anchor is FULL, else 0
abbrev pub one_if_full : State → ℕ
one_if_full EMPTY = 0
one_if_full PARTIAL = 0
one_if_full FULL = 1

-- 1 if the anchor is EMPTY, else 0
abbrev pub one_if_empty : State → ℕ
one_if_empty EMPTY = 1
one_if_empty PARTIAL = 0
one_if_empty FULL = 0
