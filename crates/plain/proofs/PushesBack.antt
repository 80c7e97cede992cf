-- Which places are of a push of a descriptor back: where other steps lead to is no such place.
use mathlib.Core.Path.{◌≡◌, refl}
use mathlib.Core.List.{List, [], ◌∷◌}
use Prim.Native.Nat.{ℕ}
use Rattle.plain.specs.State.{State, EMPTY, PARTIAL, FULL, Pop, partial, spare, region, Push, retire, back}
use Rattle.plain.specs.State.{release, offer, Place, Work, working, Purpose}
use Rattle.plain.specs.Leaving.{LeavesTo, to_end, to-cache, ReturnLeads, to-group, to_one, to-next}
use Rattle.plain.specs.Steps.{f6, f5, moving, when_popped, closed}
use Rattle.plain.specs.Noted.{Noted, unnoted, pop_noted, push_noted, anchor_noted, entry_noted, noted}
use Rattle.plain.proofs.Continues.{f6-leads}

-- 1 for a push of a descriptor back, else 0
abbrev pub is_back : Push → ℕ
is_back (retire c d) = 0
is_back (back c d) = 1
is_back (release c z d w r) = 0
is_back (offer c z d) = 0

-- 1 for what a push of a descriptor back has noted, else 0
abbrev pub back_noted : Noted → ℕ
back_noted unnoted = 0
back_noted (pop_noted p φ) = 0
back_noted (push_noted p φ) = is_back p
back_noted (anchor_noted d n) = 0
back_noted (entry_noted y d n) = 0

-- 1 at a place of a push of a descriptor back, else 0
abbrev pub back_at : Place → ℕ
back_at p = back_noted (noted p)

-- where the steps that are no end of a push or a pop lead to is no push back
leaves-back : {k : ℕ → List ℕ} {c n : ℕ} {w : Work} → LeavesTo k c n w → back_at (working w) ≡ 0
leaves-back (to_end h) = refl
leaves-back (to-cache j l b some h) = refl

returned-back : {k : ℕ → List ℕ} {c : ℕ} {z : Purpose} {w : Work} → ReturnLeads k c z w → back_at (working w) ≡ 0
returned-back (to-group some) = refl
returned-back (to_one u e) = refl
returned-back (to-next e h) = leaves-back h

pub f6-back : (k : ℕ → List ℕ) (c : ℕ) (z : Purpose) → back_at (working (f6 k c z)) ≡ 0
f6-back k c z = returned-back (f6-leads k c z)

pub f5-back : (s : State) (k : ℕ → List ℕ) (c : ℕ) (z : Purpose) (d : ℕ) → back_at (working (f5 s k c z d)) ≡ 0
f5-back EMPTY k c z d = f6-back k c z
f5-back PARTIAL k c z d = f6-back k c z
f5-back FULL k c z d = refl

pub moving-back : (c : ℕ) (q : List ℕ) → back_at (working (moving c q)) ≡ 0
moving-back c [] = refl
moving-back c (x ∷ q) = refl

pub closed-back : (t : ℕ) (k : ℕ → List ℕ) (c : ℕ) (z : Purpose) (g : List ℕ) → back_at (working (closed t k c z g)) ≡ 0
closed-back t k c z [] = f6-back k c z
closed-back t k c z (y ∷ g) = refl

pub popped_back : (p : Pop) (x : ℕ) → back_at (working (when_popped p x)) ≡ 0
popped_back (partial c) x = refl
popped_back (spare c) x = refl
popped_back (region c d) x = refl
