-- Steps 5 and 6 of a free, and of leaving: where it goes after its group is returned.
use mathlib.Core.Path.{◌≡◌, refl, ap}
use mathlib.Core.List.{List, ◌∷◌, []}
use Prim.Native.Nat.{ℕ, zero, suc, ◌+◌, ◌-◌, ◌≤◌, ◌<◌}
use native.Mathlib.Omega.{arith}
use native.Mathlib.Decide.{ℕ_discrete}
use lib.ListN.{length}
use Rattle.limits.specs.Limits.{CLASSES}
use Rattle.classes.specs.Classes.{per_region}
use Rattle.plain.specs.State.{State, EMPTY, PARTIAL, FULL, Purpose, to_free, to_leave, Work, f2, working}
use Rattle.plain.specs.Steps.{if_none, leave_from, when_returned, f6, f5}
use Rattle.plain.specs.Held.{hold, owed, own_blocks, held_at}
use Rattle.plain.specs.TaskHolds.{HoldsAt, NoteHolds}
use Rattle.plain.specs.Leaving.{EmptyFrom, LeavesTo, to_end, to-cache, ReturnLeads, to-group, to_one, to-next}
use Rattle.plain.proofs.Held.{Alike, alike, nothing-held}

-- ---- where it leads

-- an empty cache before empty ones
one-more-empty : (k : ℕ → List ℕ) (c e : ℕ) → k c ≡ [] → EmptyFrom k (suc c) e → EmptyFrom k c e
one-more-empty k c e h f i l b = by (ℕ_discrete i c)
  where
    by : Dec (i ≡ c) → k i ≡ []
    by (yes d) = rw d h
    by (no d) = f i (omega arith) b

-- Leaving goes on with the first cache that is not empty, or with its last step.
pub leaves_to : (k : ℕ → List ℕ) (n c : ℕ) → LeavesTo k c n (leave_from k c n)
unfolding leave_from
leaves_to k zero c = to_end (λ i l b. absurd (omega arith))
leaves_to k (suc n) c = by (k c) refl (leaves_to k n (suc c))
  where
    further : (w : Work) → k c ≡ [] → LeavesTo k (suc c) n w → LeavesTo k c (suc n) w
    further w e (to_end h) = to_end (λ i l b. one-more-empty k c _ e h i l (omega arith))
    further w e (to-cache j l b some h) =
        to-cache j (omega arith) (omega arith) some (λ i a z. one-more-empty k c _ e h i a z)

    by : (q : List ℕ) → k c ≡ q → LeavesTo k (suc c) n (leave_from k (suc c) n)
        → LeavesTo k c (suc n) (if_none q (leave_from k (suc c) n) (f2 c to_leave []))
    by [] e above = further _ e above
    by (x ∷ q) e above =
        to-cache c (omega arith) (omega arith) (omega (arith, ap length e)) (λ i l b. absurd (omega arith))

-- Where step 6 leads.
pub f6-leads : (k : ℕ → List ℕ) (c : ℕ) (z : Purpose) → ReturnLeads k c z (f6 k c z)
f6-leads k c z = by (k c) refl z
  where
    by : (q : List ℕ) → k c ≡ q → (z : Purpose) → ReturnLeads k c z (if_none q (when_returned k c z) (f2 c z []))
    by [] e (to_free u) = to_one u e
    by [] e to_leave = to-next e (leaves_to k (CLASSES - suc c) (suc c))
    by (x ∷ q) e z = to-group (omega (arith, ap length e))

-- ---- what is under way there

-- Where leaving goes on it has nothing under way.
pub leaves-held : {k : ℕ → List ℕ} {c n : ℕ} {w : Work} (e : ℕ) → LeavesTo k c n w
    → Alike (held_at w) (hold e [] [] [] [])
leaves-held e (to_end h) = nothing-held CLASSES e
leaves-held e (to-cache j l b some h) = nothing-held j e

-- The block being freed is under way where step 6 leads, if there is one, and nothing else.
returned-held : {k : ℕ → List ℕ} {c : ℕ} (z : Purpose) {w : Work} → ReturnLeads k c z w
    → Alike (held_at w) (hold c (own_blocks z) [] [] [])
returned-held (to_free u) (to-group some) = alike refl
returned-held to_leave (to-group some) = alike refl
returned-held z (to_one u e) = alike refl
returned-held z (to-next e h) = leaves-held _ h

pub f6-held : (k : ℕ → List ℕ) (c : ℕ) (z : Purpose) → Alike (held_at (f6 k c z)) (hold c (own_blocks z) [] [] [])
f6-held k c z = returned-held z (f6-leads k c z)

-- The same where step 5 leads, with the descriptor that is owed.
pub f5-held : (k : ℕ → List ℕ) (s : State) (c : ℕ) (z : Purpose) (d : ℕ)
    → Alike (held_at (f5 s k c z d)) (hold c (own_blocks z) [] (owed s d) [])
f5-held k EMPTY c z d = f6-held k c z
f5-held k PARTIAL c z d = f6-held k c z
f5-held k FULL c z d = alike refl

-- ---- what holds there

module _ (k : ℕ → List ℕ) (lengths : (c : ℕ) → length (k c) ≤ per_region c) where
  -- What holds of the caches where leaving goes on, with classes up to the last.
  pub leaves-holds : {c n : ℕ} {w : Work} → c + n ≤ CLASSES → LeavesTo k c n w → HoldsAt k w
  leaves-holds f (to_end h) = tt
  leaves-holds f (to-cache j l b some h) = (omega arith, omega arith, omega (arith, lengths j), tt)

  returned-holds : {c : ℕ} {z : Purpose} {w : Work} → c < CLASSES → ReturnLeads k c z w → HoldsAt k w
  returned-holds {c} l (to-group some) = (l, omega arith, omega (arith, lengths c), tt)
  returned-holds l (to_one u e) = l
  returned-holds l (to-next e h) = leaves-holds (omega arith) h

  -- What holds of the caches where step 6 leads.
  pub f6-holds : (c : ℕ) (z : Purpose) → c < CLASSES → HoldsAt k (f6 k c z)
  f6-holds c z l = returned-holds l (f6-leads k c z)

  -- What holds of the caches where step 5 leads, if the cache has fewer than n blocks.
  pub f5-holds : (s : State) (c : ℕ) (z : Purpose) (d : ℕ) → c < CLASSES → length (k c) < per_region c
      → HoldsAt k (f5 s k c z d)
  f5-holds EMPTY c z d l h = f6-holds c z l
  f5-holds PARTIAL c z d l h = f6-holds c z l
  f5-holds FULL c z d l h = (l, h)

-- ---- what is noted there

module _ (row : ℕ → List ℕ) (won map : ℕ → ℕ) (k : ℕ → List ℕ) where
  -- Nothing is noted where leaving goes on.
  pub leaves-note : {c n : ℕ} {w : Work} → LeavesTo k c n w → NoteHolds row won map (working w)
  leaves-note (to_end h) = tt
  leaves-note (to-cache j l b some h) = tt

  returned-note : {c : ℕ} {z : Purpose} {w : Work} → ReturnLeads k c z w → NoteHolds row won map (working w)
  returned-note (to-group some) = tt
  returned-note (to_one u e) = tt
  returned-note (to-next e h) = leaves-note h

  -- Nothing is noted where step 6 leads.
  pub f6-note : (c : ℕ) (z : Purpose) → NoteHolds row won map (working (f6 k c z))
  f6-note c z = returned-note (f6-leads k c z)

  -- Nothing is noted where step 5 leads.
  pub f5-note : (s : State) (c : ℕ) (z : Purpose) (d : ℕ) → NoteHolds row won map (working (f5 s k c z d))
  f5-note EMPTY c z d = f6-note c z
  f5-note PARTIAL c z d = f6-note c z
  f5-note FULL c z d = tt
