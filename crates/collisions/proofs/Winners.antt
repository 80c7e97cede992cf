-- A word that another task has exchanged since a task's read has its winner: on lists of accesses alone.
use mathlib.Core.Path.{◌≡◌, ap, ◌∙◌}
use mathlib.Core.Logic.{◌≢◌}
use mathlib.Core.List.{List, [], ◌∷◌, ◌++◌}
use Prim.Native.Nat.{ℕ}
use native.Mathlib.Omega.{arith}
use Rattle.collisions.specs.Accesses.{Word, Access, reads, wins}
use Rattle.collisions.specs.Collisions.{NoRead, NoReads, Paid}
use Rattle.collisions.proofs.Statuses.{Status, fresh, stale, statuses, Becomes, kept, was_read, spoiled}
use Rattle.collisions.proofs.Statuses.{cleared, becomes}

module _ (t : ℕ) (w : Word) where
  -- the last read of the task t was of the word w
  record LastRead (h : List Access) : Type 0 where
    between : List Access
    before : List Access
    is : h ≡ between ++ (reads t w ∷ before)
    none : NoReads t between

  -- one access more, which is no read of the task
  read_more : (x : Access) (h : List Access) → NoRead t x → LastRead h → LastRead (x ∷ h)
  read_more x h n R = record {
    between = x ∷ R.between;
    before = R.before;
    is = ap (λ (q : List Access). x ∷ q) R.is;
    none = (n, R.none);
  }

  paid-more : (x : Access) (h : List Access) → NoRead t x → Paid t w h → Paid t w (x ∷ h)
  paid-more x h n P = record {
    winner = P.winner;
    another = P.another;
    after = x ∷ P.after;
    between = P.between;
    before = P.before;
    is = ap (λ (q : List Access). x ∷ q) P.is;
    last = (n, P.last);
  }

  -- the read itself, and a won exchange of another task behind a read
  read-now : (x : Access) (h : List Access) → x ≡ reads t w → LastRead (x ∷ h)
  read-now x h e =
      record { between = []; before = h; is = ap (λ (y : Access). y ∷ h) e; none = tt }

  paid-now : (x : Access) (h : List Access) (u : ℕ) → u ≢ t → x ≡ wins u w → LastRead h → Paid t w (x ∷ h)
  paid-now x h u d e R = record {
    winner = u;
    another = d;
    after = [];
    between = R.between;
    before = R.before;
    is = ap (λ (y : Access). y ∷ h) e ∙ ap (λ (q : List Access). wins u w ∷ q) R.is;
    last = (tt, R.none);
  }

-- a word that was read, and that nobody has exchanged since, is that of the last read
fresh-read : (t : ℕ) (w : Word) (h : List Access) → statuses h t ≡ fresh w → LastRead t w h
fresh-read t w [] e = absurd (let z : ◌≡◌ {A = ℕ} 0 1 = cc in omega arith)
fresh-read t w (x ∷ h) e = by (fresh-read t w h) (statuses (x ∷ h) t) (becomes t (statuses h) x) e
  where
    by : (statuses h t ≡ fresh w → LastRead t w h)
        → (s : Status) → Becomes t x (statuses h t) s → s ≡ fresh w → LastRead t w (x ∷ h)
    by r _ (kept n) f = read_more t w x h n (r f)
    by r _ (was_read v i) f =
        let j : v ≡ w = cc in read-now t w x h (i ∙ ap (reads t) j)
    by r _ (spoiled u v d i k) f = absurd (let z : ◌≡◌ {A = ℕ} 0 1 = cc in omega arith)
    by r _ cleared f = absurd (let z : ◌≡◌ {A = ℕ} 0 1 = cc in omega arith)

-- A word that was exchanged since the task's last read was won by another task, after that read.
pub stale-paid : (t : ℕ) (w : Word) (h : List Access) → statuses h t ≡ stale w → Paid t w h
stale-paid t w [] e = absurd (let z : ◌≡◌ {A = ℕ} 0 1 = cc in omega arith)
stale-paid t w (x ∷ h) e = by (stale-paid t w h) (statuses (x ∷ h) t) (becomes t (statuses h) x) e
  where
    by : (statuses h t ≡ stale w → Paid t w h)
        → (s : Status) → Becomes t x (statuses h t) s → s ≡ stale w → Paid t w (x ∷ h)
    by r _ (kept n) f = paid-more t w x h n (r f)
    by r _ (was_read v i) f = absurd (let z : ◌≡◌ {A = ℕ} 0 1 = cc in omega arith)
    by r _ (spoiled u v d i k) f =
        let j : v ≡ w = cc in
        paid-now t w x h u d (i ∙ ap (wins u) j) (fresh-read t w h (k ∙ ap fresh j))
    by r _ cleared f = absurd (let z : ◌≡◌ {A = ℕ} 0 1 = cc in omega arith)
