-- What each task has read, and whether another task has exchanged that word since: followed along a list of accesses.
use mathlib.Core.Path.{◌≡◌, refl, sym, ap, subst, ◌∙◌}
use mathlib.Core.Logic.{◌≢◌}
use mathlib.Core.List.{List, [], ◌∷◌}
use Prim.Native.Nat.{ℕ, ◌<◌}
use native.Mathlib.Omega.{arith}
use native.Mathlib.Decide.{ℕ_discrete}
use Rattle.rows.specs.Comparisons.{same, other, same?}
use Rattle.rows.specs.Branch.{if}
use Rattle.rows.specs.Update.{update}
use Rattle.rows.proofs.Update.{update_same, update_other}
use Rattle.collisions.specs.Accesses.{Word, head, anchor, Access, reads, wins, loses, no_word}
use Rattle.collisions.specs.Collisions.{NoRead}

-- whether two words are the same
pub word? : (v w : Word) → Dec (v ≡ w)
word? (head ℓ) (head k) = elim (ℕ_discrete ℓ k) [ yes e ↦ yes (ap head e) | no d ↦ no (λ e. d (cc)) ]
word? (head ℓ) (anchor d) = no (λ e. let z : ◌≡◌ {A = ℕ} 0 1 = cc in omega arith)
word? (anchor d) (head ℓ) = no (λ e. let z : ◌≡◌ {A = ℕ} 0 1 = cc in omega arith)
word? (anchor d) (anchor f) = elim (ℕ_discrete d f) [ yes e ↦ yes (ap anchor e) | no n ↦ no (λ e. n (cc)) ]

-- what a task has read: nothing that it may still exchange; a word that no other task has exchanged since; or one that
-- another has
pub data Status : Type 0 where
  unread : Status
  fresh stale : Word → Status

-- the status of every task
abbrev pub Statuses : Type 0
Statuses = ℕ → Status

-- a task's status after another task has won an exchange of w
abbrev pub spoil : Word → Status → Status
spoil w unread = unread
spoil w (fresh v) = if (word? v w) (stale v) (fresh v)
spoil w (stale v) = stale v

-- the statuses after an access
abbrev pub after : Access → Statuses → Statuses
after (reads t w) g = update g t (fresh w)
after (wins t w) g = update (λ u. spoil w (g u)) t unread
after (loses t w) g = update g t unread
after no_word g = g

-- the statuses after a list of accesses, the latest first
abbrev pub statuses : List Access → Statuses
statuses [] = λ u. unread
statuses (x ∷ h) = after x (statuses h)

-- what is asked of an access, with T tasks: its task is one of them, and a lost exchange is of a word that another task
-- has exchanged since
abbrev pub Fits : ℕ → Statuses → Access → Type 0
Fits T g (reads t w) = t < T
Fits T g (wins t w) = t < T
Fits T g (loses t w) = (t < T) × (g t ≡ stale w)
Fits T g no_word = Unit {0}

-- ---- how a status comes about

-- from the status s of the task t, by the access x
pub data Becomes (t : ℕ) (x : Access) (s : Status) : Status → Type 0 where
  kept : NoRead t x → Becomes t x s s
  was_read : (w : Word) → x ≡ reads t w → Becomes t x s (fresh w)
  spoiled : (u : ℕ) (w : Word) → u ≢ t → x ≡ wins u w → s ≡ fresh w → Becomes t x s (stale w)
  cleared : Becomes t x s unread

-- another task has won an exchange of w
by-spoil : (t u : ℕ) (w : Word) → u ≢ t → (s : Status) → Becomes t (wins u w) s (spoil w s)
by-spoil t u w d unread = kept tt
by-spoil t u w d (fresh v) =
    elim (word? v w) as (λ b. Becomes t (wins u w) (fresh v) (if b (stale v) (fresh v))) [
      | yes e ↦ spoiled u v d (ap (wins u) (sym e)) refl
      | no n ↦ kept tt
    ]
by-spoil t u w d (stale v) = kept tt

module _ (t : ℕ) (g : Statuses) where
  -- the task u, which has this status now
  module _ (x : Access) (f : Statuses) (u : ℕ) (s : Status) where
    by-update : (u ≡ t → Becomes t x (g t) s) → (u ≢ t → Becomes t x (g t) (f t))
        → Becomes t x (g t) (update f u s t)
    by-update own others = elim (same? t u) [
      | same e ↦ subst (Becomes t x (g t))
          (sym (ap (update f u s) e ∙ update_same f u s)) (own (sym e))
      | other d ↦ subst (Becomes t x (g t)) (sym (update_other f u s t d)) (others (λ e. d (sym e)))
    ]

  -- Whatever the access, the status of the task t comes about so.
  pub becomes : (x : Access) → Becomes t x (g t) (after x g t)
  becomes (reads u w) =
      by-update (reads u w) g u (fresh w) (λ e. was_read w (ap (λ (i : ℕ). reads i w) e)) (λ d. kept d)
  becomes (wins u w) =
      by-update (wins u w) (λ i. spoil w (g i)) u unread (λ e. cleared) (λ d. by-spoil t u w d (g t))
  becomes (loses u w) = by-update (loses u w) g u unread (λ e. cleared) (λ d. kept tt)
  becomes no_word = kept tt
