-- One call of a task in the plain pool: its access fits the statuses, and the notes of all tasks stand to theirs again.
use mathlib.Core.Path.{◌≡◌, ap, subst⁻¹, ◌∙◌}
use mathlib.Core.Logic.{◌≢◌}
use Prim.Native.Nat.{ℕ, ◌<◌}
use Rattle.rows.specs.Update.{update}
use Rattle.rows.proofs.Update.{update_same, update_other}
use Rattle.plain.specs.State.{Descriptor, Task, Mem}
use Rattle.collisions.specs.Accesses.{Word, head, anchor, Access, reads, wins, loses, no_word}
use Rattle.collisions.proofs.Statuses.{Status, unread, fresh, stale, Statuses, spoil, after, Fits}
use Rattle.collisions.proofs.Notes.{TaskNote, none, note_at, Stands, SameBut, NotNoted, stands_same}
use Rattle.collisions.proofs.Notes.{stands-spoiled, Unnoted}

-- x is the memory after a call of the task t with the access k, of N tasks
pub record Turned (N : ℕ) (m : Mem) (t : ℕ) (g : Statuses) (x : Mem) (k : Access) : Type 0 where
  pub fits : Fits N g k
  pub own : Stands x (note_at (x.task t).place) (after k g t)
  pub others : (u : ℕ) → u ≢ t → u < N → Stands m (note_at (m.task u).place) (g u)
      → Stands x (note_at (x.task u).place) (after k g u)

-- ---- the words after a call

-- no word changes
pub all_same : {m x : Mem} → x.won ≡ m.won → x.descriptor ≡ m.descriptor → SameBut (λ v. ⊥) m x
all_same w d =
    record { heads = λ ℓ f. ap (λ h. h ℓ) w; anchors = λ i f. ap (λ h. h i) d }

-- the head of the list ℓ alone
pub but-head : {m x : Mem} (ℓ z : ℕ) → x.won ≡ update m.won ℓ z → x.descriptor ≡ m.descriptor
    → SameBut (λ v. v ≡ head ℓ) m x
but-head {m} ℓ z w d = record {
  heads = λ i f. ap (λ h. h i) w ∙ update_other m.won ℓ z i (λ e. f (ap head e));
  anchors = λ i f. ap (λ h. h i) d;
}

-- the anchor of the descriptor b alone
pub but-anchor : {m x : Mem} (b : ℕ) (D : Descriptor) → x.won ≡ m.won → x.descriptor ≡ update m.descriptor b D
    → SameBut (λ v. v ≡ anchor b) m x
but-anchor {m} b D w d = record {
  heads = λ i f. ap (λ h. h i) w;
  anchors = λ i f. ap (λ h. h i) d ∙ update_other m.descriptor b D i (λ e. f (ap anchor e));
}

-- of a note of any word nothing is said
none-noted : (n : TaskNote) → NotNoted (λ v. ⊥) n
none-noted none = tt
none-noted (TaskNote.some b) = λ f. f

-- another task's note, where its status is set for the task t alone
others_same : {m x : Mem} (t : ℕ) (g : Statuses) (s : Status) → SameBut (λ v. ⊥) m x → (u : ℕ) → u ≢ t
    → Stands m (note_at (m.task u).place) (g u) → Stands x (note_at (m.task u).place) (update g t s u)
others_same {m} {x} t g s S u d h =
    let n = note_at (m.task u).place in
    subst⁻¹ (Stands x n) (update_other g t s u d) (stands_same S n (g u) (none-noted n) h)

module _ {N : ℕ} {m : Mem} {t : ℕ} {g : Statuses} {x : Mem} (T : Task) (e : x.task ≡ update m.task t T) where
  -- the access k, by what is shown of the new place, and of the others' old ones
  turned : (k : Access) → Fits N g k → Stands x (note_at T.place) (after k g t)
      → ((u : ℕ) → u ≢ t → u < N → Stands m (note_at (m.task u).place) (g u)
      → Stands x (note_at (m.task u).place) (after k g u)) → Turned N m t g x k
  turned k f o h = record {
    fits = f;
    own =
        subst⁻¹ (λ (U : Task). Stands x (note_at U.place) (after k g t))
        (ap (λ f. f t) e ∙ update_same m.task t T) o;
    others = λ u d l i.
        subst⁻¹ (λ (U : Task). Stands x (note_at U.place) (after k g u))
        (ap (λ f. f u) e ∙ update_other m.task t T u d) (h u d l i);
  }

  -- the same where nothing is noted at the new place
  unnoted-by : (k : Access) → Fits N g k → Unnoted T.place
      → ((u : ℕ) → u ≢ t → u < N → Stands m (note_at (m.task u).place) (g u)
      → Stands x (note_at (m.task u).place) (after k g u)) → Turned N m t g x k
  unnoted-by k f o h = turned k f (subst⁻¹ (λ (n : TaskNote). Stands x n (after k g t)) o tt) h

  -- A call that reads no word and exchanges none: the task's note is the one that it had, ..
  pub quiet : SameBut (λ v. ⊥) m x → Stands x (note_at T.place) (g t) → Turned N m t g x no_word
  quiet S o =
      turned no_word tt o
      (λ u d l h. let n = note_at (m.task u).place in stands_same S n (g u) (none-noted n) h)

  -- .. or it has none.
  pub silent : SameBut (λ v. ⊥) m x → Unnoted T.place → Turned N m t g x no_word
  silent S o = quiet S (subst⁻¹ (λ (n : TaskNote). Stands x n (g t)) o tt)

  -- A read.
  pub reading : (w : Word) → t < N → SameBut (λ v. ⊥) m x → Stands x (note_at T.place) (fresh w)
      → Turned N m t g x (reads t w)
  reading w l S o =
      turned (reads t w) l (subst⁻¹ (Stands x (note_at T.place)) (update_same g t (fresh w)) o)
      (λ u d b h. others_same t g (fresh w) S u d h)

  -- A lost exchange.
  pub losing : (w : Word) → t < N → g t ≡ stale w → SameBut (λ v. ⊥) m x → Unnoted T.place
      → Turned N m t g x (loses t w)
  losing w l s S o = unnoted-by (loses t w) (l, s) o (λ u d b h. others_same t g unread S u d h)

  -- A won exchange.
  pub winning : (w : Word) → t < N → SameBut (λ v. v ≡ w) m x → Unnoted T.place → Turned N m t g x (wins t w)
  winning w l S o =
      unnoted-by (wins t w) l o
      (λ u d b h.
      let n = note_at (m.task u).place in
      subst⁻¹ (Stands x n) (update_other (λ y. spoil w (g y)) t unread u d) (stands-spoiled w S n (g u) h))

  -- An anchor is written that no other task has noted.
  pub opening : (w : Word) → SameBut (λ v. v ≡ w) m x → Unnoted T.place
      → ((u : ℕ) → u ≢ t → u < N → NotNoted (λ v. v ≡ w) (note_at (m.task u).place)) → Turned N m t g x no_word
  opening w S o n =
      unnoted-by no_word tt o (λ u d b h. stands_same S (note_at (m.task u).place) (g u) (n u d b) h)

-- A call that changes nothing.
pub staying : {N : ℕ} {m : Mem} {t : ℕ} {g : Statuses} → Stands m (note_at (m.task t).place) (g t)
    → Turned N m t g m no_word
staying o = record { fits = tt; own = o; others = λ u d l h. h }
