-- What a task has noted of a word at its place, and how its status stands to the note: the word is as it was noted, or
-- another task has exchanged it since.
use mathlib.Core.Path.{◌≡◌, refl, sym, subst, ◌∙◌}
use mathlib.Core.List.{List, [], ◌∷◌}
use Prim.Native.Nat.{ℕ}
use Rattle.rows.specs.Branch.{if}
use Rattle.plain.specs.State.{State, EMPTY, PARTIAL, FULL, Descriptor, Note, Phase, read, next, exchange, Pop, partial}
use Rattle.plain.specs.State.{spare, region, Push, retire, back, release, offer, Purpose, Work, Place, working, Mem}
use Rattle.plain.specs.Moves.{Decided}
use Rattle.plain.specs.Steps.{pop_list, push_list, AsNoted, f6, f5, moving, when_empty, when_popped, when_pushed}
use Rattle.plain.specs.Steps.{closed}
use Rattle.plain.specs.Noted.{Noted, unnoted, pop_noted, push_noted, anchor_noted, entry_noted, noted}
use Rattle.plain.specs.Leaving.{LeavesTo, to_end, to-cache, ReturnLeads, to-group, to_one, to-next}
use Rattle.plain.proofs.Continues.{f6-leads}
use Rattle.collisions.specs.Accesses.{Word, head, anchor}
use Rattle.collisions.proofs.Statuses.{word?, Status, fresh, stale, spoil}

-- ---- notes

-- what was noted of a word: of the head of the list ℓ its number of won exchanges, of the anchor of d its state, first
-- block and length
pub data WordNote : Type 0 where
  number : (ℓ n : ℕ) → WordNote
  chain : (d : ℕ) (n : Note) → WordNote

abbrev pub word_of : WordNote → Word
word_of (number ℓ n) = head ℓ
word_of (chain d n) = anchor d

-- the word is as it was noted
abbrev pub AsRead : Mem → WordNote → Type 0
AsRead m (number ℓ n) = m.won ℓ ≡ n
AsRead m (chain d n) = AsNoted (m.descriptor d) n

-- what a task has noted, between its read and its exchange
pub data TaskNote : Type 0 where
  none : TaskNote
  some : WordNote → TaskNote

abbrev pub phase_note : ℕ → Phase → TaskNote
phase_note ℓ read = none
phase_note ℓ (next n) = some (number ℓ n)
phase_note ℓ (exchange n) = some (number ℓ n)

abbrev pub note_of : Noted → TaskNote
note_of unnoted = none
note_of (pop_noted p φ) = phase_note (pop_list p) φ
note_of (push_noted p φ) = phase_note (push_list p) φ
note_of (anchor_noted d n) = some (chain d n)
note_of (entry_noted y d n) = some (chain d n)

abbrev pub note_at : Place → TaskNote
note_at p = note_of (noted p)

-- ---- how a status stands to a note

-- the word w was read: it is still as it was noted (P), or another task has exchanged it since
pub data Since (P : Type 0) (w : Word) (s : Status) : Type 0 where
  as-noted : s ≡ fresh w → P → Since P w s
  gone : s ≡ stale w → Since P w s

abbrev pub Stands : Mem → TaskNote → Status → Type 0
Stands m none s = Unit {0}
Stands m (some b) s = Since (AsRead m b) (word_of b) s

-- a lost exchange: the word is not as noted, so another task has exchanged it since
pub lost-since : {P : Type 0} {w : Word} {s : Status} → ¬ P → Since P w s → s ≡ stale w
lost-since n (as-noted e p) = absurd (n p)
lost-since n (gone e) = e

-- ---- the notes of other tasks

-- the memories m and x have the same words, but for those of which P is said
pub record SameBut (P : Word → Type 0) (m x : Mem) : Type 0 where
  pub heads : (ℓ : ℕ) → ¬ P (head ℓ) → x.won ℓ ≡ m.won ℓ
  pub anchors : (d : ℕ) → ¬ P (anchor d) → x.descriptor d ≡ m.descriptor d

-- P is not said of the word that is noted
abbrev pub NotNoted : (Word → Type 0) → TaskNote → Type 0
NotNoted P none = Unit {0}
NotNoted P (some b) = ¬ P (word_of b)

module _ {P : Word → Type 0} {m x : Mem} (S : SameBut P m x) where
  -- such a word is as noted if it was
  as_read : (b : WordNote) → ¬ P (word_of b) → AsRead m b → AsRead x b
  as_read (number ℓ n) f e = S.heads ℓ f ∙ e
  as_read (chain d n) f e = subst (λ (D : Descriptor). AsNoted D n) (sym (S.anchors d f)) e

  -- a note of another word stands as it stood
  pub stands_same : (n : TaskNote) (s : Status) → NotNoted P n → Stands m n s → Stands x n s
  stands_same none s f h = tt
  stands_same (some b) s f (as-noted e p) = as-noted e (as_read b f p)
  stands_same (some b) s f (gone e) = gone e

-- after another task's won exchange of w, in which no other word changed, a note stands to the spoiled status
pub stands-spoiled : {m x : Mem} (w : Word) → SameBut (λ v. v ≡ w) m x → (n : TaskNote) (s : Status)
    → Stands m n s → Stands x n (spoil w s)
stands-spoiled w S none s h = tt
stands-spoiled {m} {x} w S (some b) s (as-noted e p) =
    subst (λ (z : Status). Since (AsRead x b) (word_of b) (spoil w z)) (sym e)
    (elim (word? (word_of b) w) as (λ d.
    Since (AsRead x b) (word_of b) (if d (stale (word_of b)) (fresh (word_of b)))) [
      | yes i ↦ gone refl
      | no i ↦ as-noted refl (as_read S b i p)
    ])
stands-spoiled {m} {x} w S (some b) s (gone e) =
    subst (λ (z : Status). Since (AsRead x b) (word_of b) (spoil w z)) (sym e) (gone refl)

-- ---- where a decided move leads, nothing is noted

abbrev pub Unnoted : Place → Type 0
Unnoted p = note_at p ≡ none

pub leaves-unnoted : {k : ℕ → List ℕ} {c n : ℕ} {w : Work} → LeavesTo k c n w → Unnoted (working w)
leaves-unnoted (to_end h) = refl
leaves-unnoted (to-cache j l b n h) = refl

returned-unnoted : {k : ℕ → List ℕ} {c : ℕ} {z : Purpose} {w : Work} → ReturnLeads k c z w → Unnoted (working w)
returned-unnoted (to-group n) = refl
returned-unnoted (to_one u e) = refl
returned-unnoted (to-next e h) = leaves-unnoted h

f6-unnoted : (k : ℕ → List ℕ) (c : ℕ) (z : Purpose) → Unnoted (working (f6 k c z))
f6-unnoted k c z = returned-unnoted (f6-leads k c z)

pub f5-unnoted : (s : State) (k : ℕ → List ℕ) (c : ℕ) (z : Purpose) (d : ℕ) → Unnoted (working (f5 s k c z d))
f5-unnoted EMPTY k c z d = f6-unnoted k c z
f5-unnoted PARTIAL k c z d = f6-unnoted k c z
f5-unnoted FULL k c z d = refl

pub moving-unnoted : (c : ℕ) (q : List ℕ) → Unnoted (working (moving c q))
moving-unnoted c [] = refl
moving-unnoted c (x ∷ q) = refl

pub closed-unnoted : (t : ℕ) (k : ℕ → List ℕ) (c : ℕ) (z : Purpose) (g : List ℕ) → Unnoted (working (closed t k c z g))
closed-unnoted t k c z [] = f6-unnoted k c z
closed-unnoted t k c z (y ∷ g) = refl

pub empty-unnoted : (p : Pop) (e : Decided) → Unnoted (when_empty p e).0
empty-unnoted (partial c) e = refl
empty-unnoted (spare c) e = refl
empty-unnoted (region c d) e = refl

pub popped-unnoted : (p : Pop) (x : ℕ) → Unnoted (working (when_popped p x))
popped-unnoted (partial c) x = refl
popped-unnoted (spare c) x = refl
popped-unnoted (region c d) x = refl

pub pushed-unnoted : (p : Push) (k : ℕ → List ℕ) (e : Decided) → Unnoted (when_pushed p k e).0
pushed-unnoted (retire c d) k e = refl
pushed-unnoted (back c d) k e = refl
pushed-unnoted (release c z d w r) k e = f5-unnoted w k c z d
pushed-unnoted (offer c z d) k e = f6-unnoted k c z
