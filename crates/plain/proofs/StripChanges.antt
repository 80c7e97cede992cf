-- What a change of one strip leaves true: a strip is taken, its free begins, it is given back.
use mathlib.Core.Path.{◌≡◌, refl, sym, ap, subst, subst⁻¹, ◌∙◌}
use mathlib.Core.Logic.{◌≢◌}
use Prim.Native.Nat.{ℕ, suc, ◌+◌, ◌<◌}
use native.Mathlib.Omega.{arith}
use Rattle.limits.specs.Limits.{WHOLE_ORDER, TASKS}
use Rattle.rows.specs.Comparisons.{Equality, same, other, same?}
use Rattle.rows.proofs.Update.{update_same, update_other}
use Rattle.pieces.specs.Pieces.{PieceState, held, begun, Pieces, Joined}
use Rattle.pieces.specs.Strips.{least_place, least_halved, none_found, strip_at, take_strip}
use Rattle.pieces.specs.Strips.{StripStart, nowhere, here, strip_starts, free_begun, give_strip}
use Rattle.pieces.specs.StripSlots.{vacant, within, slot_holds}
use Rattle.pieces.proofs.PieceLengths.{some}
use Rattle.pieces.proofs.FreeStretches.{Took, found_none, found-one, took}
use Rattle.pieces.proofs.StripStarting.{Begins, taken-begins, given-begins, began-begins}
use Rattle.pieces.proofs.StripTaking.{vacant-before, take-joined}
use Rattle.pieces.proofs.StripGiving.{strip-fits, starts-in, give-joined, begin-joined}
use Rattle.plain.specs.State.{Task, Mem, set_task, set_strips}
use Rattle.plain.specs.Requests.{frees_strip}
use Rattle.plain.specs.Invariant.{Invariant, StripsHold}

-- ---- the invariant of the rest speaks of no strip

pub strips-aside : {area : ℕ} {m : Mem} (p : Pieces WHOLE_ORDER) → Invariant area m → Invariant area (set_strips p m)
strips-aside p I = record {
  descriptors = I.descriptors;
  regions = I.regions;
  classes = I.classes;
  spares = I.spares;
  blocks = I.blocks;
  block_classes = I.block_classes;
  chains = I.chains;
  closed = I.closed;
  maps = I.maps;
  entries = I.entries;
  unmapped = I.unmapped;
  tasks = λ t l. let T = I.tasks t l in record { lengths = T.lengths; place = T.place; note = T.note };
}

-- ---- a change of one strip

module _ {m : Mem} (H : StripsHold m) where
  -- no strip changes, and no task comes to free another strip
  pub strips-kept : {x : Mem} → x.strips ≡ m.strips
      → ((j : ℕ) → frees_strip (x.task j).place ≡ frees_strip (m.task j).place) → StripsHold x
  strips-kept {x} e f = record {
    joined = subst⁻¹ Joined e H.joined;
    freed_by = λ s k t h.
        let B = H.freed_by s k t (ap (λ p. strip_starts p s) (sym e) ∙ h) in
        (B.0, f t ∙ B.1);
    begun_by = λ t s l h.
        let B = H.begun_by t s l (sym (f t) ∙ h) in
        (B.0, ap (λ p. strip_starts p s) e ∙ B.1);
  }

  -- The strip at the slot q changes to x. Every task frees what it freed, but for t.
  module _ (t q : ℕ) (p : Pieces WHOLE_ORDER) (x : StripStart) (T : Task) (b : Begins m.strips p q x)
      (j : Joined p) (l : t < TASKS) where
    abbrev new : Mem
    new = set_task t T (set_strips p m)

    own : new.task t ≡ T
    own = update_same m.task t T

    theirs : (u : ℕ) → u ≢ t → new.task u ≡ m.task u
    theirs u n = update_other m.task t T u n

    -- a strip elsewhere is what it was
    elsewhere : (s k : ℕ) (u : PieceState) → s ≢ q → strip_starts p s ≡ here k u → strip_starts m.strips s ≡ here k u
    elsewhere s k u n h = sym (b.others s (omega (arith, strip-fits p s k u h, some k)) n) ∙ h

    still : (s k : ℕ) (u : PieceState) → s ≢ q → strip_starts m.strips s ≡ here k u → strip_starts p s ≡ here k u
    still s k u n h = b.others s (omega (arith, strip-fits m.strips s k u h, some k)) n ∙ h

    -- what has to be shown of the slot q and of the task t
    record Changed : Type 0 where
      -- a strip at q whose free has begun is the one that t frees
      at_slot : (k u : ℕ) → x ≡ here k (begun u) → (u ≡ t) × (frees_strip T.place ≡ suc q)
      -- t frees a strip whose free it has begun at q
      at-task : (s : ℕ) → frees_strip T.place ≡ suc s → (s ≡ q) × ((k : ℕ) × (x ≡ here k (begun t)))
      -- before, t freed no strip elsewhere
      nowhere-else : (s : ℕ) → s ≢ q → frees_strip (m.task t).place ≢ suc s
      -- and no other task freed one at q
      no_other : (u : ℕ) → u < TASKS → u ≢ t → frees_strip (m.task u).place ≢ suc q

    changed : Changed → StripsHold new
    changed C = record {
      joined = j;
      freed_by = λ s k u h. freed s k u h (same? s q);
      begun_by = λ u s g h. begins u s g h (same? u t);
    }
      where
        freed : (s k u : ℕ) → strip_starts p s ≡ here k (begun u) → Equality s q
            → (u < TASKS) × (frees_strip (new.task u).place ≡ suc s)
        freed s k u h (same e) =
            let i : strip_starts p q ≡ here k (begun u) = rw e at h in
            let A = C.at_slot k u (sym b.here ∙ i) in
            rw (A.0, e) (l, ap (λ (U : Task). frees_strip U.place) own ∙ A.1)
        freed s k u h (other n) =
            let B = H.freed_by s k u (elsewhere s k (begun u) n h) in
            let d : u ≢ t = λ e. C.nowhere-else s n (rw e at B.1) in
            (B.0, ap (λ (U : Task). frees_strip U.place) (theirs u d) ∙ B.1)

        begins : (u s : ℕ) → u < TASKS → frees_strip (new.task u).place ≡ suc s → Equality u t
            → (k : ℕ) × (strip_starts p s ≡ here k (begun u))
        begins u s g h (same e) =
            let i : frees_strip (new.task t).place ≡ suc s = rw e at h in
            let A = C.at-task s (sym (ap (λ (U : Task). frees_strip U.place) own) ∙ i) in
            rw (A.0, e) (A.1.0, b.here ∙ A.1.1)
        begins u s g h (other n) =
            let i = sym (ap (λ (U : Task). frees_strip U.place) (theirs u n)) ∙ h in
            let B = H.begun_by u s g i in
            (B.0, still s B.0 (begun u) (λ e. C.no_other u g n (rw e at i)) B.1)

  -- ---- the three changes

  -- a strip is taken by a task that frees none
  pub taken-holds : (t k s : ℕ) (p : Pieces WHOLE_ORDER) (T : Task) → t < TASKS
      → take_strip k m.strips ≡ strip_at s p
      → frees_strip (m.task t).place ≡ 0 → frees_strip T.place ≡ 0 → StripsHold (set_task t T (set_strips p m))
  taken-holds t k s p T l e a z = by (took k m.strips)
    where
      by : Took k m.strips → StripsHold (set_task t T (set_strips p m))
      by (found_none h g) =
          let f : none_found ≡ strip_at s p = sym g ∙ e in
          let y : ◌≡◌ {A = ℕ} 0 1 = cc in
          absurd (omega arith)
      by (found-one h g) =
          let f : strip_at (least_place k m.strips) (least_halved k m.strips) ≡ strip_at s p = sym g ∙ e in
          let i : least_place k m.strips ≡ s = cc in
          let j : least_halved k m.strips ≡ p = cc in
          let was : slot_holds 0 m.strips s ≡ vacant =
          subst (λ n. slot_holds 0 m.strips n ≡ vacant) (omega arith)
          (vacant-before k 0 m.strips h 0 (some k)) in
          rw (← j) (changed t s (least_halved k m.strips) (here k held) T
          (rw i at (taken-begins k m.strips h)) (take-joined k m.strips H.joined) l
          (record {
            at_slot = λ n u d. let y : ◌≡◌ {A = ℕ} 0 1 = cc in absurd (omega arith);
            at-task = λ n d. absurd (omega arith);
            nowhere-else = λ n c d. omega arith;
            no_other = λ u g c d.
                let B = H.begun_by u s g d in
                let f : within (0 + s) B.0 (begun u) ≡ vacant =
                sym (starts-in 0 m.strips s B.0 (begun u) B.1) ∙ was in
                let y : ◌≡◌ {A = ℕ} 0 1 = cc in
                omega arith;
          }))

  -- an idle task begins the free of a strip in hand
  pub begun-holds : (t k s : ℕ) (T : Task) → t < TASKS → strip_starts m.strips s ≡ here k held
      → frees_strip (m.task t).place ≡ 0 → frees_strip T.place ≡ suc s
      → StripsHold (set_task t T (set_strips (free_begun t s m.strips) m))
  begun-holds t k s T l e a z =
      changed t s (free_begun t s m.strips) (here k (begun t)) T (began-begins t m.strips s k held e)
      (begin-joined t m.strips s H.joined) l (record {
        at_slot = λ n u d. (sym (let f : t ≡ u = cc in f), z);
        at-task = λ n d. (omega arith, (k, refl));
        nowhere-else = λ n c d. omega arith;
        no_other = λ u g c d.
            let B = H.begun_by u s g d in
            let f : here B.0 (begun u) ≡ here k held = sym B.1 ∙ e in
            let y : ◌≡◌ {A = ℕ} 0 1 = cc in
            omega arith;
      })

  -- the task gives back the strip that it frees
  pub given_holds : (t s : ℕ) (T : Task) → t < TASKS → frees_strip (m.task t).place ≡ suc s
      → frees_strip T.place ≡ 0 → StripsHold (set_task t T (set_strips (give_strip s m.strips) m))
  given_holds t s T l a z =
      let B = H.begun_by t s l a in
      changed t s (give_strip s m.strips) nowhere T (given-begins m.strips s B.0 (begun t) B.1)
      (give-joined m.strips s H.joined) l (record {
        at_slot = λ n u d. let y : ◌≡◌ {A = ℕ} 0 1 = cc in absurd (omega arith);
        at-task = λ n d. absurd (omega arith);
        nowhere-else = λ n c d. c (omega arith);
        no_other = λ u g c d.
            let D = H.begun_by u s g d in
            let f : here D.0 (begun u) ≡ here B.0 (begun t) = sym D.1 ∙ B.1 in
            c (let i : u ≡ t = cc in i);
      })
