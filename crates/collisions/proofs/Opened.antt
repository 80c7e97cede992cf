-- At step 7 of an allocation no other task has noted the anchor that it writes: the descriptor is EMPTY, and this task
-- alone holds it, while the one that an allocation has noted is in its hand, and the one that a return has noted opens
-- its group's region.
use mathlib.Core.Path.{◌≡◌, refl, ap}
use mathlib.Core.Logic.{◌≢◌}
use mathlib.Core.List.{List}
use Prim.Native.Nat.{ℕ, ◌<◌}
use native.Mathlib.Omega.{arith}
use Rattle.limits.specs.Limits.{TASKS, DESCRIPTORS}
use Rattle.rows.proofs.Weights.{when-same, below-max}
use Rattle.rows.proofs.Totals.{total-two}
use Rattle.plain.specs.State.{State, EMPTY, Phase, read, next, exchange, a7, working, Mem}
use Rattle.plain.specs.ByState.{if_open}
use Rattle.plain.specs.Held.{held}
use Rattle.plain.specs.HolderWeights.{descriptor_weight}
use Rattle.plain.specs.Noted.{Noted, unnoted, pop_noted, push_noted, anchor_noted, entry_noted, noted}
use Rattle.plain.specs.TaskHolds.{NotedHolds}
use Rattle.plain.proofs.Turn.{Turn}
use Rattle.plain.proofs.PlaceAlone.{task_of, turn_at, note_holds}
use Rattle.plain.proofs.Owners.{owner}
use Rattle.plain.proofs.AnchorExchange.{spare-empty}
use Rattle.collisions.specs.Accesses.{anchor}
use Rattle.collisions.proofs.Notes.{phase_note, note_of, note_at, NotNoted}

-- a word of a list is no anchor
phase-not : (b ℓ : ℕ) (φ : Phase) → NotNoted (λ v. v ≡ anchor b) (phase_note ℓ φ)
phase-not b ℓ read = tt
phase-not b ℓ (next n) = λ e. let z : ◌≡◌ {A = ℕ} 0 1 = cc in omega arith
phase-not b ℓ (exchange n) = λ e. let z : ◌≡◌ {A = ℕ} 0 1 = cc in omega arith

module _ {area : ℕ} {m : Mem} {t : ℕ} {k : ℕ → List ℕ} {c b r : ℕ}
    (w : Turn area m t (task_of (working (a7 c b r)) k)) where
  -- the descriptor is EMPTY
  is-empty : (m.descriptor b).state ≡ EMPTY
  is-empty = spare-empty w b (omega (arith, when-same b 1))

  -- no other task holds it
  held-once : (u : ℕ) → u ≢ t → u < TASKS → descriptor_weight b u (m.task u) ≡ 0
  held-once u d l = omega (
    arith,
    w.inv.descriptors b,
    below-max b DESCRIPTORS,
    total-two TASKS (descriptor_weight b) m.task u t d l w.fits,
    ap (descriptor_weight b t) w.is,
    when-same b 1,
  )

  -- by what the task u has noted
  not_noted : (u : ℕ) → u ≢ t → u < TASKS → (n : Noted)
      → NotedHolds m.row m.won m.map (held (m.task u).place) n → NotNoted (λ v. v ≡ anchor b) (note_of n)
  not_noted u d l unnoted h = tt
  not_noted u d l (pop_noted p φ) h = phase-not b _ φ
  not_noted u d l (push_noted p φ) h = phase-not b _ φ
  not_noted u d l (anchor_noted f n) h = λ e.
      let i : f ≡ b = cc in
      omega (arith, held-once u d l, ap (λ (z : ℕ). descriptor_weight z u (m.task u)) i)
  not_noted u d l (entry_noted y f n) h = λ e.
      let i : f ≡ b = cc in
      let o = owner (turn_at w.inv l refl) y f h.0 h.1 in
      omega (
        arith,
        o.counts 1,
        ap (λ (z : ℕ). if_open (m.descriptor z).state 1) i,
        ap (λ (s : State). if_open s 1) is-empty,
      )

  -- No other task has noted its anchor.
  pub others-not : (u : ℕ) → u ≢ t → u < TASKS → NotNoted (λ v. v ≡ anchor b) (note_at (m.task u).place)
  others-not u d l = not_noted u d l (noted (m.task u).place) (note_holds (turn_at w.inv l refl))
