-- The step list, in one pass: what every step answers, in every state, and that it keeps the invariant.
use mathlib.Core.Path.{◌≡◌, refl}
use mathlib.Core.List.{List, ◌∷◌}
use Prim.Native.Nat.{ℕ, zero, suc, ◌<◌}
use native.Mathlib.Omega.{arith}
use lib.ListN.{length-append}
use Rattle.rows.proofs.Weights.{when-same}
use Rattle.rows.proofs.Counting.{count-append}
use Rattle.limits.specs.Limits.{TASKS}
use Rattle.classes.specs.Geometry.{region_of}
use Rattle.plain.specs.State.{Place, idle, a1, popping, pushing, a3-read, a3-exchange, a4, a7, a8, f1, f2}
use Rattle.plain.specs.State.{f3-read, f3-link, f3-exchange, f4-clear, strip-take, strip-give, leave-end, Mem}
use Rattle.plain.specs.State.{Work, working, Purpose}
use Rattle.pieces.specs.Strips.{StripTaken, none_found, strip_at, take_strip, give_strip}
use Rattle.plain.specs.Steps.{f3_read, strip_take_step, step_at, step_of, when_working}
use Rattle.plain.specs.Held.{own_blocks}
use Rattle.plain.specs.Invariant.{Invariant}
use Rattle.plain.specs.Codes.{StepFacts}
use Rattle.plain.proofs.CallTests.{KeepsInvariant}
use Rattle.plain.proofs.Turn.{Turn}
use Rattle.plain.proofs.PlaceAlone.{task_of, turn_at, place_holds, placed, placed-empty, note_holds}
use Rattle.plain.proofs.Caches.{a1-inv, a4-inv, a8-inv, f1-inv, f2-inv}
use Rattle.plain.proofs.ListSteps.{pop-inv, push-inv}
use Rattle.plain.proofs.Takes.{a3-read-inv, a3-exchange-inv}
use Rattle.plain.proofs.Regions.{clear-inv, open-inv}
use Rattle.plain.proofs.GroupFits.{Grouped, group-fits}
use Rattle.plain.proofs.Returns.{f3-exchange-inv}
use Rattle.plain.proofs.Codes.{facts-a1, facts-pop, facts-push, facts-a3, facts-a3-exchange, facts-a4, facts-a7}
use Rattle.plain.proofs.Codes.{facts-a8, facts-f1, facts-f2, facts-f3, facts-f3-link, facts-f3-exchange}
use Rattle.plain.proofs.Codes.{facts-f4, facts-take, facts-give, facts-leave, facts-idle}
use Rattle.plain.proofs.StripChanges.{strips-aside}

module _ {area : ℕ} {m : Mem} {t : ℕ} (k : ℕ → List ℕ) where
  -- The anchor read of a free; where the map names no descriptor nothing happens.
  read_step : (c : ℕ) (z : Purpose) (y : ℕ) (g : List ℕ) (i : ℕ) → m.map (region_of y) ≡ i
      → Turn area m t (task_of (working (f3-read c z y g)) k) → KeepsInvariant area (f3_read t k i c z y g m)
  read_step c z y g zero e w = w.inv
  read_step c z y g (suc d) e w =
      let o = place_holds w in
      let group : Grouped m (working (f3-read c z y g)) c z y g d =
      record { blocks = refl; class = refl; together = o.2; named = e } in
      placed w _ refl
      (o.0, o.1, o.2, omega (arith, group-fits w group, length-append g (m.descriptor d).chain))
      (omega (arith, when-same y 1, count-append y (own_blocks z) (y ∷ g)), e)

  -- The step that takes a strip changes nothing else but the task's place.
  take_step : (j : ℕ) (x : StripTaken) → Turn area m t (task_of (working (strip-take j)) k)
      → KeepsInvariant area (strip_take_step t k x m)
  take_step j none_found w = placed-empty w idle refl refl tt tt
  take_step j (strip_at s p) w = strips-aside p (placed-empty w idle refl refl tt tt)

module _ (t : ℕ) (k : ℕ → List ℕ) (m : Mem) where
  -- what is shown of the step of a task at the place w
  record Shown (w : Work) : Type 0 where
    facts : (m.task t).place ≡ working w → StepFacts t m (step_at t k w m)
    kept : (area : ℕ) → Turn area m t (task_of (working w) k) → KeepsInvariant area (step_at t k w m)

  -- The step list.
  step-at : (w : Work) → Shown w
  step-at (a1 c) = record { facts = λ h. facts-a1 t k m c (k c); kept = λ area T. a1-inv c (k c) refl T }
  step-at (popping p φ) = record { facts = facts-pop t k m p φ; kept = λ area T. pop-inv p φ T }
  step-at (pushing p φ) = record { facts = facts-push t k m p φ; kept = λ area T. push-inv p φ T }
  step-at (a3-read c d) = record {
    facts = λ h. facts-a3 t k m c d (m.descriptor d).state;
    kept = λ area T. a3-read-inv c d (m.descriptor d).state refl T;
  }
  step-at (a3-exchange c d n) =
      record { facts = λ h. facts-a3-exchange t k m c d n; kept = λ area T. a3-exchange-inv c d n T }
  step-at (a4 c x q) = record { facts = λ h. facts-a4 t k m c x q; kept = λ area T. a4-inv c x q T }
  step-at (a7 c d r) = record { facts = λ h. facts-a7 t k m c d r; kept = λ area T. open-inv c d r T }
  step-at (a8 c r i) = record { facts = λ h. facts-a8 t k m c r i; kept = λ area T. a8-inv c r i T }
  step-at (f1 c u) = record { facts = λ h. facts-f1 t k m c u; kept = λ area T. f1-inv c u T }
  step-at (f2 c z g) = record { facts = λ h. facts-f2 t k m c z (k c) g; kept = λ area T. f2-inv c z (k c) g refl T }
  step-at (f3-read c z y g) = record {
    facts = facts-f3 t k m (m.map (region_of y)) c z y g;
    kept = λ area T. read_step k c z y g (m.map (region_of y)) refl T;
  }
  step-at (f3-link c z y g d n) = record {
    facts = λ h. facts-f3-link t k m c z y g d n;
    kept = λ area T. placed T _ refl (place_holds T) (note_holds T);
  }
  step-at (f3-exchange c z y g d n) =
      record { facts = λ h. facts-f3-exchange t k m c z y g d n; kept = λ area T. f3-exchange-inv T }
  step-at (f4-clear c z d s r) =
      record { facts = λ h. facts-f4 t k m c z d s r; kept = λ area T. clear-inv c z d s r T }
  step-at (strip-take j) = record {
    facts = facts-take t k m j (take_strip j m.strips) refl;
    kept = λ area T. take_step k j (take_strip j m.strips) T;
  }
  step-at (strip-give s) = record {
    facts = λ h. facts-give t k m s;
    kept = λ area T. strips-aside (give_strip s m.strips) (placed-empty T idle refl refl tt tt);
  }
  step-at leave-end =
      record { facts = λ h. facts-leave t k m; kept = λ area T. placed-empty T idle refl refl tt tt }

  -- Every step; an idle task makes none.
  facts-of : (p : Place) → (m.task t).place ≡ p → StepFacts t m (when_working p (λ w. step_at t k w m) m)
  facts-of idle h = facts-idle t k m h
  facts-of (working w) h = (step-at w).facts h

  kept_of : {area : ℕ} (p : Place) → Turn area m t (task_of p k)
      → KeepsInvariant area (when_working p (λ w. step_at t k w m) m)
  kept_of idle T = T.inv
  kept_of {area} (working w) T = (step-at w).kept area T

-- What every step answers, in every state.
pub step-facts : (t : ℕ) (m : Mem) → StepFacts t m (step_of t m)
unfolding step_of
step-facts t m = facts-of t (m.task t).cache m (m.task t).place refl

-- Every step of one of the tasks keeps the invariant.
pub step-inv : {area : ℕ} {m : Mem} (t : ℕ) → t < TASKS → Invariant area m → KeepsInvariant area (step_of t m)
unfolding step_of
step-inv {m = m} t l I = kept_of t (m.task t).cache m (m.task t).place (turn_at I l refl)
