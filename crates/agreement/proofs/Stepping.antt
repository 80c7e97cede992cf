-- One step of one task, in both pools, wherever it is in the step list.
use mathlib.Core.Path.{refl}
use mathlib.Core.List.{List}
use Prim.Native.Nat.{ℕ, ◌≤◌, ◌<◌}
use native.Mathlib.Omega.{arith}
use borrow.Author.Tests.{lt-ltb, ltb-false, ltb-true}
use lib.Dec.{ltb}
use Rattle.limits.specs.Limits.{REGIONS, TASKS, CLASSES}
use Rattle.fields.specs.Columns.{View}
use Rattle.links.specs.Link.{link}
use Rattle.plain.specs.State.{Place, Mem, Work, working, idle}
use Rattle.plain.specs.Steps as Steps
use Rattle.plain.specs.Invariant.{Invariant, StripsHold}
use Rattle.plain.specs.Noted.{noted_at, noted}
use Rattle.control.specs.Layout.{TaskPlace, TaskClass}
use Rattle.control.specs.Places.{IDLE}
use Rattle.stepped.specs.Steps as Stepped
use Rattle.plain.specs.Moves.{nothing}
use Rattle.control.specs.Answers.{Freed}
use Rattle.agreement.proofs.MoveSteps.{moves}
use Rattle.agreement.specs.Contents.{slot_of, contents_of}
use Rattle.agreement.specs.Relation.{WorkRelated, r_a1, r_popping, r_pushing, r_a3_read, r_a3_exchange, r_a4}
use Rattle.agreement.specs.Relation.{r_leave_end}
use Rattle.agreement.specs.Relation.{r_a7, r_a8, r_f1, r_f2, r_f2_more, r_f3_read, r_f3_link, r_f3_exchange}
use Rattle.agreement.specs.Relation.{r_f4_clear, r_strip_take, r_strip_give, PlaceRelated, r_idle, r_working}
use Rattle.agreement.specs.Relation.{Related}
use Rattle.agreement.specs.Events
use Rattle.agreement.proofs.Both.{Both, Fitting, pass, choose}
use Rattle.agreement.proofs.Turns.{At}
use Rattle.agreement.proofs.BeginsBoth.{refusal}
use Rattle.agreement.proofs.Pops.{pop-both}
use Rattle.agreement.proofs.Pushes.{push-both}
use Rattle.agreement.proofs.Taking.{a1-both}
use Rattle.agreement.proofs.AllocateAnchor.{a3-read-both, a3-exchange-both}
use Rattle.agreement.proofs.Filling.{a4-both, a8-both}
use Rattle.agreement.proofs.Opening.{a7-both}
use Rattle.agreement.proofs.Keeping.{f1-both}
use Rattle.agreement.proofs.Grouping.{f2-both, f2-more-both}
use Rattle.agreement.proofs.Returning.{f3-read-both, f3-link-both}
use Rattle.agreement.proofs.Exchanging.{f3-exchange-both}
use Rattle.agreement.proofs.Clearing.{f4-clear-both}
use Rattle.agreement.proofs.WorkPlaces.{work-place}
use Rattle.agreement.proofs.StripsBoth.{strip-take-both, strip-give-both}

module _ {regions : ℕ} {v : View} {area : List ℕ} {m : Mem} {t : ℕ} {k : ℕ → List ℕ} where
  work-both : {p : Work} → At regions v area m t (working p) k → StripsHold m
      → WorkRelated regions (contents_of v area) m (slot_of v t) p
      → Events.Near m.won (noted_at p)
      → Both regions v area m (Stepped.step_at v (link area) regions t (v (TaskClass t)) (v (TaskPlace t)))
      (Steps.step_at t k p m)
  unfolding Stepped.step_at
  work-both w H (r_a1 e) n = rw e (a1-both w)
  work-both w H (r_popping P h) n = pop-both (link area) P w h n
  work-both w H (r_pushing P z f h) n = push-both (link area) P z w f h n
  work-both w H (r_a3_read e) n = rw e (a3-read-both w)
  work-both w H (r_a3_exchange e N i j l o) n = rw e (a3-exchange-both w N i j l o)
  work-both w H (r_a4 e l i h) n = rw e (a4-both w e l i h)
  work-both w H (r_a7 e) n = rw e (a7-both w)
  work-both w H (r_a8 e) n = rw e (a8-both w e)
  work-both w H (r_f1 e) n = rw e (f1-both w)
  work-both w H (r_f2 e z) n = rw e (f2-both w e z)
  work-both w H (r_f2_more e G) n = rw e (f2-more-both w e G)
  work-both w H (r_f3_read e G) n = rw e (f3-read-both w G)
  work-both w H (r_f3_link e G N l) n = rw e (f3-link-both w G N l)
  work-both w H (r_f3_exchange e G N l i) n = rw e (f3-exchange-both w G N l i)
  work-both w H (r_f4_clear e i) n = rw e (f4-clear-both w i)
  work-both w H (r_strip_take e) n = rw e (strip-take-both w)
  work-both w H (r_strip_give e i) n = rw e (strip-give-both w H i)
  work-both w H (r_leave_end e) n = rw e (moves w Freed nothing IDLE idle (omega arith) (r_idle refl))

  -- one step: test 7, the class, and the step at the place
  place-both : {p : Place} → At regions v area m t p k → StripsHold m → v (TaskClass t) < CLASSES
      → PlaceRelated regions (contents_of v area) m (slot_of v t) p → Events.Near m.won (noted p)
      → Both regions v area m (Stepped.step_of v (link area) regions t)
      (Steps.when_working p (λ q. Steps.step_at t k q m) m)
  unfolding Stepped.step_of
  place-both w H l (r_idle e) n =
      choose (ltb IDLE (v (TaskPlace t))) (λ h. absurd (omega (arith, ltb-true IDLE (v (TaskPlace t)) h)))
      (λ h. refusal w.pair.rel 7)
  place-both w H l (r_working W) n =
      choose (ltb IDLE (v (TaskPlace t)))
      (λ h. pass (ltb (v (TaskClass t)) CLASSES) (lt-ltb (v (TaskClass t)) CLASSES l) (work-both w H W n))
      (λ h. absurd (omega (arith, ltb-false IDLE (v (TaskPlace t)) h, work-place W)))

pub step_both : {regions : ℕ} {v : View} {area : List ℕ} {m : Mem} (t : ℕ) → t < TASKS → regions ≤ REGIONS → Fitting v
    → Related regions (contents_of v area) m → Invariant regions m → StripsHold m
    → Events.Near m.won (noted (m.task t).place)
    → Both regions v area m (Stepped.step_of v (link area) regions t) (Steps.step_of t m)
unfolding Steps.step_of
step_both {regions} {v} {area} {m} t l small F R I H near =
    let w : At regions v area m t (m.task t).place (m.task t).cache =
    record { pair = record { rel = R; turn = record { inv = I; fits = l; is = refl }; small = small }; fitting = F } in
    place-both w H (R.slots t l).fits (R.slots t l).place near
