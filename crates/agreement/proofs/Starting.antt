-- A start, in both pools: on any bytes, at any time.
use mathlib.Core.Path.{◌≡◌, refl, sym, subst, ◌∙◌}
use mathlib.Core.List.{List, ◌++◌}
use Prim.Native.Nat.{ℕ, ◌*◌, ◌/◌, ◌≤◌}
use native.Mathlib.Omega.{arith}
use lib.ListN.{length, replicate, length-replicate}
use Rattle.limits.specs.Limits.{CONTROL_BYTES, REGIONS, REGION_BYTES, UNITS, TASKS, DESCRIPTORS, STRIPS_BYTES}
use Rattle.fields.specs.Columns.{Field, first_byte, width, Has, Sound}
use Rattle.fields.proofs.Layouts.{length-written, bytes-written}
use Rattle.plain.specs.Moves.{Answer}
use Rattle.plain.specs.Calls.{Pool, Start, StartTested}
use Rattle.plain.specs.Calls as Plain
use Rattle.plain.specs.Invariant.{Good}
use Rattle.plain.proofs.StartInvariant.{start-inv}
use Rattle.plain.proofs.StripInvariant.{start-strips}
use Rattle.plain.proofs.CallTests.{start-failed, start-passed}
use Rattle.plain.proofs.CallTests.{started as started_pool}
use Rattle.control.specs.Layout.{CACHES, layout, Tasks, Regions, seen, DescriptorNext, RegionNext, TopOfCache}
use Rattle.control.specs.Layout.{descriptor_nexts}
use Rattle.control.specs.Layout.{region_nexts, cache_tops}
use Rattle.control.proofs.Fields.{seen-changed}
use Rattle.stepped.specs.Outcome.{Effect, effect, refuse, Memories}
use Rattle.stepped.specs.Start.{fill, next_up, start_writes, start_image}
use Rattle.stepped.specs.Calls.{Lent, lengths, start_effect}
use Rattle.stepped.specs.Calls as Stepped
use Rattle.stepped.proofs.CallTests as Steps₁
use Rattle.plain.proofs.LeaveInvariant.{start-leaves}
use Rattle.agreement.specs.Events.{ran, stepped}
use Rattle.agreement.specs.Reached.{starting}
use Rattle.fields.proofs.Layouts.{assigned-same}
use Rattle.agreement.proofs.Images.{get_le-zeros, zeros, fill-sound, append-sound}
use Rattle.agreement.proofs.StartRelated.{zeroed, start_view, start-view, at-tasks, at-regions, next-max}
use Rattle.agreement.proofs.StartRelated.{start-related}
use Rattle.agreement.proofs.Views.{views-related}
use Rattle.agreement.specs.Tied.{Tied}
use Rattle.agreement.proofs.Simulation.{Alike, stays}
use Rattle.agreement.proofs.Ways.{start-tests}

module _ (b : Start) (regions : ℕ) (few : b.tasks ≤ TASKS) (small : regions ≤ REGIONS) where
  -- each write is to a field of the layout, and its value fits
  start-sound : Sound layout (start_writes b regions)
  unfolding start_writes
  start-sound = (
    omega arith,
    (
      omega arith,
      (
        omega arith,
        (
          omega arith,
          (
            omega arith,
            append-sound (fill DescriptorNext (next_up DESCRIPTORS) DESCRIPTORS)
                (fill RegionNext (next_up regions) regions ++ fill TopOfCache (λ i. UNITS) CACHES)
                (fill-sound descriptor_nexts (next_up DESCRIPTORS) DESCRIPTORS DESCRIPTORS 256 (λ i x l k. omega arith)
                (λ i l. omega (arith, next-max DESCRIPTORS i l)) (omega arith))
                (append-sound (fill RegionNext (next_up regions) regions) (fill TopOfCache (λ i. UNITS) CACHES)
                (fill-sound region_nexts (next_up regions) regions REGIONS 256 (λ i x l k. omega arith)
                (λ i l. omega (arith, next-max regions i l)) small)
                (fill-sound cache_tops (λ i. UNITS) CACHES CACHES 65536 (λ i x l k. omega arith) (λ i l. omega arith)
                (omega arith))),
          ),
        ),
      ),
    ),
  )

  -- what stands in the fields of the image
  pub image-view : (g : Field) → Has layout g → seen (start_image b regions) g ≡ start_view b regions g
  unfolding start_image
  image-view g h =
      seen-changed (start_writes b regions) (replicate CONTROL_BYTES 0) g (length-replicate {A = ℕ} CONTROL_BYTES 0)
      start-sound h
      ∙ assigned-same (start_writes b regions) (seen (replicate CONTROL_BYTES 0)) zeroed g
      (get_le-zeros CONTROL_BYTES (first_byte layout g) (width layout g))
      ∙ start-view b regions g

  -- the image and any area of the length are related to the plain pool after a start
  started : (area strips : List ℕ) → length area ≡ REGION_BYTES * regions → length strips ≡ STRIPS_BYTES
      → 1 ≤ regions → (s : Pool)
      → s ≡ record { tasks = b.tasks; regions = regions; mem = Plain.start_mem regions } → Good s
      → Tied (record { control = start_image b regions; area = area; strips = strips }) s
  unfolding start_image
  started area strips e f some s i g =
      let G : Good (record { tasks = b.tasks; regions = regions; mem = Plain.start_mem regions }) = subst Good i g in
      subst (λ (z : Pool). Tied (record { control = start_image b regions; area = area; strips = strips }) z) (sym i)
      (record {
        length =
            length-written layout (start_writes b regions) (replicate CONTROL_BYTES 0)
            ∙ length-replicate {A = ℕ} CONTROL_BYTES 0;
        bytes =
            bytes-written layout (start_writes b regions) (replicate CONTROL_BYTES 0)
            (λ k. rw (zeros CONTROL_BYTES k) (omega arith));
        tasks = image-view Tasks (omega arith) ∙ at-tasks b regions;
        good = G;
        some = λ k. some;
        regions = λ k. image-view Regions (omega arith) ∙ at-regions b regions;
        related = λ k. views-related image-view area small (G.inv k) (start-related b regions some area e small);
        strips = λ k. f;
      })

-- a pool that has just been started
abbrev new : Start → ℕ → Pool
new b regions = record { tasks = b.tasks; regions = regions; mem = Plain.start_mem regions }

-- an accepted start, in both pools: the control memory may have looked like a started pool, or have held anything
new-alike : (b : Start) (lent : Lent) → StartTested b (lengths lent)
    → Good (new b (length lent.area / REGION_BYTES))
    → Alike (λ z. Unit {0}) (ran (start_effect b lent)) (started_pool b (lengths lent))
new-alike b lent T g =
    let regions = length lent.area / REGION_BYTES in
    record {
      says = refl;
      shows = tt;
      tied =
          started b regions T.tasks.1 (omega (arith, T.lengths.0)) lent.area lent.strips
          (omega (arith, T.lengths.0)) T.lengths.1 (omega (arith, T.lengths.0)) (new b regions) refl g;
    }

-- a start: refused by the same number, or accepted in both
pub start-alike : {s₁ : Memories} {s : Pool} → Tied s₁ s → (b : Start) (lent : Lent)
    → (StartTested b (lengths lent) → Good (new b (length lent.area / REGION_BYTES)))
    → Alike (λ z. Unit {0}) (ran (Stepped.start_in b lent s₁)) (Plain.start_call b (lengths lent) s)
start-alike {s₁} {s} S b lent g =
    let Same : Effect → Pool × Answer → Type 0 = λ e. Alike (λ z. Unit {0}) (ran e) in
    start-tests (λ e. Same e (Plain.start_call b (lengths lent) s)) b lent s₁
    (λ n F. subst (Same (effect (refuse n) s₁)) (sym (start-failed s F)) (stays S (λ z. Unit {0}) tt n))
    (λ T. subst (Same (start_effect b lent)) (sym (start-passed s T)) (new-alike b lent T (g T)))

-- an accepted start, whatever was before
pub accepted-start : (s₁ : Memories) (s : Pool) (b : Start) (lent : Lent) → StartTested b (lengths lent)
    → Alike (λ z. Unit {0}) (stepped (starting b lent) s₁) (Plain.start_call b (lengths lent) s)
accepted-start s₁ s b lent T =
    let regions = length lent.area / REGION_BYTES in
    subst (λ (e : Effect). Alike (λ z. Unit {0}) (ran e) (Plain.start_call b (lengths lent) s))
    (sym (Steps₁.start-passed b lent s₁ T))
    (subst (Alike (λ z. Unit {0}) (ran (start_effect b lent))) (sym (start-passed s T))
    (new-alike b lent T (record {
      few = T.tasks.1;
      small = λ k. omega (arith, T.lengths.0);
      inv = λ k. start-inv regions;
      strips = λ k. start-strips regions;
      leaves = λ k. start-leaves regions;
    })))
