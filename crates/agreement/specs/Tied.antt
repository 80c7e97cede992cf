-- docs/POOL.md, "The relation"
-- What ties the bytes of the stepped run to the plain pool, before and after every event of every run; and what is said
-- of the noted states beside it.
use Rattle.std.specs.Prelude.{◌≡◌, List, ℕ, ◌≤◌, ◌<◌}
use lib.ListN.{length}
use Rattle.limits.specs.Limits.{TASKS, STRIPS_BYTES}
use Rattle.fields.specs.Little.{Bytes}
use Rattle.words.specs.Anchor.{FULL}
use Rattle.plain.specs.Calls.{Pool}
use Rattle.plain.specs.Invariant.{Good}
use Rattle.control.specs.Layout.{Control, Tasks, Regions, TaskState, seen}
use Rattle.stepped.specs.Outcome.{Memories}
use Rattle.agreement.specs.Contents.{contents_of}
use Rattle.agreement.specs.Relation.{Related}

-- The control memory has its length and holds bytes; the started numbers of tasks and regions are the plain pool's; the
-- plain pool has its invariant; and, once it is started, the fields and links are in relation with the plain pool's
-- rows.
pub record Tied (s₁ : Memories) (s : Pool) : Type 0 where
  pub length : Control s₁.control
  pub bytes : Bytes s₁.control
  pub tasks : seen s₁.control Tasks ≡ s.tasks
  pub good : Good s
  -- once the pool is started: it has a region, the stored number of regions is the plain pool's, and the relation holds
  pub some : 1 ≤ s.tasks → 1 ≤ s.regions
  pub regions : 1 ≤ s.tasks → seen s₁.control Regions ≡ s.regions
  pub related : 1 ≤ s.tasks → Related s.regions (contents_of (seen s₁.control) s₁.area) s.mem
  -- the strips' memory has its length
  pub strips : 1 ≤ s.tasks → lib.ListN.length s₁.strips ≡ STRIPS_BYTES

-- The state that each task noted is one of the three: what `TaskState` holds, whether a step will read it or not.
abbrev pub States : List ℕ → Type 0
States control = (t : ℕ) → t < TASKS → seen control (TaskState t) ≤ FULL

-- each task's noted state is one of the three, once the pool is started
abbrev pub FoundStates : List ℕ → Type 0
FoundStates control = 1 ≤ seen control Tasks → States control
