-- docs/POOL.md, "The relation"
-- Every task of the plain pool that is at work is at what it has asked for last.
use Rattle.std.specs.Prelude.{◌≡◌, ℕ, ◌≤◌, ◌<◌}
use Rattle.limits.specs.Limits.{LARGEST_SIZE, LARGEST_STRIP, UNITS}
use Rattle.classes.specs.Sizes.{class_of}
use Rattle.pieces.specs.StripSizes.{order_of}
use Rattle.pieces.specs.StripUnits.{strip_unit}
use Rattle.plain.specs.State.{Place, idle, working, Mem}
use Rattle.plain.specs.Requests.{Request, allocation, freeing, strip_allocation, strip_freeing, leaving}
use Rattle.plain.specs.Requests.{request_at}
use Rattle.agreement.specs.Reached.{History}
use Rattle.agreement.specs.Asked.{Asked, nothing_yet, for_bytes, for_free, for_leave, asked}

-- the class c serves the size
abbrev pub Serves : ℕ → ℕ → Type 0
Serves size c = (1 ≤ size) × (size ≤ LARGEST_SIZE) × (c ≡ class_of size)

-- a strip of the order k serves the size
abbrev pub StripServes : ℕ → ℕ → Type 0
StripServes size k = (LARGEST_SIZE < size) × (size ≤ LARGEST_STRIP) × (k ≡ order_of size)

-- the request is what was asked for
abbrev pub AsAsked : Asked → Request → Type 0
AsAsked nothing_yet q = ⊥
AsAsked (for_bytes size) (allocation c) = Serves size c
AsAsked (for_bytes size) (freeing c u) = ⊥
AsAsked (for_bytes size) (strip_allocation k) = StripServes size k
AsAsked (for_bytes size) (strip_freeing s) = ⊥
AsAsked (for_bytes size) leaving = ⊥
AsAsked (for_free unit) (allocation c) = ⊥
AsAsked (for_free unit) (freeing c u) = (u ≡ unit) × (unit < UNITS)
AsAsked (for_free unit) (strip_allocation k) = ⊥
AsAsked (for_free unit) (strip_freeing s) = strip_unit s ≡ unit
AsAsked (for_free unit) leaving = ⊥
AsAsked for_leave (allocation c) = ⊥
AsAsked for_leave (freeing c u) = ⊥
AsAsked for_leave (strip_allocation k) = ⊥
AsAsked for_leave (strip_freeing s) = ⊥
AsAsked for_leave leaving = Unit {0}

-- a task that is at work is at what it has asked for
abbrev pub AtWhatAsked : Asked → Place → Type 0
AtWhatAsked a idle = Unit {0}
AtWhatAsked a (working w) = AsAsked a (request_at w)

-- all tasks of a memory are at what they have asked for, each at its own
abbrev pub AllAtWhatAsked : (ℕ → Asked) → Mem → Type 0
AllAtWhatAsked a m = (t : ℕ) → AtWhatAsked (a t) (m.task t).place

-- after the history h, all tasks of a memory are at what they have asked for last
abbrev pub AtLastAsked : History → Mem → Type 0
AtLastAsked h = AllAtWhatAsked (λ t. asked t h)
