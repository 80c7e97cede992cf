-- What the tables of the list moves say: where their places lie, of which kind their lists are, how many items there
-- are.
use Prim.Native.Nat.{ℕ, ◌+◌, ◌≤◌, ◌<◌}
use native.Mathlib.Omega.{arith}
use Rattle.limits.specs.Limits.{REGIONS, CLASSES, DESCRIPTORS, SPARE_DESCRIPTORS, SPARE_REGIONS, DESCRIPTOR_LISTS}
use Rattle.limits.specs.Limits.{LISTS}
use Rattle.control.specs.Places.{POP_PARTIAL, PUSH_RETIRE, A3_READ, TO_EXCHANGE}
use Rattle.control.specs.declared.moves.Pop.{Pop}
use Rattle.control.specs.declared.moves.Pop.TheVariants.{Partial, Spare, Region}
use Rattle.control.specs.declared.moves.Push.{Push}
use Rattle.control.specs.declared.moves.Push.TheVariants.{Retire, Back, Release, Offer}
use Rattle.stepped.specs.Lists.{Items, descriptor_items, region_items, how_many, pop_place, pop_list, pop_items}
use Rattle.stepped.specs.Lists.{push_place}
use Rattle.stepped.specs.Lists.{push_list, push_items}

-- the pops come first, then the pushes
pub pop-first : (P : Pop) → (POP_PARTIAL ≤ pop_place P) × (pop_place P + TO_EXCHANGE < PUSH_RETIRE)
pop-first Partial = omega arith
pop-first Spare = omega arith
pop-first Region = omega arith

pub push-later : (P : Push) → (PUSH_RETIRE ≤ push_place P) × (push_place P + TO_EXCHANGE < A3_READ)
push-later Retire = omega arith
push-later Back = omega arith
push-later Release = omega arith
push-later Offer = omega arith

-- the lists by what their items are: those of descriptors, and that of the spare regions
pub data ListOf : Items → ℕ → Type 0 where
  descriptors : {ℓ : ℕ} → ℓ < DESCRIPTOR_LISTS → ListOf descriptor_items ℓ
  spare-regions : ListOf region_items SPARE_REGIONS

pub popped-list : (P : Pop) (c : ℕ) → c < CLASSES → ListOf (pop_items P) (pop_list P c)
popped-list Partial c h = descriptors {ℓ = c} (omega arith)
popped-list Spare c h = descriptors {ℓ = SPARE_DESCRIPTORS} (omega arith)
popped-list Region c h = spare-regions

pub pushed-list : (P : Push) (c : ℕ) → c < CLASSES → ListOf (push_items P) (push_list P c)
pushed-list Retire c h = descriptors {ℓ = SPARE_DESCRIPTORS} (omega arith)
pushed-list Back c h = descriptors {ℓ = SPARE_DESCRIPTORS} (omega arith)
pushed-list Release c h = spare-regions
pushed-list Offer c h = descriptors {ℓ = c} (omega arith)

-- a list's number is below the number of lists
pub below-lists : {items : Items} {ℓ : ℕ} → ListOf items ℓ → ℓ < LISTS
below-lists (descriptors l) = omega arith
below-lists spare-regions = omega arith

-- there are at most as many items as descriptors
pub most-items : (items : Items) {regions : ℕ} → regions ≤ REGIONS → how_many items regions ≤ DESCRIPTORS
most-items descriptor_items h = omega arith
most-items region_items h = omega arith
