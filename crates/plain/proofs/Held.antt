-- What a task holds in one way it holds; and when two things under way weigh the same.
use mathlib.Core.Path.{◌≡◌, ap}
use mathlib.Core.List.{[]}
use Prim.Native.Nat.{ℕ, ◌≤◌}
use native.Mathlib.Omega.{arith}
use Rattle.rows.specs.Counting.{count}
use Rattle.rows.proofs.Weights.{when-max, when-zero}
use Rattle.plain.specs.State.{Place}
use Rattle.plain.specs.Held.{Held, hold, held, holds_descriptor, holds_spare, holds_for_class, holds_region}
use Rattle.plain.specs.Held.{holds_unmapped, block_in, class_block_in, descriptor_in, spare_in, listed_in, region_in}
use Rattle.plain.specs.Held.{unmapped_in}

-- A descriptor held as spare is held.
pub spare-held : (d : ℕ) (p : Place) → holds_spare d p ≤ holds_descriptor d p
spare-held d p = omega arith

-- A descriptor held for a class is held.
pub class-held : (c d : ℕ) (p : Place) → holds_for_class c d p ≤ holds_descriptor d p
class-held c d p = omega (arith, when-max c (held p).class (count d (held p).listed))

-- A region held without an entry in the map is held.
pub unmapped-held : (r : ℕ) (p : Place) → holds_unmapped r p ≤ holds_region r p
unmapped-held r p = omega arith

-- ---- what weighs the same

-- h and h' weigh the same in every way in which the invariant weighs what is under way
pub record Alike (h h' : Held) : Type 0 where
  pub blocks : (v : ℕ) → block_in v h ≡ block_in v h'
  pub block_classes : (c v : ℕ) → class_block_in c v h ≡ class_block_in c v h'
  pub descriptors : (x : ℕ) → descriptor_in x h ≡ descriptor_in x h'
  pub classes : (c x : ℕ) → listed_in c x h ≡ listed_in c x h'
  pub spares : (x : ℕ) → spare_in x h ≡ spare_in x h'
  pub regions : (r : ℕ) → region_in r h ≡ region_in r h'
  pub unmapped : (r : ℕ) → unmapped_in r h ≡ unmapped_in r h'

-- The same weighs the same.
pub alike : {h h' : Held} → h ≡ h' → Alike h h'
alike e = record {
  blocks = λ v. ap (block_in v) e;
  block_classes = λ c v. ap (class_block_in c v) e;
  descriptors = λ x. ap (descriptor_in x) e;
  classes = λ c x. ap (listed_in c x) e;
  spares = λ x. ap (spare_in x) e;
  regions = λ r. ap (region_in r) e;
  unmapped = λ r. ap (unmapped_in r) e;
}

-- Nothing under way weighs nothing, whatever its class.
pub nothing-held : (c e : ℕ) → Alike (hold c [] [] [] []) (hold e [] [] [] [])
nothing-held c e = record {
  blocks = λ v. omega arith;
  block_classes = λ f v. omega (arith, when-zero f c, when-zero f e);
  descriptors = λ x. omega arith;
  classes = λ f x. omega (arith, when-zero f c, when-zero f e);
  spares = λ x. omega arith;
  regions = λ r. omega arith;
  unmapped = λ r. omega arith;
}
