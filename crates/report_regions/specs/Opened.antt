-- docs/POOL.md, "Reports"
-- Which regions are open, in which class, and how many blocks their chains have. A chain is counted by its anchor's
-- count: its links are not read. What is read is tested as the beginning of a free tests it.
use Rattle.std.specs.Prelude.{Bool, true, false, cond, ℕ, ◌-◌, ltb, leb, eqb, Ok, Err, Some, None}
use Rattle.std.specs.declared.option.Option.{Option}
use Rattle.std.specs.declared.result.Result.{Result}
use Rattle.limits.specs.Limits.{CLASSES, DESCRIPTORS}
use Rattle.words.specs.Anchor.{EMPTY, anchor_of}
use Rattle.fields.specs.Columns.{View}
use Rattle.classes.specs.Classes.{per_region}
use Rattle.control.specs.Layout.{Anchor, DescriptorRegion, DescriptorClass, Map}
use Rattle.stepped.specs.Ranges.{is_anchor}
use Rattle.reports.specs.Passing.{all_pass}
use Rattle.limits.specs.declared.index.OutOfRange.{OutOfRange}
use Rattle.report_regions.specs.declared.OpenRegion.{OpenRegion}

-- what is read of a region: it is not open; it is open, in a class and with a chain of so many blocks; a value that was
-- read is out of its range
pub data Opened : Type 0 where
  Closed : Opened
  Open : ℕ → ℕ → Opened
  Outside : Opened

-- what a function has read of a region, by what it returns
abbrev pub opened_in : Result (Option OpenRegion) OutOfRange → Opened
opened_in (Ok None) = Closed
opened_in (Ok (Some o)) = Open o.class o.chain
opened_in (Err e) = Outside

-- the descriptor d opens the region: its class, and a chain of k blocks, which does not pass n
unfoldable pub open_as : View → ℕ → ℕ → Opened
open_as v d k =
    let c = v (DescriptorClass d) in
    cond (ltb c CLASSES) (cond (leb k (per_region c)) (Open c k) Outside) Outside

-- "A region is open while that descriptor names it back and its anchor is not EMPTY."
unfoldable pub open_by : View → ℕ → ℕ → ℕ → Opened
open_by v regions r d =
    let a = anchor_of (v (Anchor d)) in
    cond (ltb (v (DescriptorRegion d)) regions)
    (cond (eqb (v (DescriptorRegion d)) r)
    (cond (is_anchor (v (Anchor d)))
    (cond (eqb a.state EMPTY) Closed (open_as v d a.count))
    Outside)
    Closed)
    Outside

-- "A map entry for each region names its descriptor, or none": what is read of the region r of the area
unfoldable pub opened_of : View → ℕ → ℕ → Opened
opened_of v regions r =
    let entry = v (Map r) in
    cond (eqb entry 0) Closed (cond (leb entry DESCRIPTORS) (open_by v regions r (entry - 1)) Outside)

-- whether all that was read of a region is in its range
abbrev pub is_inside : Opened → Bool
is_inside Closed = true
is_inside (Open c k) = true
is_inside Outside = false

-- whether all that is read of the regions of the area is in its range
unfoldable pub regions_in_range : View → ℕ → Bool
regions_in_range v regions = all_pass regions (λ r. is_inside (opened_of v regions r))
