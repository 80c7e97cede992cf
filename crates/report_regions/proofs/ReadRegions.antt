-- One region read after the other.
use mathlib.Core.Path.{◌≡◌, refl, sym, ap, ◌∙◌}
use mathlib.Core.Bool.{true}
use mathlib.Core.List.{List}
use Prim.Native.Nat.{ℕ, ◌+◌, ◌<◌}
use native.Mathlib.Omega.{arith}
use lib.ListN.{length, get_or, set}
use lib.Seq.{get_or-set_same, get_or-set_other}
use Rattle.std.specs.Prelude.{Ok, Err, Some, None}
use Rattle.std.specs.declared.option.Option.{Option}
use Rattle.limits.specs.declared.index.OutOfRange.{OutOfRange}
use Rattle.rows.specs.Comparisons.{same, other, same?}
use Rattle.fields.specs.Columns.{View}
use Rattle.reports.proofs.Passing.{all-pass, one-fails}
use Rattle.report_regions.specs.declared.OpenRegion.{OpenRegion}
use Rattle.report_regions.specs.Opened.{opened_in, opened_of, is_inside, regions_in_range}
use Rattle.report_regions.specs.OpenClasses.{RegionsRead}

-- the regions before r are read
pub record RegionsTo (v : View) (regions r : ℕ) (opened : List (Option OpenRegion)) : Type 0 where
  pub told : (z : ℕ) → z < r → opened_in (Ok (get_or opened z None)) ≡ opened_of v regions z

module _ (v : View) (regions : ℕ) where
  -- none is
  pub regions-begin : (opened : List (Option OpenRegion)) → RegionsTo v regions 0 opened
  regions-begin opened = record { told = λ z l. absurd (omega arith) }

  -- one more is
  pub regions-next : {r : ℕ} {opened : List (Option OpenRegion)} (o : Option OpenRegion) → RegionsTo v regions r opened
      → r < length opened → opened_in (Ok o) ≡ opened_of v regions r → RegionsTo v regions (r + 1) (set opened r o)
  regions-next {r} {opened} o R l is = record {
    told = λ z h. elim (same? z r) [
      | same e ↦ rw (e, get_or-set_same opened r o None l) is
      | other d ↦ rw (get_or-set_other opened r z o None d) (R.told z (omega arith))
    ];
  }

  -- a region that is out of its range
  pub regions_fail : (r : ℕ) (e : OutOfRange) → r < regions → opened_in (Err e) ≡ opened_of v regions r
      → RegionsRead v regions (Err e)
  unfolding regions_in_range
  regions_fail r e l is = record {
    passed = tt;
    failed = one-fails regions (λ z. is_inside (opened_of v regions z)) r l (ap is_inside (sym is));
    told = tt;
  }

  -- what is read is in its range
  inside : (o : Option OpenRegion) → is_inside (opened_in (Ok o)) ≡ true
  inside None = refl
  inside (Some o) = refl

  -- all are
  pub regions-end : {opened : List (Option OpenRegion)} → RegionsTo v regions regions opened
      → RegionsRead v regions (Ok opened)
  unfolding regions_in_range
  regions-end {opened} R = record {
    passed = all-pass regions (λ z. is_inside (opened_of v regions z))
        (λ z l. ap is_inside (sym (R.told z l)) ∙ inside (get_or opened z None));
    failed = tt;
    told = R.told;
  }
