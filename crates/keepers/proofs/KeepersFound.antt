-- The keepers, region by region, and the numbers that they are written as.
use mathlib.Core.Path.{◌≡◌, refl, sym, ap, ◌∙◌}
use mathlib.Core.Bool.{Bool, true, false}
use mathlib.Core.List.{List}
use Prim.Native.Nat.{ℕ, ◌+◌, ◌*◌, ◌/◌, ◌%◌, ◌≤◌, ◌<◌}
use native.Mathlib.Omega.{arith}
use lib.Dec.{leb}
use lib.ListN.{length, get_or, set, take, length-set}
use lib.Seq.{get_or-set_same, get_or-set_other, get_or-take, length-take-le}
use Rattle.limits.specs.Limits.{REGIONS}
use Rattle.rows.specs.Comparisons.{same, other, same?}
use Rattle.fields.specs.Columns.{View}
use Rattle.reports.specs.Passing.{all_pass}
use Rattle.reports.specs.Rows.{numbers_to}
use Rattle.std.specs.Prelude.{Ok, Err}
use Rattle.limits.specs.declared.index.OutOfRange.{OutOfRange}
use Rattle.reports.proofs.Passing.{one_more, one-fails}
use Rattle.reports.proofs.Rows.{numbers_are}
use Rattle.keepers.specs.declared.Keeper.{Keeper as Found}
use Rattle.keepers.specs.declared.Keeper.TheVariants as found
use Rattle.keepers.specs.Keepers.{Keeper, nobody, number_of, keeper_of, KEEPER_NUMBERS, TASK_WEIGHT}
use Rattle.keepers.specs.Keepers.{keeper_number, read_in_range}
use Rattle.keepers.specs.Keepers.{are_kept}
use Rattle.keepers.specs.Filling.{keeper_is, KeepersFilled}

module _ (v : View) (link : ℕ → ℕ) (regions : ℕ) where
  -- whether the region r has a keeper
  abbrev is_kept : ℕ → Bool
  is_kept r = leb 1 (keeper_of v link regions r).kind

  -- the numbers of the region r: the kind with the task behind it,
  pub first-number : (r : ℕ) → keeper_number v link regions (KEEPER_NUMBERS * r)
      ≡ (keeper_of v link regions r).kind + TASK_WEIGHT * (keeper_of v link regions r).task
  unfolding keeper_number
  first-number r =
      let d : KEEPER_NUMBERS * r / KEEPER_NUMBERS ≡ r = omega arith in
      let m : KEEPER_NUMBERS * r % KEEPER_NUMBERS ≡ 0 = omega arith in
      rw (d, m)

  -- and the unit
  pub second-number : (r : ℕ)
      → keeper_number v link regions (KEEPER_NUMBERS * r + 1) ≡ (keeper_of v link regions r).unit
  unfolding keeper_number
  second-number r =
      let d : (KEEPER_NUMBERS * r + 1) / KEEPER_NUMBERS ≡ r = omega arith in
      let m : (KEEPER_NUMBERS * r + 1) % KEEPER_NUMBERS ≡ 1 = omega arith in
      rw (d, m)

  -- the regions before r have keepers, and these are filled in
  pub record KeepersTo (r : ℕ) (ns : List ℕ) : Type 0 where
    pub long : length ns ≡ KEEPER_NUMBERS * REGIONS
    pub kept : all_pass r is_kept ≡ true
    pub numbers : (i : ℕ) → i < KEEPER_NUMBERS * r → get_or ns i 0 ≡ keeper_number v link regions i

  -- none is
  pub keepers-begin : {ns : List ℕ} → length ns ≡ KEEPER_NUMBERS * REGIONS → KeepersTo 0 ns
  unfolding all_pass
  keepers-begin e = record { long = e; kept = refl; numbers = λ i l. absurd (omega arith) }

  -- a region without a keeper ends it
  pub keepers-fail : (r : ℕ) (e : OutOfRange) {ns : List ℕ} → nobody ≡ keeper_of v link regions r → KeepersTo r ns
      → r < regions → KeepersFilled {A = Unit {0}} v link regions ns (Err e)
  keepers-fail r e none K l = record {
    long = K.long;
    passed = tt;
    failed = one-fails regions is_kept r l (ap (λ (x : Keeper). leb 1 x.kind) (sym none));
    are = tt;
  }

  -- every keeper that was found has a kind
  some-kind : (k : Found) → leb 1 (keeper_is k).kind ≡ true
  some-kind (found.InHand u) = refl
  some-kind (found.InCache t u) = refl
  some-kind (found.InRequest t) = refl
  some-kind found.Spare = refl

  -- one more is filled in
  pub keepers-next : (r : ℕ) {ns : List ℕ} (k : Found) {x y : ℕ} → keeper_is k ≡ keeper_of v link regions r
      → KeepersTo r ns → r < REGIONS → x ≡ number_of (keeper_is k) 0 → y ≡ number_of (keeper_is k) 1
      → KeepersTo (r + 1) (set (set ns (KEEPER_NUMBERS * r) x) (KEEPER_NUMBERS * r + 1) y)
  keepers-next r {ns} k {x} {y} is K l first second =
      let at = KEEPER_NUMBERS * r in
      let once = set ns at x in
      let size : length once ≡ KEEPER_NUMBERS * REGIONS = length-set ns at x ∙ K.long in
      record {
        long = length-set once (at + 1) y ∙ size;
        kept = one_more r is_kept K.kept (ap (λ (z : Keeper). leb 1 z.kind) (sym is) ∙ some-kind k);
        numbers = λ i h. elim (same? i (at + 1)) [
          | same e ↦
              rw e
              (get_or-set_same once (at + 1) y 0 (omega (arith, size)) ∙ second ∙ ap (λ (z : Keeper). z.unit) is
              ∙ sym (second-number r))
          | other d ↦ get_or-set_other once (at + 1) i y 0 d ∙ elim (same? i at) [
            | same e ↦ rw e (get_or-set_same ns at x 0 (omega (arith, K.long)) ∙ first
                ∙ ap (λ (z : Keeper). z.kind + TASK_WEIGHT * z.task) is ∙ sym (first-number r))
            | other n ↦ get_or-set_other ns at i x 0 n ∙ K.numbers i (omega arith)
          ]
        ];
      }

  -- all are
  pub keepers-end : {ns : List ℕ} → KeepersTo regions ns → KeepersFilled {A = Unit {0}} v link regions ns (Ok tt)
  keepers-end K = record { long = K.long; passed = K.kept; failed = tt; are = K.numbers }

  -- all that is read is in its range: then each region has a keeper, or one has none
  module _ (fits : read_in_range v link regions ≡ true) where
    pub kept-tell : {b : Bool} → all_pass regions is_kept ≡ b → are_kept v link regions ≡ b
    unfolding are_kept
    kept-tell e = rw fits e

    -- what was filled in is what is written
    pub keepers-gathered : {ns : List ℕ} → regions ≤ REGIONS → KeepersFilled {A = Unit {0}} v link regions ns (Ok tt)
        → take (KEEPER_NUMBERS * regions) ns ≡ numbers_to (KEEPER_NUMBERS * regions) (keeper_number v link regions)
    keepers-gathered {ns} small K =
        let n = KEEPER_NUMBERS * regions in
        let size = length-take-le n ns (omega (arith, K.long)) in
        numbers_are (take n ns) n (keeper_number v link regions) size (λ i l. get_or-take n ns i 0 l ∙ K.are i l)

  -- what is out of its range is answered with 14
  pub read-refused : read_in_range v link regions ≡ false → are_kept v link regions ≡ false
  unfolding are_kept
  read-refused e = rw e
