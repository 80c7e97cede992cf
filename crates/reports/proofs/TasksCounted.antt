-- One task counted after the other, as the reports count caches and requests: every task is tested, and what it has is
-- added to the counts of the regions, until one is out of range.
use mathlib.Core.Path.{◌≡◌, refl, ap, ◌∙◌}
use mathlib.Core.Bool.{Bool, true}
use mathlib.Core.List.{List}
use Prim.Native.Nat.{ℕ, ◌+◌, ◌*◌, ◌≤◌, ◌<◌}
use native.Mathlib.Numerals.{add-one}
use native.Mathlib.Omega.{arith}
use lib.ListN.{length, get_or, replicate, get_or-replicate, get_or-eq_default}
use Rattle.std.specs.Prelude.{Ok, Err}
use Rattle.limits.specs.declared.index.OutOfRange.{OutOfRange}
use Rattle.limits.specs.Limits.{REGIONS, TASKS, MOST_BLOCKS}
use Rattle.rows.specs.Comparisons.{before, after, order?}
use Rattle.rows.specs.Totals.{total}
use Rattle.rows.proofs.Totals.{total-suc}
use Rattle.reports.specs.Passing.{all_pass}
use Rattle.reports.specs.ByRegion.{Counted, CanGrow}
use Rattle.reports.proofs.Passing.{one_more, one-fails}

-- The first t tasks are counted: each passes the test, and the count of a region r is the sum of what they have in it,
-- where the task i has `weight r (has i)`.
pub record TasksCounted {A : Type 0} (test : ℕ → Bool) (weight : ℕ → A → ℕ) (has : ℕ → A) (t : ℕ) (counts : List ℕ)
    : Type 0 where
  pub passed : all_pass t test ≡ true
  pub whole : length counts ≡ REGIONS
  pub number : (r : ℕ) → r < REGIONS → get_or counts r 0 ≡ total t (λ i x. weight r x) has
  pub most : (r : ℕ) → r < REGIONS → get_or counts r 0 ≤ (MOST_BLOCKS + 1) * t

module _ {A : Type 0} (test : ℕ → Bool) (weight : ℕ → A → ℕ) (has : ℕ → A) where
  -- no task is counted yet
  pub tasks-begin : TasksCounted test weight has 0 (replicate REGIONS 0)
  unfolding all_pass total
  tasks-begin = record {
    passed = refl;
    whole = refl;
    number = λ r l. get_or-replicate REGIONS r 0 0 l;
    most = λ r l. omega (arith, get_or-replicate {A = ℕ} REGIONS r 0 0 l);
  }

  module _ {t : ℕ} {counts : List ℕ} (T : TasksCounted test weight has t counts) where
    -- the counts can grow by what one task more has
    pub tasks-room : t < TASKS → CanGrow counts
    tasks-room l r = elim (order? r REGIONS) [
      | before h ↦ omega (arith, T.most r h)
      | after h ↦ (let past : length counts ≤ r = omega (arith, T.whole) in
          rw (get_or-eq_default counts 0 past) (omega arith))
    ]

    -- one task more is counted; what a call gives of its counts tells their length
    pub tasks-next : {more : List ℕ} → Counted (test t) (λ r. get_or counts r 0 + weight r (has t)) (Ok more)
        → ((r : ℕ) → test t ≡ true → weight r (has t) ≤ MOST_BLOCKS + 1) → length more ≡ REGIONS
        → TasksCounted test weight has (t + 1) more
    tasks-next one bound whole = record {
      passed = one_more t test T.passed one.in_range_is;
      whole = whole;
      number = λ r l.
          rw (add-one t, total-suc t (λ i x. weight r x) has) (omega (arith, one.counts r l, T.number r l));
      most = λ r l. omega (arith, one.counts r l, T.most r l, bound r one.in_range_is);
    }

    -- a task that is out of range ends it
    pub tasks-stop : {number one : ℕ → ℕ} {e : OutOfRange} → t < TASKS → Counted (test t) one (Err e)
        → Counted (all_pass TASKS test) number (Err e)
    tasks-stop l one = record {
      counts = tt;
      in_range_is = tt;
      out_of_range = one-fails TASKS test t l one.out_of_range;
    }

    -- all tasks are counted
    pub tasks-end : t ≡ TASKS
        → Counted (all_pass TASKS test) (λ r. total TASKS (λ i x. weight r x) has) (Ok counts)
    tasks-end e = record {
      counts = λ r l. T.number r l ∙ ap (λ (n : ℕ). total n (λ i x. weight r x) has) e;
      in_range_is = rw e at T.passed;
      out_of_range = tt;
    }
