-- The caches that are read are the plain pool's, and each is in its range.
use mathlib.Core.Path.{◌≡◌, refl, sym, ap, ◌∙◌}
use mathlib.Core.Bool.{true}
use mathlib.Core.List.{List}
use Prim.Native.Nat.{ℕ, ◌≤◌, ◌<◌}
use native.Mathlib.Omega.{arith}
use native.Mathlib.Decide.{dec_lt}
use lib.ListN.{length}
use borrow.Author.Tests.{le-leb, eq-eqb}
use Rattle.limits.specs.Limits.{REGIONS, UNITS, TASKS, CLASSES}
use Rattle.rows.specs.Counting.{count}
use Rattle.rows.specs.Linked.{Linked, ends, links}
use Rattle.rows.specs.Totals.{total}
use Rattle.rows.proofs.Branch.{if_yes}
use Rattle.rows.proofs.Counting.{count-first}
use Rattle.rows.proofs.Linked.{linked-walk}
use Rattle.rows.proofs.Totals.{total-same}
use Rattle.fields.specs.Columns.{View}
use Rattle.links.specs.Link.{link}
use Rattle.classes.specs.Classes.{per_region}
use Rattle.plain.specs.State.{Mem}
use Rattle.plain.specs.Invariant.{Invariant}
use Rattle.control.specs.Layout.{CacheTop, CacheCount}
use Rattle.stepped.specs.Ranges.{is_block}
use Rattle.agreement.specs.Contents.{contents_of}
use Rattle.agreement.specs.Relation.{Related}
use Rattle.agreement.proofs.BothPass.{both_true}
use Rattle.agreement.proofs.TurnInBoth.{Pair}
use Rattle.agreement.proofs.TaskBlocks.{cached-unit}
use Rattle.reports.specs.ByRegion.{in_region}
use Rattle.reports.proofs.Passing.{all-pass}
use Rattle.report_caches.specs.CacheRows.{is_cache_row, row_from, cache_row, is_cache, caches_in_range}
use Rattle.report_caches.specs.CacheRows.{blocks_in_caches}

-- a linked row of blocks passes the tests, down to the bottom
linked-tested : (regions c : ℕ) {next : ℕ → ℕ} {u : ℕ} {q : List ℕ} → Linked next (λ x. x) UNITS u q
    → ((y : ℕ) → 1 ≤ count y q → is_block regions c y ≡ true) → is_cache_row next regions c (length q) u ≡ true
unfolding is_cache_row
linked-tested regions c {u = u} (ends e) h = eq-eqb u UNITS e
linked-tested regions c (links {u = y} {r = q} e l) h =
    rw e (both_true (h y (count-first y q)) (linked-tested regions c l (λ z g. h z (omega arith))))

module _ {regions : ℕ} {m : Mem} (v : View) (area : List ℕ) (small : regions ≤ REGIONS)
    (R : Related regions (contents_of v area) m) (I : Invariant regions m) where
  module _ (t c : ℕ) (task : t < TASKS) (class : c < CLASSES) where
    pair : Pair regions (contents_of v area) m t (m.task t).place (m.task t).cache
    pair = record { rel = R; turn = record { inv = I; fits = task; is = refl }; small = small }

    count-is : v (CacheCount t c) ≡ length ((m.task t).cache c)
    count-is = sym (if_yes (dec_lt c CLASSES) (v (CacheCount t c)) 0 class) ∙ (R.slots t task).caches.counts c class

    linked : Linked (link area) (λ x. x) UNITS (v (CacheTop t c)) ((m.task t).cache c)
    linked = rw (sym (if_yes (dec_lt c CLASSES) (v (CacheTop t c)) 0 class)) ((R.slots t task).caches.tops c class)

    -- a cache is in its range
    pub cache-passes : is_cache v (link area) regions t c ≡ true
    unfolding is_cache
    cache-passes =
        let q = (m.task t).cache c in
        rw count-is
        (both_true (le-leb (length q) (per_region c) ((I.tasks t task).lengths c))
        (linked-tested regions c linked (cached-unit pair c)))

    -- the row that is read is the plain pool's cache
    pub cache-is : cache_row v (link area) t c ≡ (m.task t).cache c
    cache-is =
        ap (row_from (link area) (v (CacheTop t c))) count-is ∙ linked-walk (λ x. x) linked (λ u e. refl)

  module _ (c : ℕ) (class : c < CLASSES) where
    -- the caches of a class are in their ranges
    pub caches-pass : caches_in_range v (link area) regions c ≡ true
    unfolding caches_in_range
    caches-pass = all-pass TASKS (λ t. is_cache v (link area) regions t c) (λ t l. cache-passes t c l class)

    -- the blocks of a region in the caches of a class are those of the plain pool's caches
    pub caches-told : (r : ℕ)
        → blocks_in_caches v (link area) c r ≡ total TASKS (λ t T. in_region r (T.cache c)) m.task
    unfolding blocks_in_caches
    caches-told r =
        total-same TASKS (λ t q. in_region r q) (λ t. cache_row v (link area) t c) (λ t T. in_region r (T.cache c))
        m.task (λ t l. ap (in_region r) (cache-is t c l class))
