-- The numbers of the form are those of the plain pool's holders, under the relation.
use mathlib.Core.Path.{◌≡◌, sym, ap, ◌∙◌}
use mathlib.Core.List.{List}
use Prim.Native.Nat.{ℕ, zero, suc, ◌≤◌, ◌<◌}
use native.Mathlib.Omega.{arith}
use lib.ListN.{length}
use Rattle.limits.specs.Limits.{REGIONS, TASKS, CLASSES}
use Rattle.rows.specs.Comparisons.{same, other, same?}
use Rattle.rows.specs.Weights.{when}
use Rattle.rows.specs.Totals.{total}
use Rattle.rows.proofs.Weights.{when-same, when-other}
use Rattle.rows.proofs.Totals.{total-same}
use Rattle.fields.specs.Columns.{View}
use Rattle.links.specs.Link.{link}
use Rattle.plain.specs.State.{Mem}
use Rattle.plain.specs.Held.{class_at, under_way}
use Rattle.plain.specs.Invariant.{Invariant, StripsHold}
use Rattle.agreement.specs.Contents.{contents_of}
use Rattle.agreement.specs.Relation.{Related}
use Rattle.agreement.specs.Observe.{plain_class, plain_chain, SameObserved}
use Rattle.agreement.proofs.Observing.{observed}
use Rattle.reports.specs.ByRegion.{in_region}
use Rattle.report_marks.specs.InHand.{blocks_in_hand}
use Rattle.report_caches.specs.CacheRows.{cache_row}
use Rattle.report_requests.specs.UnderWay.{request_blocks, in_request}
use Rattle.report_regions.specs.OpenClasses.{class_in, chain_in, open_class, open_chain}
use Rattle.holders.specs.Form.{added_up, in_hands, in_cache_of, in_request_of, in_chains}
use Rattle.report_agreement.specs.Whereabouts.{times_in_hand, times_cached_by, times_running_by, times_chained}
use Rattle.report_agreement.specs.Whereabouts.{blocks_there}
use Rattle.report_agreement.proofs.HandsTold.{hands-told}
use Rattle.report_agreement.proofs.CachesTold.{cache-is}
use Rattle.report_agreement.proofs.RequestsTold.{request-told}
use Rattle.report_agreement.proofs.RegionsTold.{told, region-told}
use Rattle.report_agreement.proofs.SheetAddsUp.{cache-there, request-there, chain-there}
use Rattle.report_agreement.proofs.NoneLeftOut.{cache-whole, request-whole}

-- what is told of a region that is open, by its class plus one, and not open, by 0, counts for the class c alike
told-when : (z k c n : ℕ) → c < CLASSES → when c (class_in (told z k)) n ≡ when (suc c) z n
told-when zero k c n l =
    when-other c CLASSES n (λ e. omega arith) ∙ sym (when-other (suc c) 0 n (λ e. omega arith))
told-when (suc d) k c n l = elim (same? c d) [
  | same e ↦ rw e (when-same d n ∙ sym (when-same (suc d) n))
  | other e ↦ when-other c d n e ∙ sym (when-other (suc c) (suc d) n (λ i. e (omega arith)))
]

module _ {regions : ℕ} {m : Mem} (v : View) (area : List ℕ) (small : regions ≤ REGIONS)
    (R : Related regions (contents_of v area) m) (I : Invariant regions m) (H : StripsHold m) (c : ℕ)
    (class : c < CLASSES)
  where
    same-observed : SameObserved regions (contents_of v area) m
    same-observed = observed small R I H

    -- the blocks of the class with a holder, over all regions that are open in it
    abbrev blocks_with : (ℕ → ℕ → ℕ) → ℕ
    blocks_with often = total regions (λ r z. when (suc c) z (blocks_there (often r) r c)) (plain_class m)

    -- what is added up goes by the plain pool's classes,
    added-classes : (number : ℕ → ℕ)
        → added_up regions (open_class v regions) c number
        ≡ total regions (λ r z. when (suc c) z (number r)) (plain_class m)
    unfolding added_up open_class
    added-classes number =
        total-same regions (λ r z. when c z (number r)) (open_class v regions)
        (λ r z. when (suc c) z (number r)) (plain_class m) (λ r l.
        ap (λ o. when c (class_in o) (number r)) (region-told v area R I r l)
        ∙ told-when (plain_class m r) (length (plain_chain m r)) c (number r) class)

    -- and are those blocks, where the number of each region that is open in the class is
    added-blocks : (number : ℕ → ℕ) (often : ℕ → ℕ → ℕ)
        → ((r : ℕ) → r < regions → plain_class m r ≡ suc c → number r ≡ blocks_there (often r) r c)
        → added_up regions (open_class v regions) c number ≡ blocks_with often
    added-blocks number often h =
        added-classes number
        ∙ total-same regions (λ r z. when (suc c) z (number r)) (plain_class m)
        (λ r z. when (suc c) z (blocks_there (often r) r c)) (plain_class m) (λ r l.
        elim (same? (suc c) (plain_class m r)) [
          | same e ↦ ap (when (suc c) (plain_class m r)) (h r l (sym e))
          | other d ↦
              when-other (suc c) (plain_class m r) (number r) d
              ∙ sym (when-other (suc c) (plain_class m r) (blocks_there (often r) r c) d)
        ])

    -- the marks
    pub hands-of-class : in_hands v (link area) regions c ≡ blocks_with (λ r. times_in_hand m)
    hands-of-class =
        added-blocks (λ r. blocks_in_hand v r c) (λ r. times_in_hand m) (λ r l o. hands-told v area small R r c l)

    -- a task's cache
    pub cache-of-class : (t : ℕ) → t < TASKS
        → in_cache_of v (link area) regions c t ≡ blocks_with (λ r. times_cached_by (m.task t))
    cache-of-class t task =
        added-blocks (λ r. in_region r (cache_row v (link area) t c)) (λ r. times_cached_by (m.task t)) (λ r l o.
        ap (in_region r) (cache-is v area small R I t c task class) ∙ cache-there same-observed I r c l class o t task)

    -- a task's request
    pub request-of-class : (t : ℕ) → t < TASKS
        → in_request_of v (link area) regions c t ≡ blocks_with (λ r. times_running_by (m.task t))
    request-of-class t task =
        added-blocks (λ r. in_request c r (request_blocks v regions t)) (λ r. times_running_by (m.task t)) (λ r l o.
        (request-told v area small R I t task).number c r ∙ request-there same-observed I r c l class o t task)

    -- the chains
    pub chains-of-class : in_chains v (link area) regions c ≡ blocks_with (times_chained m)
    unfolding open_chain
    chains-of-class =
        added-blocks (open_chain v regions) (times_chained m) (λ r l o.
        ap chain_in (region-told v area R I r l ∙ ap (λ (z : ℕ). told z (length (plain_chain m r))) o)
        ∙ chain-there same-observed I r c l class o)

    -- ---- none is left out

    -- of a task's cache
    pub all_cached : (t : ℕ) → t < TASKS → in_cache_of v (link area) regions c t ≡ length ((m.task t).cache c)
    all_cached t task =
        added-classes (λ r. in_region r (cache_row v (link area) t c))
        ∙ total-same regions (λ r z. when (suc c) z (in_region r (cache_row v (link area) t c))) (plain_class m)
        (λ r z. when (suc c) z (in_region r ((m.task t).cache c))) (plain_class m) (λ r l.
        ap (λ (q : List ℕ). when (suc c) (plain_class m r) (in_region r q)) (cache-is v area small R I t c task class))
        ∙ cache-whole I t c task

    -- of what a task's request has under way
    pub all_running : (t : ℕ) → t < TASKS → in_request_of v (link area) regions c t
        ≡ when c (class_at (m.task t).place) (length (under_way (m.task t).place))
    all_running t task =
        let p = (m.task t).place in
        added-classes (λ r. in_request c r (request_blocks v regions t))
        ∙ total-same regions (λ r z. when (suc c) z (in_request c r (request_blocks v regions t))) (plain_class m)
        (λ r z. when (suc c) z (when c (class_at p) (in_region r (under_way p)))) (plain_class m) (λ r l.
        ap (when (suc c) (plain_class m r)) ((request-told v area small R I t task).number c r))
        ∙ request-whole I t c task
