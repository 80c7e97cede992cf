-- No number of a report is large, where all that it reads is in its range.
use mathlib.Core.Path.{◌≡◌, ap, ◌∙◌}
use mathlib.Core.Bool.{true, ◌&&◌}
use Prim.Native.Nat.{ℕ, zero, suc, ◌+◌, ◌-◌, ◌*◌, ◌≤◌, ◌<◌}
use native.Mathlib.Omega.{arith}
use lib.ListN.{get_or}
use Rattle.limits.specs.Limits.{REGIONS, TASKS, CLASSES, MOST_BLOCKS}
use Rattle.rows.specs.Comparisons.{before, after, order?}
use Rattle.rows.proofs.Totals.{total-most}
use Rattle.fields.specs.Columns.{View}
use Rattle.stepped.proofs.Conjunction.{both}
use Rattle.reports.specs.ByRegion.{in_region}
use Rattle.reports.specs.Passing.{all_pass}
use Rattle.reports.proofs.Passing.{each-passes}
use Rattle.report_marks.specs.InHand.{blocks_in_hand}
use Rattle.report_caches.specs.CacheRows.{cache_row, is_cache, caches_in_range, blocks_in_caches}
use Rattle.report_caches.proofs.Walking.{cache-max}
use Rattle.report_requests.specs.UnderWay.{request_blocks, in_request, requests_in_range, blocks_in_requests}
use Rattle.report_requests.proofs.RequestBounds.{request-bounded, request-max}
use Rattle.report_regions.specs.Opened.{regions_in_range}
use Rattle.report_regions.specs.OpenClasses.{open_class, open_chain}
use Rattle.report_regions.proofs.OpenBounds.{chain-most}
use Rattle.sheet.specs.Sheet.{sheet_in_range}
use Rattle.holders.specs.Form.{FIRST_CACHE, FIRST_REQUEST, CHAINS, HOLDERS, class_line, form_number}
use Rattle.holders.proofs.Bounds.{hand-most}
use Rattle.holders.proofs.AddingUp.{added-most}
use Rattle.holders.proofs.FormColumns.{number-in-line, cache-at, request-at, chains-at}
use Rattle.holders.proofs.SheetColumns.{unasked}

module _ (v : View) (link : ℕ → ℕ) (regions : ℕ) (small : regions ≤ REGIONS)
    (range : sheet_in_range v link regions ≡ true) (c : ℕ) (class : c < CLASSES) where
  -- the cache of a task is in its range, so it has few blocks in a region
  cache-few : (t r : ℕ) → t < TASKS → in_region r (cache_row v link t c) ≤ MOST_BLOCKS + 1
  unfolding sheet_in_range caches_in_range
  cache-few t r l =
      let others = requests_in_range v regions && regions_in_range v regions in
      let all = (both (all_pass CLASSES (caches_in_range v link regions)) others range).0 in
      let ours = each-passes CLASSES (caches_in_range v link regions) all c class in
      cache-max v link regions t c r (each-passes TASKS (λ t. is_cache v link regions t c) ours t l)

  -- so has a request
  request-few : (t r : ℕ) → in_request c r (request_blocks v regions t) ≤ MOST_BLOCKS + 1
  request-few t r = request-max c r (request_blocks v regions t) (request-bounded v regions t small)

  -- the numbers of the sheet
  pub column-most : (r j : ℕ) → get_or (unasked v link regions c r) j 0 ≤ TASKS * (MOST_BLOCKS + 1)
  unfolding blocks_in_caches blocks_in_requests
  column-most r zero = omega (arith, hand-most v r c)
  column-most r (suc zero) =
      total-most TASKS (MOST_BLOCKS + 1) (λ t q. in_region r q) (λ t. cache_row v link t c) (λ t l. cache-few t r l)
  column-most r (suc (suc zero)) =
      total-most TASKS (MOST_BLOCKS + 1) (λ t q. in_request c r q) (request_blocks v regions) (λ t l. request-few t r)
  column-most r (suc (suc (suc zero))) = omega (arith, chain-most v regions r)
  column-most r (suc (suc (suc (suc j)))) = omega arith

  -- the numbers of the form
  pub holder-most : (h : ℕ) → h < HOLDERS → form_number v link regions (HOLDERS * c + h) ≤ REGIONS * (MOST_BLOCKS + 1)
  holder-most h l = elim (order? h FIRST_CACHE) [
    | before a ↦ (let e : h ≡ 0 = omega arith in
        omega (
          arith,
          number-in-line v link regions c h l ∙ ap (λ (k : ℕ). get_or (class_line v link regions c) k 0) e,
          added-most (open_class v regions) c (λ r. blocks_in_hand v r c) regions (λ r k. hand-most v r c),
        ))
    | after a ↦ elim (order? h FIRST_REQUEST) [
      | before b ↦ (let t = h - FIRST_CACHE in
          let e : h ≡ FIRST_CACHE + t = omega arith in
          omega (
            arith,
            number-in-line v link regions c h l ∙ ap (λ (k : ℕ). get_or (class_line v link regions c) k 0) e
                ∙ cache-at v link regions c t (omega arith),
            added-most (open_class v regions) c (λ r. in_region r (cache_row v link t c)) regions
                (λ r k. cache-few t r (omega arith)),
          ))
      | after b ↦ elim (order? h CHAINS) [
        | before d ↦ (let t = h - FIRST_REQUEST in
            let e : h ≡ FIRST_REQUEST + t = omega arith in
            omega (
              arith,
              number-in-line v link regions c h l ∙ ap (λ (k : ℕ). get_or (class_line v link regions c) k 0) e
                  ∙ request-at v link regions c t (omega arith),
              added-most (open_class v regions) c (λ r. in_request c r (request_blocks v regions t)) regions
                  (λ r k. request-few t r),
            ))
        | after d ↦ (let e : h ≡ CHAINS = omega arith in
            omega (
              arith,
              number-in-line v link regions c h l ∙ ap (λ (k : ℕ). get_or (class_line v link regions c) k 0) e
                  ∙ chains-at v link regions c,
              added-most (open_class v regions) c (open_chain v regions) regions
                  (λ r k. omega (arith, chain-most v regions r)),
            ))
      ]
    ]
  ]
