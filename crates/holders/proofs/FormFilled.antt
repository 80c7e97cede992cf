-- The numbers of the form, one after the other.
use mathlib.Core.Path.{◌≡◌, sym, ap, subst, ◌∙◌}
use mathlib.Core.Bool.{true, false, true≢false}
use mathlib.Core.List.{List}
use Prim.Native.Nat.{ℕ, ◌+◌, ◌-◌, ◌*◌, ◌/◌, ◌%◌, ◌≤◌, ◌<◌}
use native.Mathlib.Omega.{arith}
use borrow.Author.Tests.{lt-ltb, le-ltb}
use lib.ListN.{length, get_or, set, length-set}
use lib.Seq.{get_or-set_same, get_or-set_other}
use Rattle.std.specs.Prelude.{Ok, Err, is_ok}
use Rattle.std.specs.declared.result.Result.{Result}
use Rattle.limits.specs.declared.index.OutOfRange.{OutOfRange}
use Rattle.limits.specs.Limits.{TASKS, CLASSES}
use Rattle.rows.specs.Comparisons.{same, other, same?, before, after, order?}
use Rattle.fields.specs.Columns.{View}
use Rattle.reports.specs.Rows.{numbers_to}
use Rattle.reports.specs.Reports.{Gathered}
use Rattle.reports.proofs.Passing.{all-pass, one-fails}
use Rattle.reports.proofs.Rows.{numbers_are}
use Rattle.report_caches.specs.CacheRows.{is_cache, caches_in_range}
use Rattle.report_requests.specs.UnderWay.{request_blocks, requests_in_range}
use Rattle.report_regions.specs.Opened.{regions_in_range}
use Rattle.sheet.specs.Sheet.{sheet_in_range}
use Rattle.sheet.proofs.SheetFilled.{caches-fail, requests-fail}
use Rattle.holders.specs.Form.{FIRST_CACHE, FIRST_REQUEST, CHAINS, HOLDERS, FORM_NUMBERS, form_number}
use Rattle.holders.specs.FormFilling.{NumberIs, form_fits}

module _ (v : View) (link : ℕ → ℕ) (regions : ℕ) where
  -- ---- what is read for one number alone

  -- a cache
  cache-fits : (c t : ℕ) → t < TASKS
      → form_fits v link regions (HOLDERS * c + (FIRST_CACHE + t)) ≡ is_cache v link regions t c
  unfolding form_fits
  cache-fits c t l =
      let i = HOLDERS * c + (FIRST_CACHE + t) in
      let h = FIRST_CACHE + t in
      let class : i / HOLDERS ≡ c = omega arith in
      let holder : i % HOLDERS ≡ h = omega arith in
      let task : h - FIRST_CACHE ≡ t = omega arith in
      rw (class, holder, le-ltb h FIRST_CACHE (omega arith), lt-ltb h FIRST_REQUEST (omega arith), task)

  -- a request
  request-fits : (c t : ℕ) → t < TASKS
      → form_fits v link regions (HOLDERS * c + (FIRST_REQUEST + t)) ≡ is_ok (request_blocks v regions t)
  unfolding form_fits
  request-fits c t l =
      let i = HOLDERS * c + (FIRST_REQUEST + t) in
      let h = FIRST_REQUEST + t in
      let class : i / HOLDERS ≡ c = omega arith in
      let holder : i % HOLDERS ≡ h = omega arith in
      let task : h - FIRST_REQUEST ≡ t = omega arith in
      rw (
        class,
        holder,
        le-ltb h FIRST_CACHE (omega arith),
        le-ltb h FIRST_REQUEST (omega arith),
        lt-ltb h CHAINS (omega arith),
        task,
      )

  -- nothing
  others-fit : (i : ℕ) → (FIRST_CACHE ≤ i % HOLDERS → CHAINS ≤ i % HOLDERS) → form_fits v link regions i ≡ true
  unfolding form_fits
  others-fit i h = elim (order? (i % HOLDERS) FIRST_CACHE) [
    | before l ↦ rw (lt-ltb (i % HOLDERS) FIRST_CACHE l)
    | after l ↦ rw (
      le-ltb (i % HOLDERS) FIRST_CACHE l,
      le-ltb (i % HOLDERS) FIRST_REQUEST (omega (arith, h l)),
      le-ltb (i % HOLDERS) CHAINS (h l),
    )
  ]

  -- what is out of its range for one number alone is read for the sheet, too
  form-stops : (i : ℕ) → i < FORM_NUMBERS → form_fits v link regions i ≡ false → sheet_in_range v link regions ≡ false
  unfolding caches_in_range requests_in_range
  form-stops i l e =
      let c = i / HOLDERS in
      let h = i % HOLDERS in
      elim (order? h FIRST_CACHE) [
        | before k ↦ absurd (true≢false (sym (others-fit i (λ g. absurd (omega arith))) ∙ e))
        | after k ↦ elim (order? h FIRST_REQUEST) [
          | before n ↦ (let t = h - FIRST_CACHE in
              let is : HOLDERS * c + (FIRST_CACHE + t) ≡ i = omega arith in
              let fails = sym (cache-fits c t (omega arith)) ∙ ap (form_fits v link regions) is ∙ e in
              caches-fail v link regions c (omega arith)
              (one-fails TASKS (λ t. is_cache v link regions t c) t (omega arith) fails))
          | after n ↦ elim (order? h CHAINS) [
            | before m ↦ (let t = h - FIRST_REQUEST in
                let is : HOLDERS * c + (FIRST_REQUEST + t) ≡ i = omega arith in
                let fails = sym (request-fits c t (omega arith)) ∙ ap (form_fits v link regions) is ∙ e in
                requests-fail v link regions
                (one-fails TASKS (λ t. is_ok (request_blocks v regions t)) t (omega arith) fails))
            | after m ↦ absurd (true≢false (sym (others-fit i (λ g. m)) ∙ e))
          ]
        ]
      ]

  -- ---- the numbers before i are filled in

  pub record FormTo (i : ℕ) (ns : List ℕ) : Type 0 where
    pub long : length ns ≡ FORM_NUMBERS
    pub fit : (k : ℕ) → k < i → form_fits v link regions k ≡ true
    pub numbers : (k : ℕ) → k < i → get_or ns k 0 ≡ form_number v link regions k

  -- none is
  pub form-begin : {ns : List ℕ} → length ns ≡ FORM_NUMBERS → FormTo 0 ns
  form-begin e = record { long = e; fit = λ k l. absurd (omega arith); numbers = λ k l. absurd (omega arith) }

  -- the number that was found for the class i / 18 and the holder i % 18 is the number i
  found-is : (i : ℕ) {x : Result ℕ OutOfRange}
      → NumberIs (form_fits v link regions (HOLDERS * (i / HOLDERS) + i % HOLDERS))
      (form_number v link regions (HOLDERS * (i / HOLDERS) + i % HOLDERS)) x
      → NumberIs (form_fits v link regions i) (form_number v link regions i) x
  found-is i {x} N =
      let e : HOLDERS * (i / HOLDERS) + i % HOLDERS ≡ i = omega arith in
      subst (λ (k : ℕ). NumberIs (form_fits v link regions k) (form_number v link regions k) x) e N

  -- one more is
  pub form-next : {i x : ℕ} {ns : List ℕ} → i < FORM_NUMBERS
      → NumberIs (form_fits v link regions (HOLDERS * (i / HOLDERS) + i % HOLDERS))
      (form_number v link regions (HOLDERS * (i / HOLDERS) + i % HOLDERS)) (Ok x)
      → FormTo i ns → FormTo (i + 1) (set ns i x)
  form-next {i} {x} {ns} l found F =
      let N = found-is i found in
      record {
        long = length-set ns i x ∙ F.long;
        fit = λ k h. elim (same? k i) [ same e ↦ rw e N.passed | other d ↦ F.fit k (omega arith) ];
        numbers = λ k h. elim (same? k i) [
          | same e ↦ rw e (get_or-set_same ns i x 0 (omega (arith, F.long)) ∙ N.is)
          | other d ↦ get_or-set_other ns i k x 0 d ∙ F.numbers k (omega arith)
        ];
      }

  -- what is out of its range for a number is so for the sheet
  pub form-fails : {i : ℕ} (e : OutOfRange) → i < FORM_NUMBERS
      → NumberIs (form_fits v link regions (HOLDERS * (i / HOLDERS) + i % HOLDERS))
      (form_number v link regions (HOLDERS * (i / HOLDERS) + i % HOLDERS)) (Err e)
      → sheet_in_range v link regions ≡ false
  form-fails {i} e l found = form-stops i l (found-is i found).failed

  -- all are
  pub form-end : {ns : List ℕ} → regions_in_range v regions ≡ true → FormTo FORM_NUMBERS ns
      → Gathered {A = Unit {0}} (sheet_in_range v link regions)
      (numbers_to FORM_NUMBERS (form_number v link regions)) ns (Ok tt)
  unfolding sheet_in_range caches_in_range requests_in_range
  form-end {ns} opened F =
      let cached : (c : ℕ) → c < CLASSES → caches_in_range v link regions c ≡ true = λ c l.
      all-pass TASKS (λ t. is_cache v link regions t c) (λ t h.
      sym (cache-fits c t h) ∙ F.fit (HOLDERS * c + (FIRST_CACHE + t)) (omega arith)) in
      let running : requests_in_range v regions ≡ true =
      all-pass TASKS (λ t. is_ok (request_blocks v regions t)) (λ t h.
      sym (request-fits 0 t h) ∙ F.fit (HOLDERS * 0 + (FIRST_REQUEST + t)) (omega arith)) in
      record {
        numbers_are = numbers_are ns FORM_NUMBERS (form_number v link regions) F.long F.numbers;
        in_range_is = rw (all-pass CLASSES (caches_in_range v link regions) cached, running, opened);
        out_of_range = tt;
      }
