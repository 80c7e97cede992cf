-- The numbers of a line, one law for each kind of holder.
use mathlib.Core.Path.{◌≡◌, refl, sym, ap, subst, ◌∙◌}
use mathlib.Core.Bool.{Bool}
use mathlib.Core.List.{List, [], ◌∷◌, ◌++◌}
use Prim.Native.Nat.{ℕ, suc, ◌+◌, ◌-◌, ◌*◌, ◌/◌, ◌%◌, ◌≤◌, ◌<◌}
use native.Mathlib.Omega.{arith}
use borrow.Author.Tests.{lt-ltb, le-ltb}
use lib.ListN.{get_or}
use Rattle.std.specs.Prelude.{Ok, is_ok}
use Rattle.std.specs.declared.option.Option.{Option}
use Rattle.std.specs.declared.result.Result.{Result}
use Rattle.limits.specs.declared.index.OutOfRange.{OutOfRange}
use Rattle.limits.specs.Limits.{TASKS}
use Rattle.fields.specs.Columns.{View}
use Rattle.reports.specs.Rows.{numbers_to}
use Rattle.reports.proofs.Rows.{number-first, number_behind}
use Rattle.report_caches.specs.CacheRows.{is_cache}
use Rattle.report_requests.specs.UnderWay.{request_blocks}
use Rattle.report_regions.specs.declared.OpenRegion.{OpenRegion}
use Rattle.report_regions.specs.OpenClasses.{class_in, chain_in, open_class, open_chain, RegionsRead}
use Rattle.holders.specs.Form.{FIRST_CACHE, FIRST_REQUEST, CHAINS, HOLDERS, added_up, in_hands, in_cache_of}
use Rattle.holders.specs.Form.{in_request_of, in_chains, class_line, form_number}
use Rattle.holders.specs.FormFilling.{NumbersOf, AsRead, NumberIs, form_fits}
use Rattle.holders.proofs.AddingUp.{added-alike}

-- what was read of the regions is what its numbers tell
pub numbers-as-read : {v : View} {regions : ℕ} {rs : List (Option OpenRegion)} {classes chains : List ℕ}
    → RegionsRead v regions (Ok rs) → NumbersOf regions rs classes chains → AsRead v regions classes chains
unfolding open_class open_chain
numbers-as-read R N = record {
  classes_are = λ r l. N.classes_are r l ∙ ap class_in (R.told r l);
  chains_are = λ r l. N.chains_are r l ∙ ap chain_in (R.told r l);
}

-- the classes that were read are those of the regions
pub as_read : {v : View} {regions : ℕ} {classes chains : List ℕ} → AsRead v regions classes chains → (c : ℕ)
    (number : ℕ → ℕ)
    → added_up regions (λ r. get_or classes r 0) c number ≡ added_up regions (open_class v regions) c number
as_read {v} {regions} {classes} A c number =
    added-alike regions (λ r. get_or classes r 0) (open_class v regions) c number number A.classes_are (λ r l. refl)

-- the chain that was read of a region is its chain
pub chain-is : {v : View} {regions : ℕ} {classes chains : List ℕ} → AsRead v regions classes chains → (r : ℕ)
    → r < regions → get_or chains r 0 ≡ open_chain v regions r
chain-is A r l = A.chains_are r l

-- and the chains that were read are theirs
pub chains_read : {v : View} {regions : ℕ} {classes chains : List ℕ} → AsRead v regions classes chains → (c : ℕ)
    → added_up regions (λ r. get_or classes r 0) c (λ r. get_or chains r 0)
    ≡ added_up regions (open_class v regions) c (open_chain v regions)
chains_read {v} {regions} {classes} {chains} A c =
    added-alike regions (λ r. get_or classes r 0) (open_class v regions) c (λ r. get_or chains r 0)
    (open_chain v regions) A.classes_are (chain-is A)

-- so a number that was found by them is the form's
pub number_read : {v : View} {regions : ℕ} {classes chains : List ℕ} → AsRead v regions classes chains → (c : ℕ)
    (number : ℕ → ℕ) {in_range : Bool} {x : Result ℕ OutOfRange}
    → NumberIs in_range (added_up regions (λ r. get_or classes r 0) c number) x
    → NumberIs in_range (added_up regions (open_class v regions) c number) x
number_read A c number {in_range} {x} N = subst (λ (n : ℕ). NumberIs in_range n x) (as_read A c number) N

-- a number by another name, that is in range where it is
pub number-alike : {b b' : Bool} {n n' : ℕ} {x : Result ℕ OutOfRange} → b' ≡ b → n' ≡ n → NumberIs b n x
    → NumberIs b' n' x
number-alike e f N = rw (e, f) N

module _ (v : View) (link : ℕ → ℕ) (regions c : ℕ) where
  -- ---- what stands in the line

  abbrev line : List ℕ
  line = class_line v link regions c

  -- behind the number for the marks
  rest : (i : ℕ) → get_or line (FIRST_CACHE + i) 0
      ≡ get_or (numbers_to TASKS (in_cache_of v link regions c)
      ++ (numbers_to TASKS (in_request_of v link regions c) ++ (in_chains v link regions c ∷ []))) i 0
  rest i =
      let e : FIRST_CACHE + i ≡ suc i = omega arith in
      rw e

  pub cache-at : (t : ℕ) → t < TASKS → get_or line (FIRST_CACHE + t) 0 ≡ in_cache_of v link regions c t
  cache-at t l = rest t ∙ number-first TASKS (in_cache_of v link regions c) _ t l

  pub request-at : (t : ℕ) → t < TASKS → get_or line (FIRST_REQUEST + t) 0 ≡ in_request_of v link regions c t
  request-at t l =
      let e : FIRST_REQUEST + t ≡ FIRST_CACHE + (TASKS + t) = omega arith in
      rw e
      (rest (TASKS + t) ∙ number_behind TASKS (in_cache_of v link regions c) _ t
      ∙ number-first TASKS (in_request_of v link regions c) _ t l)

  pub chains-at : get_or line CHAINS 0 ≡ in_chains v link regions c
  chains-at =
      rest (TASKS + (TASKS + 0)) ∙ number_behind TASKS (in_cache_of v link regions c) _ (TASKS + 0)
      ∙ number_behind TASKS (in_request_of v link regions c) _ 0

  -- ---- the number of the holder h in the line of the class

  module _ (h : ℕ) (below : h < HOLDERS) where
    abbrev i : ℕ
    i = HOLDERS * c + h

    class-is : i / HOLDERS ≡ c
    class-is = omega arith

    holder-is : i % HOLDERS ≡ h
    holder-is = omega arith

    -- it stands in the line
    pub number-in-line : form_number v link regions i ≡ get_or line h 0
    unfolding form_number
    number-in-line = rw (class-is, holder-is)

    -- the marks,
    pub marks-number : h < FIRST_CACHE → {x : ℕ} → x ≡ in_hands v link regions c
        → NumberIs (form_fits v link regions i) (form_number v link regions i) (Ok x)
    unfolding form_fits
    marks-number l e =
        let first : h ≡ 0 = omega arith in
        record {
          passed = rw (class-is, holder-is, lt-ltb h FIRST_CACHE l);
          failed = tt;
          is = e ∙ sym (number-in-line ∙ ap (λ (k : ℕ). get_or line k 0) first);
        }

    -- a cache,
    pub cache-number : FIRST_CACHE ≤ h → h < FIRST_REQUEST → {x : Result ℕ OutOfRange}
        → NumberIs (is_cache v link regions (h - FIRST_CACHE) c) (in_cache_of v link regions c (h - FIRST_CACHE)) x
        → NumberIs (form_fits v link regions i) (form_number v link regions i) x
    unfolding form_fits
    cache-number g l N =
        let t = h - FIRST_CACHE in
        let at : FIRST_CACHE + t ≡ h = omega arith in
        let fits : form_fits v link regions i ≡ is_cache v link regions t c =
        rw (class-is, holder-is, le-ltb h FIRST_CACHE g, lt-ltb h FIRST_REQUEST l) in
        let number = number-in-line ∙ ap (λ (k : ℕ). get_or line k 0) (sym at) ∙ cache-at t (omega arith) in
        number-alike fits number N

    -- a request,
    pub request-number : FIRST_REQUEST ≤ h → h < CHAINS → {x : Result ℕ OutOfRange}
        → NumberIs (is_ok (request_blocks v regions (h - FIRST_REQUEST)))
        (in_request_of v link regions c (h - FIRST_REQUEST)) x
        → NumberIs (form_fits v link regions i) (form_number v link regions i) x
    unfolding form_fits
    request-number g l N =
        let t = h - FIRST_REQUEST in
        let at : FIRST_REQUEST + t ≡ h = omega arith in
        let fits : form_fits v link regions i ≡ is_ok (request_blocks v regions t) =
        rw (class-is, holder-is, le-ltb h FIRST_CACHE (omega arith), le-ltb h FIRST_REQUEST g, lt-ltb h CHAINS l) in
        let number = number-in-line ∙ ap (λ (k : ℕ). get_or line k 0) (sym at) ∙ request-at t (omega arith) in
        number-alike fits number N

    -- the chains
    pub chains-number : CHAINS ≤ h → {x : ℕ} → x ≡ in_chains v link regions c
        → NumberIs (form_fits v link regions i) (form_number v link regions i) (Ok x)
    unfolding form_fits
    chains-number g e =
        let last : h ≡ CHAINS = omega arith in
        record {
          passed = rw (
            class-is,
            holder-is,
            le-ltb h FIRST_CACHE (omega arith),
            le-ltb h FIRST_REQUEST (omega arith),
            le-ltb h CHAINS g,
          );
          failed = tt;
          is = e ∙ sym (number-in-line ∙ ap (λ (k : ℕ). get_or line k 0) last ∙ chains-at);
        }
