-- "On any pool that the stock sheet's statement covers": the form is filled, and tells the plain pool.
use mathlib.Core.Path.{◌≡◌, ap, ◌∙◌}
use mathlib.Core.List.{List}
use Prim.Native.Nat.{ℕ, suc, ◌+◌, ◌≤◌, ◌<◌}
use native.Mathlib.Omega.{arith}
use lib.ListN.{length, get_or}
use Rattle.limits.specs.Limits.{CLASSES}
use Rattle.rows.specs.Weights.{when}
use Rattle.rows.specs.Totals.{total}
use Rattle.links.specs.Link.{link}
use Rattle.plain.specs.Calls.{Pool}
use Rattle.control.specs.Layout.{Regions, seen}
use Rattle.stepped.specs.Outcome.{Memories}
use Rattle.agreement.specs.Reached.{History, Reached}
use Rattle.agreement.specs.Tied.{Tied}
use Rattle.agreement.specs.Observe.{plain_class}
use Rattle.agreement.proofs.Reaching.{reached-tied}
use Rattle.reports.proofs.ReportFilled.{left-short, given}
use Rattle.sheet.specs.Sheet.{sheet_in_range}
use Rattle.holders.specs.Form.{HOLDERS, FORM_NUMBERS, FORM_BYTES, class_line, form_number, form_of}
use Rattle.holders.proofs.FormColumns.{cache-at, request-at, chains-at}
use Rattle.report_agreement.specs.Whereabouts.{times_in_hand, times_cached_by, times_running_by, times_chained}
use Rattle.report_agreement.specs.Whereabouts.{blocks_there}
use Rattle.report_agreement.specs.FormTells.{form_at, blocks_of_class, HoldersTell, FormTells}
use Rattle.report_agreement.proofs.TiedReports.{small, related, invariant, passes}
use Rattle.report_agreement.proofs.FormNumbers.{hands-of-class, cache-of-class, request-of-class}
use Rattle.report_agreement.proofs.FormNumbers.{chains-of-class, all_cached, all_running}
use Rattle.report_agreement.proofs.ReportCells.{form-cell}

-- ---- the form of tied memories

module _ {s₁ : Memories} {s : Pool} (T : Tied s₁ s) (h : 1 ≤ s.tasks) (row : List ℕ) (long : FORM_BYTES ≤ length row)
    (c : ℕ) (class : c < CLASSES) where
  -- what stands in the line of the class
  cell : (n : ℕ) → n < HOLDERS
      → form_at (form_of s₁ row).1 c n
      ≡ get_or (class_line (seen s₁.control) (link s₁.area) (seen s₁.control Regions) c) n 0
  cell n l = form-cell (passes T h) row long c n class l

  -- the stored number of regions is the plain pool's
  same-regions : (often : ℕ → ℕ → ℕ)
      → total (seen s₁.control Regions) (λ r z. when (suc c) z (blocks_there (often r) r c)) (plain_class s.mem)
      ≡ blocks_of_class s c often
  same-regions often =
      ap (λ (n : ℕ). total n (λ r z. when (suc c) z (blocks_there (often r) r c)) (plain_class s.mem)) (T.regions h)

  -- each number is that of the blocks there
  line-tells : HoldersTell (form_of s₁ row).1 s c
  line-tells =
      let v = seen s₁.control in
      let links = link s₁.area in
      let n = v Regions in
      let strips = T.good.strips h in
      record {
        hands = cell 0 (omega arith)
            ∙ hands-of-class v s₁.area (small T h) (related T h) (invariant T h) strips c class
            ∙ same-regions (λ r. times_in_hand s.mem);
        caches = λ t l. cell (1 + t) (omega arith) ∙ cache-at v links n c t l
            ∙ cache-of-class v s₁.area (small T h) (related T h) (invariant T h) strips c class t l
            ∙ same-regions (λ r. times_cached_by (s.mem.task t));
        requests = λ t l. cell (9 + t) (omega arith) ∙ request-at v links n c t l
            ∙ request-of-class v s₁.area (small T h) (related T h) (invariant T h) strips c class t l
            ∙ same-regions (λ r. times_running_by (s.mem.task t));
        chains = cell 17 (omega arith) ∙ chains-at v links n c
            ∙ chains-of-class v s₁.area (small T h) (related T h) (invariant T h) strips c class
            ∙ same-regions (times_chained s.mem);
        all_cached = λ t l. cell (1 + t) (omega arith) ∙ cache-at v links n c t l
            ∙ all_cached v s₁.area (small T h) (related T h) (invariant T h) strips c class t l;
        all_running = λ t l. cell (9 + t) (omega arith) ∙ request-at v links n c t l
            ∙ all_running v s₁.area (small T h) (related T h) (invariant T h) strips c class t l;
      }

-- ---- the form of a pool that a run has reached

-- "each is the number of the class's blocks there": a row that is long enough gets them, and the answer is 20
pub form-tells : {past : History} {s₁ : Memories} {s : Pool} → Reached past s₁ s → 1 ≤ s.tasks → (row : List ℕ)
    → FORM_BYTES ≤ length row → ((form_of s₁ row).0 ≡ 20) × FormTells (form_of s₁ row).1 s
form-tells R h row long =
    let T = reached-tied R in (
      ap (λ (x : ℕ × List ℕ). x.0) (given sheet_in_range FORM_NUMBERS form_number _ row (passes T h) long),
      line-tells T h row long,
    )

-- a row that is too short is refused with 23, and left as it is
pub form-short : {past : History} {s₁ : Memories} {s : Pool} → Reached past s₁ s → 1 ≤ s.tasks → (row : List ℕ)
    → length row < FORM_BYTES → form_of s₁ row ≡ (23, row)
form-short R h row short = left-short sheet_in_range FORM_NUMBERS form_number _ row (passes (reached-tied R) h) short
