-- The columns of the sheet, of any memories: what stands in a column of a class, added up over all regions.
use mathlib.Core.Path.{◌≡◌, refl, sym, ap, ◌∙◌}
use mathlib.Core.Logic.{◌≢◌}
use mathlib.Core.List.{List, [], ◌∷◌}
use Prim.Native.Nat.{ℕ, zero, suc, ◌≤◌, ◌<◌}
use native.Mathlib.Omega.{arith}
use borrow.Author.Tests.{lt-ltb, le-ltb, eq-eqb, ne_eqb}
use lib.ListN.{get_or}
use Rattle.limits.specs.Limits.{REGIONS, CLASSES}
use Rattle.rows.specs.Comparisons.{same, other, same?}
use Rattle.rows.specs.Weights.{when}
use Rattle.rows.specs.Totals.{total}
use Rattle.rows.proofs.Weights.{when-same, when-other}
use Rattle.rows.proofs.Totals.{total-same, total-more}
use Rattle.fields.specs.Columns.{View}
use Rattle.report_marks.specs.InHand.{blocks_in_hand}
use Rattle.report_caches.specs.CacheRows.{blocks_in_caches}
use Rattle.report_requests.specs.UnderWay.{blocks_in_requests}
use Rattle.report_regions.specs.Opened.{Opened, Closed, Open, Outside, opened_of}
use Rattle.report_regions.specs.OpenClasses.{class_in, chain_in, open_class, open_chain}
use Rattle.sheet.specs.Sheet.{COLUMNS, four_zeros, four_by, four_with, four_of}
use Rattle.sheet.proofs.FourNumbers.{zero-there}
use Rattle.holders.specs.Form.{added_up}

-- the four numbers of a region, before it is asked in which class it is open
abbrev pub unasked : View → (ℕ → ℕ) → ℕ → ℕ → ℕ → List ℕ
unasked v link regions c r =
    blocks_in_hand v r c ∷ blocks_in_caches v link c r ∷ blocks_in_requests v regions c r ∷ open_chain v regions r ∷ []

-- four numbers that count for the class c where the region is open in the class k
abbrev counting : ℕ → ℕ → (hand caches requests chain : ℕ) → List ℕ
counting c k hand caches requests chain =
    when c k hand ∷ when c k caches ∷ when c k requests ∷ when c k chain ∷ []

module _ (hand caches requests c : ℕ) where
  -- none of them counts for another class
  none-counts : (k chain : ℕ) → c ≢ k → four_zeros ≡ counting c k hand caches requests chain
  none-counts k chain d =
      rw (when-other c k hand d, when-other c k caches d, when-other c k requests d, when-other c k chain d)

  -- the line of a region is what counts of the four
  line-counts : c < CLASSES → (o : Opened)
      → four_by hand caches requests c o ≡ counting c (class_in o) hand caches requests (chain_in o)
  line-counts l Closed = none-counts CLASSES 0 (λ e. omega arith)
  line-counts l Outside = none-counts CLASSES 0 (λ e. omega arith)
  line-counts l (Open d k) = elim (same? c d) [
    | same e ↦ rw (e, eq-eqb d d refl, when-same d hand, when-same d caches, when-same d requests, when-same d k)
    | other n ↦ rw (ne_eqb d c (λ e. n (sym e))) (none-counts d k n)
  ]

-- each of the four counts, or does not
counting-at : (c k hand caches requests chain j : ℕ) → j < COLUMNS
    → get_or (counting c k hand caches requests chain) j 0
    ≡ when c k (get_or (hand ∷ caches ∷ requests ∷ chain ∷ []) j 0)
counting-at c k hand caches requests chain zero l = refl
counting-at c k hand caches requests chain (suc zero) l = refl
counting-at c k hand caches requests chain (suc (suc zero)) l = refl
counting-at c k hand caches requests chain (suc (suc (suc zero))) l = refl
counting-at c k hand caches requests chain (suc (suc (suc (suc j)))) l = absurd (omega arith)

module _ (v : View) (link : ℕ → ℕ) (regions c : ℕ) (class : c < CLASSES) (j : ℕ) (column : j < COLUMNS) where
  -- the number of a region of the area
  pub in-area : (r : ℕ) → r < regions → get_or (four_of v link regions c r) j 0
      ≡ when c (open_class v regions r) (get_or (unasked v link regions c r) j 0)
  unfolding four_with open_class open_chain
  in-area r l =
      let hand = blocks_in_hand v r c in
      let caches = blocks_in_caches v link c r in
      let requests = blocks_in_requests v regions c r in
      let o = opened_of v regions r in
      rw (lt-ltb r regions l)
      (ap (λ (q : List ℕ). get_or q j 0) (line-counts hand caches requests c class o)
      ∙ counting-at c (class_in o) hand caches requests (chain_in o) j column)

  -- a region that is not in the area
  pub beyond : (r : ℕ) → regions ≤ r → get_or (four_of v link regions c r) j 0 ≡ 0
  unfolding four_with
  beyond r l = rw (le-ltb r regions l) (zero-there j)

  -- the column of the class, added up over all sixteen, is what the regions of the area have
  pub column-added : regions ≤ REGIONS
      → total REGIONS (λ r n. n) (λ r. get_or (four_of v link regions c r) j 0)
      ≡ added_up regions (open_class v regions) c (λ r. get_or (unasked v link regions c r) j 0)
  unfolding added_up
  column-added small =
      total-more regions REGIONS (λ r n. n) (λ r. get_or (four_of v link regions c r) j 0) small (λ r l h. beyond r l)
      ∙ total-same regions (λ r n. n) (λ r. get_or (four_of v link regions c r) j 0)
      (λ r k. when c k (get_or (unasked v link regions c r) j 0)) (open_class v regions) in-area
