-- The numbers of the sheet are those of the plain pool's holders, under the relation.
use mathlib.Core.Path.{◌≡◌, refl, ap, ◌∙◌}
use mathlib.Core.Logic.{◌≢◌}
use mathlib.Core.Bool.{true}
use mathlib.Core.List.{List, [], ◌∷◌}
use Prim.Native.Nat.{ℕ, zero, suc, ◌≤◌, ◌<◌}
use lib.ListN.{length}
use borrow.Author.Tests.{lt-ltb, le-ltb, eq-eqb, ne_eqb}
use Rattle.limits.specs.Limits.{REGIONS, CLASSES}
use Rattle.rows.specs.Comparisons.{before, after, order?}
use Rattle.fields.specs.Columns.{View}
use Rattle.links.specs.Link.{link}
use Rattle.plain.specs.State.{Mem}
use Rattle.plain.specs.Invariant.{Invariant, StripsHold}
use Rattle.agreement.specs.Contents.{contents_of}
use Rattle.agreement.specs.Relation.{Related}
use Rattle.agreement.specs.Observe.{plain_class, plain_chain, SameObserved}
use Rattle.agreement.proofs.BothPass.{both_true}
use Rattle.agreement.proofs.Observing.{observed}
use Rattle.reports.proofs.Passing.{all-pass}
use Rattle.report_marks.specs.InHand.{blocks_in_hand}
use Rattle.report_caches.specs.CacheRows.{caches_in_range, blocks_in_caches}
use Rattle.report_requests.specs.UnderWay.{blocks_in_requests}
use Rattle.report_regions.specs.Opened.{Open}
use Rattle.report_regions.specs.Opened.{opened_of}
use Rattle.sheet.specs.Sheet.{four_zeros, four_by, four_with, four_of, sheet_in_range}
use Rattle.report_agreement.specs.Whereabouts.{times_in_hand, times_cached, times_running, times_chained, blocks_there}
use Rattle.report_agreement.proofs.HandsTold.{hands-told}
use Rattle.report_agreement.proofs.CachesTold.{caches-pass, caches-told}
use Rattle.report_agreement.proofs.RequestsTold.{requests-pass, requests-told}
use Rattle.report_agreement.proofs.RegionsTold.{told, region-told, regions-pass}
use Rattle.report_agreement.proofs.SheetAddsUp.{caches-there, requests-there, chain-there}

-- the blocks of the class c and the region r in users' hands, in caches, with requests, and in the chain
abbrev pub plain_row : Mem → ℕ → ℕ → List ℕ
plain_row m c r =
    blocks_there (times_in_hand m) r c ∷ blocks_there (times_cached m) r c ∷ blocks_there (times_running m) r c
    ∷ blocks_there (times_chained m r) r c ∷ []

-- ---- the sheet of any memories

-- a region that is open in another class than c, or not at all
not-this : (hand caches requests c z k : ℕ) → z ≢ suc c → four_by hand caches requests c (told z k) ≡ four_zeros
not-this hand caches requests c zero k d = refl
not-this hand caches requests c (suc e) k d = rw (ne_eqb e c (λ i. d (ap suc i)))

-- ---- under the relation

module _ {regions : ℕ} {m : Mem} (v : View) (area : List ℕ) (small : regions ≤ REGIONS)
    (R : Related regions (contents_of v area) m) (I : Invariant regions m) (H : StripsHold m) where
  -- all that is read for the sheet is in its range
  pub sheet-passes : sheet_in_range v (link area) regions ≡ true
  unfolding sheet_in_range
  sheet-passes =
      both_true (all-pass CLASSES (λ c. caches_in_range v (link area) regions c) (caches-pass v area small R I))
      (both_true (requests-pass v area small R I) (regions-pass v area R I))

  module _ (c r : ℕ) where
    -- the numbers of a region that is open in the class are those of the plain pool's holders
    pub open_row : c < CLASSES → r < regions → plain_class m r ≡ suc c
        → four_of v (link area) regions c r ≡ plain_row m c r
    unfolding four_with
    open_row class l o =
        let S : SameObserved regions (contents_of v area) m = observed small R I H in
        let opened : opened_of v regions r ≡ Open c (length (plain_chain m r)) =
        region-told v area R I r l ∙ ap (λ (z : ℕ). told z (length (plain_chain m r))) o in
        rw (
          lt-ltb r regions l,
          opened,
          eq-eqb c c refl,
          hands-told v area small R r c l,
          caches-told v area small R I c class r ∙ caches-there S I r c l class o,
          requests-told v area small R I c r ∙ requests-there S I r c l class o,
          chain-there S I r c l class o,
        )

    -- "A region that is not open in the class shows four zeros"
    pub closed-row : ((r < regions) × (plain_class m r ≡ suc c) → ⊥) → four_of v (link area) regions c r ≡ four_zeros
    unfolding four_with
    closed-row n = elim (order? r regions) [
      | before l ↦
          rw (lt-ltb r regions l)
          (ap (four_by (blocks_in_hand v r c) (blocks_in_caches v (link area) c r) (blocks_in_requests v regions c r) c)
          (region-told v area R I r l)
          ∙ not-this (blocks_in_hand v r c) (blocks_in_caches v (link area) c r) (blocks_in_requests v regions c r) c
          (plain_class m r) (length (plain_chain m r)) (λ e. n (l, e)))
      | after l ↦ rw (le-ltb r regions l)
    ]
