-- The keeper that is read of each region is the plain pool's: the first of the four that is true, with the lowest task
-- and unit; and there always is one.
use mathlib.Core.Path.{◌≡◌, refl, sym, ap, ◌∙◌}
use mathlib.Core.Logic.{⊎_elim, inl, inr}
use mathlib.Core.Bool.{Bool, true, true≢false}
use mathlib.Core.List.{List}
use Prim.Native.Nat.{ℕ, zero, suc, ◌≤◌, ◌<◌}
use native.Mathlib.Omega.{arith}
use borrow.Author.Tests.{lt-ltb, le-ltb, le-leb, leb-true, ltb-true}
use lib.Dec.{ltb, leb}
use lib.ListN.{length}
use Rattle.limits.specs.Limits.{REGIONS, UNITS, TASKS, CLASSES, SPARE_REGIONS}
use Rattle.rows.specs.Comparisons.{before, after, order?}
use Rattle.rows.specs.Counting.{count}
use Rattle.rows.proofs.Totals.{total-found}
use Rattle.fields.specs.Columns.{View}
use Rattle.links.specs.Link.{link}
use Rattle.plain.specs.State.{Mem}
use Rattle.plain.specs.Held.{holds_region}
use Rattle.plain.specs.HolderWeights.{region_weight}
use Rattle.plain.specs.Invariant.{Invariant, StripsHold}
use Rattle.agreement.specs.Contents.{contents_of}
use Rattle.agreement.specs.Relation.{Related}
use Rattle.agreement.specs.Observe.{plain_class, plain_chain}
use Rattle.agreement.proofs.Observing.{observed}
use Rattle.reports.specs.Passing.{first_passing}
use Rattle.reports.proofs.FirstPassing.{first-is}
use Rattle.report_marks.specs.InHand.{lowest_in_hand}
use Rattle.report_caches.specs.CacheRows.{lowest_cached}
use Rattle.report_requests.specs.OneRegion.{has_blocks, has_region}
use Rattle.report_regions.specs.Opened.{opened_of}
use Rattle.report_regions.proofs.OpenBounds.{class-below}
use Rattle.keepers.specs.Keepers.{Keeper}
use Rattle.keepers.specs.Keepers.{first_request, spare_or, request_keeper, cache_keeper, hand_keeper, closed_keeper}
use Rattle.keepers.specs.Keepers.{nobody, keeper_of}
use Rattle.report_agreement.specs.KeepersTell.{HandHas, CacheHas, HasRegion, RequestHas, Keeps, in-hand}
use Rattle.report_agreement.specs.KeepersTell.{in-cache, in-request, spare}
use Rattle.report_agreement.proofs.RegionsTold.{told, region-told}
use Rattle.report_agreement.proofs.KeptBlocks.{none-in-hand, none-cached, none-running}
use Rattle.report_agreement.proofs.HandsKept.{LowestHand, lowest-hand}
use Rattle.report_agreement.proofs.HandsKept as Hands
use Rattle.report_agreement.proofs.CachesKept.{LowestCache, lowest-cache}
use Rattle.report_agreement.proofs.CachesKept as Caches
use Rattle.report_agreement.proofs.RequestsKept.{has-running, running-told}
use Rattle.report_agreement.proofs.RegionsHeld.{held-told}
use Rattle.report_agreement.proofs.SparesKept.{spares-told}
use Rattle.report_agreement.proofs.SomeKeeper.{spare-or-held, handed, cached, running, some_block}

-- the keeper k of the region r, by what it names
abbrev pub Named : Mem → ℕ → Keeper → Type 0
Named m r k = Keeps m r k.kind k.task k.unit

-- The first task that passes a test names a request, where the test tells whether a request has something of the
-- region; and where no request has, the next that applies is named.
first-named : {m : Mem} {r : ℕ} (f : ℕ → Bool) (next : Keeper) → ((x : ℕ) → HandHas m r x → ⊥)
    → ((i x : ℕ) → i < TASKS → CacheHas m r i x → ⊥)
    → ((i : ℕ) → i < TASKS → f i ≡ true → RequestHas m r i)
    → ((i : ℕ) → i < TASKS → RequestHas m r i → f i ≡ true)
    → (((i : ℕ) → i < TASKS → RequestHas m r i → ⊥) → Named m r next)
    → Named m r (first_request f next)
unfolding first_request
first-named {m} {r} f next no-hand no-cache tells told else =
    let F = first-is TASKS f in
    let t = first_passing TASKS f in
    let none : (i : ℕ) → i < t → i < TASKS → RequestHas m r i → ⊥ = λ i l h q.
    true≢false (sym (told i h q) ∙ F.none_before i l) in
    elim (order? t TASKS) [
      | before l ↦ rw (lt-ltb t TASKS l)
          (in-request l no-hand no-cache (tells t l (F.passes l)) (λ i h q. elim (order? i t) [
            | before k ↦ absurd (none i k h q)
            | after k ↦ k
          ]))
      | after l ↦ rw (le-ltb t TASKS l) (else (λ i h q. none i (omega arith) h q))
    ]

-- ---- a region that is not open

module _ {regions : ℕ} {m : Mem} (v : View) (area : List ℕ) (R : Related regions (contents_of v area) m)
    (I : Invariant regions m) (r : ℕ) (inside : r < regions) (closed : plain_class m r ≡ 0) where
  -- no request has blocks of it; what a request can have is the region itself
  itself : (t : ℕ) → t < TASKS → RequestHas m r t → HasRegion m r t
  itself t l q = ⊎_elim (λ b. absurd (none-running I r closed t b.0 l b.1 b.2)) (λ h. h) q

  pub closed-named : Named m r (closed_keeper v regions r)
  unfolding closed_keeper spare_or
  closed-named = elim (order? 0 (count r (m.row SPARE_REGIONS))) [
    | before h ↦
        rw (spares-told v area R I r ∙ le-leb 1 (count r (m.row SPARE_REGIONS)) h)
        (spare (none-in-hand I r closed) (λ i x l. none-cached I r closed i x l)
        (λ i l q. absurd (omega (arith, (itself i l q).1))) h)
    | after h ↦ (let off : count r (m.row SPARE_REGIONS) ≡ 0 = omega arith in
        let f =
        total-found TASKS (region_weight r) m.task (omega (arith, off, spare-or-held I r inside closed)) in
        rw (spares-told v area R I r ∙ ap (leb 1) off)
        (first-named (has_region v r) nobody (none-in-hand I r closed) (λ i x l. none-cached I r closed i x l)
        (λ i l e. inr (
          leb-true 1 (holds_region r (m.task i).place) (sym (held-told v area R I r i l) ∙ e),
          off,
          closed,
        ))
        (λ i l q. held-told v area R I r i l ∙ le-leb 1 (holds_region r (m.task i).place) (itself i l q).0)
        (λ none. absurd (none f.at f.fits (inr (f.has, off, closed))))))
  ]

-- ---- a region that is open in the class c

module _ {regions : ℕ} {m : Mem} (v : View) (area : List ℕ) (small : regions ≤ REGIONS)
    (R : Related regions (contents_of v area) m) (I : Invariant regions m) (H : StripsHold m) (r c : ℕ)
    (inside : r < regions) (class : c < CLASSES) (opened : plain_class m r ≡ suc c) where
  -- no block is in hand or cached: some request has one
  request-named : ((x : ℕ) → HandHas m r x → ⊥) → ((i x : ℕ) → i < TASKS → CacheHas m r i x → ⊥)
      → Named m r (request_keeper v regions r c)
  unfolding request_keeper
  request-named no-hand no-cache =
      first-named (has_blocks v regions c r) (spare_or v regions r nobody) no-hand no-cache
      (λ i l e. inl (has-running v area small R I r c opened i l e))
      (λ i l q. ⊎_elim (λ b. running-told v area small R I r c opened i l b.0 b.1 b.2)
      (λ h. absurd (omega (arith, opened, h.2))) q)
      (λ none. absurd (nothing_left none))
    where
      nothing_left : ((i : ℕ) → i < TASKS → RequestHas m r i → ⊥) → ⊥
      nothing_left none = elim (some_block (observed small R I H) I r c inside class opened) [
        | handed u h ↦ no-hand u h
        | cached t u l h ↦ no-cache t u l h
        | running t u l e h ↦ none t l (inl (u, e, h))
      ]

  -- a task with a cached block of the region is told
  cache-told : (i x : ℕ) → i < TASKS → CacheHas m r i x → ltb (lowest_cached v (link area) i c r) UNITS ≡ true
  cache-told i x l q = elim (lowest-cache v area small R I r c inside class opened i l) [
    | Caches.a_block k h least ↦ lt-ltb (lowest_cached v (link area) i c r) UNITS k
    | Caches.no_block e none ↦ absurd (none x q)
  ]

  -- no block is in hand: the first task with a cached one, or else a request
  cache-named : ((x : ℕ) → HandHas m r x → ⊥) → Named m r (cache_keeper v (link area) regions r c)
  unfolding cache_keeper
  cache-named no-hand =
      let f : ℕ → Bool = λ t. ltb (lowest_cached v (link area) t c r) UNITS in
      let F = first-is TASKS f in
      let t = first_passing TASKS f in
      let none : (i x : ℕ) → i < t → i < TASKS → CacheHas m r i x → ⊥ = λ i x l h q.
      true≢false (sym (cache-told i x h q) ∙ F.none_before i l) in
      elim (order? t TASKS) [
        | before l ↦ rw (lt-ltb t TASKS l) (elim (lowest-cache v area small R I r c inside class opened t l) [
          | Caches.a_block k h least ↦ in-cache l no-hand h (λ i x j q. elim (order? i t) [
            | before g ↦ absurd (none i x g j q)
            | after g ↦ g
          ]) least
          | Caches.no_block e n ↦
              absurd (omega (arith, e, ltb-true (lowest_cached v (link area) t c r) UNITS (F.passes l)))
        ])
        | after l ↦ rw (le-ltb t TASKS l) (request-named no-hand (λ i x h q. none i x (omega arith) h q))
      ]

  -- the lowest block in hand, or else the next
  pub open-named : Named m r (hand_keeper v (link area) regions r c)
  unfolding hand_keeper
  open-named = elim (lowest-hand v area small R I r c inside opened) [
    | Hands.a_block l h least ↦ rw (lt-ltb (lowest_in_hand v r c) UNITS l) (in-hand h least)
    | Hands.no_block e none ↦ rw (le-ltb (lowest_in_hand v r c) UNITS (omega (arith, e))) (cache-named none)
  ]

-- ---- any region of the area

module _ {regions : ℕ} {m : Mem} (v : View) (area : List ℕ) (small : regions ≤ REGIONS)
    (R : Related regions (contents_of v area) m) (I : Invariant regions m) (H : StripsHold m) (r : ℕ)
    (inside : r < regions) where
  by-class : (z : ℕ) → plain_class m r ≡ z → opened_of v regions r ≡ told z (length (plain_chain m r))
      → Named m r (keeper_of v (link area) regions r)
  unfolding keeper_of
  by-class zero e o = rw o (closed-named v area R I r inside e)
  by-class (suc c) e o =
      rw o (open-named v area small R I H r c inside (class-below v regions r c (length (plain_chain m r)) o) e)

  -- the keeper that is read is the plain pool's
  pub keeper-named : Named m r (keeper_of v (link area) regions r)
  keeper-named = by-class (plain_class m r) refl (region-told v area R I r inside)
