-- An allocation of the plain pool that no other task disturbs and that opens a region: of whichever task, in a pool of
-- whatever size. It takes n + 10 steps, and gives the last block of the region that it opens.
use mathlib.Core.Path.{◌≡◌, refl, ap, subst, ◌∙◌}
use mathlib.Core.List.{List, [], ◌∷◌, ◌++◌, map}
use Prim.Native.Nat.{ℕ, zero, suc, ◌+◌}
use native.Mathlib.Omega.{arith}
use native.Mathlib.Decide.{ℕ_discrete}
use lib.ListN.{replicate}
use Rattle.limits.specs.Limits.{SPARE_DESCRIPTORS, SPARE_REGIONS}
use Rattle.rows.specs.Update.{update}
use Rattle.rows.proofs.Branch.{if_yes, if_no}
use Rattle.rows.proofs.Update.{update_same, update_other}
use Rattle.classes.specs.Classes.{per_region}
use Rattle.classes.specs.Geometry.{unit_of}
use Rattle.plain.specs.State.{FULL, read, next, exchange, Pop, partial, spare, region, a1, popping, a7, a8, Task, Mem}
use Rattle.plain.specs.State.{set_task, set_row, set_descriptor, set_map, working}
use Rattle.plain.specs.Moves.{Decided, nothing, found_empty, popped, Answer, going, finished_by}
use Rattle.plain.specs.Steps.{pop_list, when_popped, step_of, when_working, at_work, step_at, pop_read, pop_take}
use Rattle.plain.specs.Steps.{pop_lost}
use Rattle.plain.specs.Steps.{a1_step}
use Rattle.plain.proofs.PlaceAlone.{task_of}

-- a code and a value
abbrev pub brief : Answer → ℕ × ℕ
brief a = (a.code, a.value)

-- n answers with code 0 and value 0, and one that finishes with the unit
abbrev pub finishing : ℕ → ℕ → List (ℕ × ℕ)
finishing n unit = replicate n (0, 0) ++ ((20, unit) ∷ [])

module _ (t : ℕ) where
  -- what n steps of the task t answer
  abbrev pub task_answers : ℕ → Mem → List Answer
  task_answers zero m = []
  task_answers (suc n) m = (step_of t m).1 ∷ task_answers n (step_of t m).0

  -- from the pool m on the task makes n steps with code 0, and then one that finishes with the unit
  pub data Finishes (unit : ℕ) : ℕ → Mem → Type 0 where
    last : {m m' : Mem} {e : Decided} → step_of t m ≡ (m', finished_by e unit) → Finishes unit 0 m
    more : {n : ℕ} {m m' : Mem} {e : Decided} → step_of t m ≡ (m', going e) → Finishes unit n m'
        → Finishes unit (suc n) m

  pub told : {unit n : ℕ} {m : Mem} → Finishes unit n m → map brief (task_answers (suc n) m) ≡ finishing n unit
  told (last p) = ap (λ r. brief r.1 ∷ []) p
  told (more {n = n} p F) =
      ap (λ r. brief r.1 ∷ map brief (task_answers (suc n) r.0)) p ∙ ap (λ q. (0, 0) ∷ q) (told F)

  -- the step of the task T
  pub taken : (m : Mem) (T : Task) → m.task t ≡ T
      → step_of t m ≡ when_working T.place (λ w. step_at t T.cache w m) m
  unfolding step_of
  taken m T e = ap (λ (U : Task). when_working U.place (λ w. step_at t U.cache w m) m) e

  -- a step by which the task T becomes the task T', and the rest of the pool m'
  on : {unit n : ℕ} {m : Mem} (T T' : Task) (m' : Mem) (e : Decided) → m.task t ≡ T
      → when_working T.place (λ w. step_at t T.cache w m) m ≡ (set_task t T' m', going e)
      → ((set_task t T' m').task t ≡ T' → Finishes unit n (set_task t T' m')) → Finishes unit (suc n) m
  on {m = m} T T' m' e is leads rest = more (taken m T is ∙ leads) (rest (update_same m'.task t T'))

  module _ (c : ℕ) where
    -- step 1, with a block x in the cache
    takes : {m : Mem} (k : ℕ → List ℕ) (x : ℕ) (q : List ℕ) → m.task t ≡ task_of (working (a1 c)) (update k c (x ∷ q))
        → Finishes x 0 m
    takes {m} k x q is =
        let K = update k c (x ∷ q) in
        last (taken m (task_of (working (a1 c)) K) is ∙ ap (λ z. a1_step t K c z m) (update_same k c (x ∷ q)))

    -- step 8: the blocks i to b of the region r are carved, and b is the last
    carves : (r b j i : ℕ) → i + j ≡ b → suc b ≡ per_region c → {m : Mem} (k : ℕ → List ℕ)
        → m.task t ≡ task_of (working (a8 c r i)) k
        → Finishes (unit_of r c b) (suc j) m
    carves r b zero i e l {m} k is =
        on (task_of (working (a8 c r i)) k) (task_of (working (a1 c)) (update k c (unit_of r c i ∷ k c))) m nothing is
        (rw (if_yes (ℕ_discrete (suc i) (per_region c)) (a1 c) (a8 c r (suc i)) (omega arith)))
        (λ T. subst (λ x. Finishes x 0 (at_work t (update k c (unit_of r c i ∷ k c)) (a1 c) m))
        (ap (unit_of r c) (omega arith))
        (takes k (unit_of r c i) (k c) T))
    carves r b (suc j) i e l {m} k is =
        on (task_of (working (a8 c r i)) k) (task_of (working (a8 c r (suc i))) (update k c (unit_of r c i ∷ k c))) m
        nothing is
        (rw (if_no (ℕ_discrete (suc i) (per_region c)) (a1 c) (a8 c r (suc i)) (omega arith)))
        (λ T. carves r b j (suc i) (omega arith) l (update k c (unit_of r c i ∷ k c)) T)

    -- a pop, by its three steps: its list is x ∷ q, and it leads to the place `to`
    pops : {unit n : ℕ} {m : Mem} (k : ℕ → List ℕ) (p : Pop) (x : ℕ) (q : List ℕ) → m.row (pop_list p) ≡ x ∷ q
        → m.task t ≡ task_of (working (popping p read)) k
        → ((m' : Mem) → m'.row ≡ update m.row (pop_list p) q → m'.task t ≡ task_of (working (when_popped p x)) k
        → Finishes unit n m')
        → Finishes unit (suc (suc (suc n))) m
    pops {m = m} k p x q row is rest =
        let ℓ = pop_list p in
        let won = m.won ℓ in
        let m₁ = at_work t k (popping p (next won)) m in
        let m₂ = at_work t k (popping p (exchange won)) m₁ in
        on (task_of (working (popping p read)) k) (task_of (working (popping p (next won))) k) m nothing is
        (ap (λ z. pop_read t k p z m) row) (λ T₁.
        on (task_of (working (popping p (next won))) k) (task_of (working (popping p (exchange won))) k) m₁ nothing T₁
        refl (λ T₂.
        on (task_of (working (popping p (exchange won))) k) (task_of (working (when_popped p x)) k) (set_row ℓ q m₂)
        (popped ℓ x) T₂
        (if_yes (ℕ_discrete won won) (pop_take t k p (m.row ℓ) m₂) (pop_lost t k p m₂) refl
        ∙ ap (λ z. pop_take t k p z m₂) row)
        (rest (at_work t k (when_popped p x) (set_row ℓ q m₂)) refl)))

    -- The whole of it: the class's cache and its list are empty, there are a spare descriptor d and a spare region r,
    -- and b is the last block of a region.
    pub opens : {m : Mem} (k : ℕ → List ℕ) (d r b : ℕ) (ds rs : List ℕ) → k c ≡ [] → m.row c ≡ []
        → m.row SPARE_DESCRIPTORS ≡ d ∷ ds
        → m.row SPARE_REGIONS ≡ r ∷ rs → suc b ≡ per_region c → m.task t ≡ task_of (working (a1 c)) k
        → Finishes (unit_of r c b) (b + 10) m
    opens {m} k d r b ds rs none unlisted spares regions l is =
        let m₁ = at_work t k (popping (partial c) read) m in
        subst (λ n. Finishes (unit_of r c b) n m) (omega arith)
        (on (task_of (working (a1 c)) k) (task_of (working (popping (partial c) read)) k) m nothing is
        (ap (λ z. a1_step t k c z m) none) (λ T₁.
        on (task_of (working (popping (partial c) read)) k) (task_of (working (popping (spare c) read)) k) m₁
        (found_empty c) T₁
        (ap (λ z. pop_read t k (partial c) z m₁) unlisted) (λ T₂.
        pops k (spare c) d ds spares T₂ (λ m₃ row₃ T₃.
        pops k (region c d) r rs
        (ap (λ (f : ℕ → List ℕ). f SPARE_REGIONS) row₃
        ∙ update_other m.row SPARE_DESCRIPTORS ds SPARE_REGIONS (omega arith) ∙ regions) T₃ (λ m₄ row₄ T₄.
        on (task_of (working (a7 c d r)) k) (task_of (working (a8 c r 0)) k)
        (set_map r (suc d) (set_descriptor d (record { state = FULL; region = r; class = c; chain = [] }) m₄))
        nothing T₄ refl
        (λ T₅. carves r b b 0 (omega arith) l k T₅))))))
