-- docs/POOL.md, "The invariant"
-- What never happens, though the plain pool's definitions say what would be done there.
use Rattle.std.specs.Prelude.{◌≡◌, ◌≢◌, List, ◌∷◌, ◌++◌, [], ℕ, suc, ◌+◌, ◌≤◌, ◌<◌, length}
use Rattle.limits.specs.Limits.{DESCRIPTORS}
use Rattle.classes.specs.Classes.{per_region}
use Rattle.classes.specs.Geometry.{region_of}
use Rattle.plain.specs.State.{PARTIAL, FULL, Note, exchange, Pop, popping, a3-read, a3-exchange, f2, f3-read}
use Rattle.plain.specs.State.{f3-link, f3-exchange, Mem, working, Purpose}
use Rattle.plain.specs.Steps.{pop_list, AsNoted}
use Rattle.plain.specs.Calls.{Opens}

-- a row that is not empty: its top item and the others
pub record TopItem (q : List ℕ) : Type 0 where
  pub item : ℕ
  pub rest : List ℕ
  pub is : q ≡ item ∷ rest

-- the group, y and g, and the chain of the descriptor d have at most n blocks together; so have the group and the
-- chain as it was noted, of `before` blocks
pub record GroupFits (m : Mem) (c y : ℕ) (g : List ℕ) (d before : ℕ) : Type 0 where
  pub now : length (y ∷ (g ++ (m.descriptor d).chain)) ≤ per_region c
  pub then : before + length (y ∷ g) ≤ per_region c

-- the map names a descriptor that opens the region of the group, for the class; and the count will not pass n
pub record GroupNamed (m : Mem) (c y : ℕ) (g : List ℕ) : Type 0 where
  pub d : ℕ
  pub fits : d < DESCRIPTORS
  pub entry : m.map (region_of y) ≡ suc d
  pub opens : Opens (m.descriptor d) (region_of y)
  pub class : (m.descriptor d).class ≡ c
  pub count : length (y ∷ (g ++ (m.descriptor d).chain)) ≤ per_region c

-- what holds at a step of the task t: the cases that it rules out never happen, though the definitions speak of them
pub record NeverHappens (m : Mem) (t : ℕ) : Type 0 where
  -- a pop's exchange whose list has the noted number finds a top item
  pub pop_exchange : (p : Pop) (n : ℕ) → (m.task t).place ≡ working (popping p (exchange n)) → m.won (pop_list p) ≡ n
      → TopItem (m.row (pop_list p))
  -- a group step with the cache empty has a group to close
  pub group_step : (c : ℕ) (z : Purpose) (g : List ℕ) → (m.task t).place ≡ working (f2 c z g) → (m.task t).cache c ≡ []
      → TopItem g
  -- the anchor read of a return finds an open region's descriptor
  pub free_reads : (c : ℕ) (z : Purpose) (y : ℕ) (g : List ℕ) → (m.task t).place ≡ working (f3-read c z y g)
      → GroupNamed m c y g
  -- the anchor read of an allocate never finds FULL
  pub allocate_reads : (c d : ℕ) → (m.task t).place ≡ working (a3-read c d) → (m.descriptor d).state ≢ FULL
  -- the won anchor exchange of an allocate had noted PARTIAL, and takes a chain that is not empty
  pub allocate_takes : (c d : ℕ) (n : Note) → (m.task t).place ≡ working (a3-exchange c d n)
      → AsNoted (m.descriptor d) n
      → (n.state ≡ PARTIAL) × TopItem (m.descriptor d).chain
  -- no count of a return passes n
  pub free_links : (c : ℕ) (z : Purpose) (y : ℕ) (g : List ℕ) (d : ℕ) (n : Note)
      → (m.task t).place ≡ working (f3-link c z y g d n)
      → GroupFits m c y g d n.length
  pub free_returns : (c : ℕ) (z : Purpose) (y : ℕ) (g : List ℕ) (d : ℕ) (n : Note)
      → (m.task t).place ≡ working (f3-exchange c z y g d n)
      → GroupFits m c y g d n.length
