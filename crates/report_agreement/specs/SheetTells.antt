-- docs/POOL.md, "Reports"
-- What the sheet tells of the plain pool: "In any pool reached by calls under the third demand's premises, the four
-- numbers of an open region add up to its n, and each is the number of blocks with that holder. A region that is not
-- open in the class shows four zeros."
use Rattle.std.specs.Prelude.{◌≡◌, List, ℕ, suc, ◌+◌, ◌*◌, ◌<◌}
use Rattle.limits.specs.Limits.{REGIONS, CLASSES}
use Rattle.fields.specs.Little.{get_le}
use Rattle.classes.specs.Classes.{per_region}
use Rattle.plain.specs.State.{Mem}
use Rattle.plain.specs.Calls.{Pool}
use Rattle.agreement.specs.Observe.{plain_class}
use Rattle.reports.specs.Rows.{BYTES_OF_NUMBER}
use Rattle.sheet.specs.Sheet.{COLUMNS}
use Rattle.report_agreement.specs.Whereabouts.{times_in_hand, times_cached, times_running, times_chained, blocks_there}

-- the number in the column j of the line of the class c and the region r, which begins at the byte 8 × (16 × c + r)
abbrev pub number_at : List ℕ → ℕ → ℕ → ℕ → ℕ
number_at sheet c r j = get_le sheet (BYTES_OF_NUMBER * (COLUMNS * (REGIONS * c + r) + j)) BYTES_OF_NUMBER

-- the region r is open in the class c
abbrev pub OpenIn : Pool → ℕ → ℕ → Type 0
OpenIn s r c = (r < s.regions) × (plain_class s.mem r ≡ suc c)

-- the line of a region that is open in the class: each number is the number of blocks with that holder, and they add up
-- to n
pub record LineTells (sheet : List ℕ) (m : Mem) (c r : ℕ) : Type 0 where
  pub hand : number_at sheet c r 0 ≡ blocks_there (times_in_hand m) r c
  pub caches : number_at sheet c r 1 ≡ blocks_there (times_cached m) r c
  pub requests : number_at sheet c r 2 ≡ blocks_there (times_running m) r c
  pub chain : number_at sheet c r 3 ≡ blocks_there (times_chained m r) r c
  pub adds_up :
      number_at sheet c r 0 + number_at sheet c r 1 + number_at sheet c r 2 + number_at sheet c r 3 ≡ per_region c

-- the sheet tells the plain pool: the lines of all classes and regions
pub record SheetTells (sheet : List ℕ) (s : Pool) : Type 0 where
  pub opened : (c r : ℕ) → c < CLASSES → OpenIn s r c → LineTells sheet s.mem c r
  pub closed : (c r : ℕ) → c < CLASSES → r < REGIONS → (OpenIn s r c → ⊥) → (j : ℕ) → j < COLUMNS
      → number_at sheet c r j ≡ 0
