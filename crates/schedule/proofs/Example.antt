-- The paper's example, and the stand's edge cases, computed over the plain pool.
use Rattle.std.proofs.Common.{◌≡◌, ℕ, List, [], ◌∷◌, map, length, refl}
use Rattle.classes.specs.Classes.{units, per_region}
use Rattle.classes.specs.Sizes.{class_of}
use Rattle.fields.specs.Little.{get_le}
use Rattle.plain.specs.Calls.{unstarted}
use Rattle.plain.specs.Calls as Calls
use Rattle.plain.specs.Steps as Steps
use Rattle.rows.specs.Branch.{both}
use native.Mathlib.Decide.{ℕ_discrete, dec_lt, dec_le}
use Rattle.rows.specs.Update.{update}
use Rattle.schedule.specs.declared.tally.Tally.{Tally}
use Rattle.schedule.specs.declared.treat.Line.{Line}
use Rattle.schedule.specs.Records.{kind_of, record_at}
use Rattle.schedule.specs.Tally.{none_counted, counted}
use Rattle.schedule.specs.Stand.{runs, table}
use Rattle.schedule.specs.Plain.{on_plain}

-- a line of the table, without lost exchanges
abbrev line : ℕ → ℕ → ℕ → ℕ → Line
line number kind code value = record { number = number; kind = kind; code = code; value = value; lost = 0 }

abbrev total : ℕ → ℕ → ℕ → Tally
total finished accepted others = record { finished = finished; accepted = accepted; others = others }

-- the stand over the plain pool
abbrev pub played : List ℕ → List Line × Tally
played input = table on_plain (length input) input 0 0 none_counted unstarted

-- "01 01 01, 02 00 00 01, 05 00 64 00, 03 00 E0 01, 05 00 01 00, 03 00 E0 01"
abbrev example : List ℕ
example =
    1 ∷ 1 ∷ 1 ∷
    2 ∷ 0 ∷ 0 ∷ 1 ∷
    5 ∷ 0 ∷ 100 ∷ 0 ∷
    3 ∷ 0 ∷ 224 ∷ 1 ∷
    5 ∷ 0 ∷ 1 ∷ 0 ∷
    3 ∷ 0 ∷ 224 ∷ 1 ∷ []

-- "Output"
pub paper-example : played example
    ≡ (
      line 0 1 0 0 ∷ line 1 2 0 0 ∷ line 2 5 20 480 ∷ line 3 3 0 0 ∷ line 4 5 20 0 ∷ line 5 3 11 0 ∷ [],
      total 2 3 1,
    )
unfolding table runs record_at kind_of counted get_le units per_region class_of unstarted both ℕ_discrete dec_lt dec_le
    update Calls.plain_call Calls.start_mem Calls.rising Steps.step_of
paper-example = refl

-- a task that leaves: it has one block cached, and all steps of its return, and the last, are in one run; it begins
-- again; a task that has nothing cached takes the last step alone, and a record of leaving that is cut short
abbrev leaving : List ℕ
leaving =
    1 ∷ 2 ∷ 1 ∷
    2 ∷ 0 ∷ 0 ∷ 1 ∷
    5 ∷ 0 ∷ 100 ∷ 0 ∷
    3 ∷ 0 ∷ 224 ∷ 1 ∷
    5 ∷ 0 ∷ 1 ∷ 0 ∷
    6 ∷ 0 ∷
    6 ∷ 0 ∷
    5 ∷ 0 ∷ 100 ∷ 0 ∷
    6 ∷ 1 ∷
    4 ∷ 1 ∷
    6 ∷ 2 ∷
    6 ∷ []

pub leaving-example : played leaving
    ≡ (
      line 0 1 0 0 ∷ line 1 2 0 0 ∷ line 2 5 20 480 ∷ line 3 3 0 0 ∷ line 4 5 20 0 ∷ line 5 6 0 0 ∷ line 6 6 6 0
          ∷ line 7 5 20 0 ∷ line 8 6 0 0 ∷ line 9 4 20 0 ∷ line 10 6 5 0 ∷ line 11 6 15 0 ∷ [],
      total 4 5 3,
    )
unfolding table runs record_at kind_of counted get_le units per_region class_of unstarted both ℕ_discrete dec_lt dec_le
    update Calls.plain_call Calls.start_mem Calls.rising Steps.step_of Steps.leave_from
leaving-example = refl

-- no input; a cut start; kind 0, after which nothing is read; an unknown kind; five regions and nine tasks, "more than
-- 4 regions is 2"; no region; a run of no steps before any start, "code 0, no call made"; a step before any start
pub edge-cases : map played
    ([] ∷ (1 ∷ 1 ∷ []) ∷ (0 ∷ 1 ∷ 1 ∷ 1 ∷ []) ∷ (7 ∷ 0 ∷ []) ∷ (1 ∷ 9 ∷ 5 ∷ []) ∷ (1 ∷ 1 ∷ 0 ∷ [])
    ∷ (5 ∷ 3 ∷ 0 ∷ 0 ∷ []) ∷ (4 ∷ 0 ∷ []) ∷ [])
    ≡ (([], total 0 0 0)
    ∷ (line 0 1 15 0 ∷ [], total 0 0 1)
    ∷ (line 0 0 15 0 ∷ [], total 0 0 1)
    ∷ (line 0 7 15 0 ∷ [], total 0 0 1)
    ∷ (line 0 1 2 0 ∷ [], total 0 0 1)
    ∷ (line 0 1 2 0 ∷ [], total 0 0 1)
    ∷ (line 0 5 0 0 ∷ [], total 0 1 0)
    ∷ (line 0 4 4 0 ∷ [], total 0 0 1)
    ∷ [])
unfolding table runs record_at kind_of counted get_le units per_region class_of unstarted both ℕ_discrete dec_lt dec_le
    update Calls.plain_call Calls.start_mem Calls.rising Steps.step_of
edge-cases = refl
