-- docs/POOL.md, "The stand"
-- The records of a schedule. "A record is one byte of kind, then a body."
use Rattle.std.specs.Prelude.{◌≡◌, ℕ, ◌+◌, ◌-◌, cond, List, Result, Ok, Err, length, ◌==◌, nat_le, slice_index}
use Rattle.fields.specs.Little.{get_le}
use Rattle.schedule.specs.declared.record.BadRecord.{BadRecord}
use Rattle.schedule.specs.declared.record.BadRecord.TheVariants.{UnknownKind, Cut}
use Rattle.schedule.specs.declared.record.Kind.{Kind}
use Rattle.schedule.specs.declared.record.Record.{Record}
use Rattle.schedule.specs.declared.record.Record.TheVariants.{Start, Allocate, Free, Step, Run, Leave}
use Rattle.schedule.specs.declared.records.Entry.{Entry}

-- the longest schedule: "Input past 65,536 bytes is not read"
abbrev pub INPUT_BYTES : ℕ
INPUT_BYTES = 65536

-- the kinds: "1 start"
abbrev pub START_KIND : ℕ
START_KIND = 1

-- "2 allocate"
abbrev pub ALLOCATE_KIND : ℕ
ALLOCATE_KIND = 2

-- "3 free"
abbrev pub FREE_KIND : ℕ
FREE_KIND = 3

-- "4 step"
abbrev pub STEP_KIND : ℕ
STEP_KIND = 4

-- "5 run"
abbrev pub RUN_KIND : ℕ
RUN_KIND = 5

-- "6 leave" (the request for leaving), the last of them
abbrev pub LEAVE_KIND : ℕ
LEAVE_KIND = 6

-- how many bytes a start has, its kind with it: "start (tasks, regions)"
abbrev pub START_BYTES : ℕ
START_BYTES = 3

-- how many bytes a step or a leave has, its kind with it: "step (task)"
abbrev pub TASK_BYTES : ℕ
TASK_BYTES = 2

-- how many bytes an allocate, a free or a run has, its kind with it: a task, and a number in two bytes
abbrev pub WIDE_BYTES : ℕ
WIDE_BYTES = 4

-- how far behind a record's first byte its body has the tasks of a start, or the task, in one byte
abbrev pub TASK_AT : ℕ
TASK_AT = 1

-- how far behind a record's first byte its body has the regions of a start, in one byte; or the size, the unit or the
-- most steps
abbrev pub NUMBER_AT : ℕ
NUMBER_AT = 2

-- how many bytes a size, a unit or the most steps have: "in two bytes, low first"
abbrev pub NUMBER_BYTES : ℕ
NUMBER_BYTES = 2

-- the most calls that a record makes: a run's number has two bytes
abbrev pub MOST_CALLS : ℕ
MOST_CALLS = 65535

-- the kind that a byte names: "unknown kind" where it names none
unfoldable pub kind_of : ℕ → Result Kind BadRecord
kind_of byte =
    cond (byte == START_KIND) (Ok Kind.Start)
    (cond (byte == ALLOCATE_KIND) (Ok Kind.Allocate)
    (cond (byte == FREE_KIND) (Ok Kind.Free)
    (cond (byte == STEP_KIND) (Ok Kind.Step)
    (cond (byte == RUN_KIND) (Ok Kind.Run)
    (cond (byte == LEAVE_KIND) (Ok Kind.Leave)
    (Err UnknownKind))))))

-- the result is what `kind_of` says
abbrev pub KindIs : ℕ → Result Kind BadRecord → Type 0
KindIs byte r = r ≡ kind_of byte

-- how many bytes a record of a kind has, its kind with it
abbrev pub bytes_of : Kind → ℕ
bytes_of Kind.Start = START_BYTES
bytes_of Kind.Allocate = WIDE_BYTES
bytes_of Kind.Free = WIDE_BYTES
bytes_of Kind.Step = TASK_BYTES
bytes_of Kind.Run = WIDE_BYTES
bytes_of Kind.Leave = TASK_BYTES

-- "1 start (tasks, regions); 2 allocate (task, size in two bytes, low first); 3 free (task, unit in two bytes, low
-- first); 4 step (task); 5 run (task, most steps in two bytes, low first)", and 6 leave (task)
abbrev pub body_of : Kind → List ℕ → ℕ → Record
body_of Kind.Start input at = Start (slice_index input (at + TASK_AT)) (slice_index input (at + NUMBER_AT))
body_of Kind.Allocate input at =
    Allocate (slice_index input (at + TASK_AT)) (get_le input (at + NUMBER_AT) NUMBER_BYTES)
body_of Kind.Free input at = Free (slice_index input (at + TASK_AT)) (get_le input (at + NUMBER_AT) NUMBER_BYTES)
body_of Kind.Step input at = Step (slice_index input (at + TASK_AT))
body_of Kind.Run input at = Run (slice_index input (at + TASK_AT)) (get_le input (at + NUMBER_AT) NUMBER_BYTES)
body_of Kind.Leave input at = Leave (slice_index input (at + TASK_AT))

-- the record of a kind that begins at the byte `at`, unless the input's end cuts it
abbrev pub whole : List ℕ → ℕ → Result Kind BadRecord → Result Record BadRecord
whole input at (Ok kind) = cond (nat_le (bytes_of kind) (length input - at)) (Ok (body_of kind input at)) (Err Cut)
whole input at (Err e) = Err e

-- the record that begins at the byte `at`; "15 unknown kind or cut record"
unfoldable pub record_at : List ℕ → ℕ → Result Record BadRecord
record_at input at = whole input at (kind_of (slice_index input at))

-- the record that begins at the byte `at`, with what its line repeats: "record from 0, kind byte"
abbrev pub entry_at : List ℕ → ℕ → ℕ → Entry
entry_at input at n = record { number = n; kind = slice_index input at; body = record_at input at }

-- the kind of a record
abbrev pub kind_in : Record → Kind
kind_in (Start a b) = Kind.Start
kind_in (Allocate a b) = Kind.Allocate
kind_in (Free a b) = Kind.Free
kind_in (Step a) = Kind.Step
kind_in (Run a b) = Kind.Run
kind_in (Leave a) = Kind.Leave

-- where the next record begins; "After 15 it stops"
abbrev pub end_of : Result Record BadRecord → ℕ → ℕ → ℕ
end_of (Ok r) at end = at + bytes_of (kind_in r)
end_of (Err e) at end = end
