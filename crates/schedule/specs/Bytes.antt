-- docs/POOL.md, "The stand"
-- The stand on the bytes of its three memories.
use Rattle.std.specs.Prelude.{◌≡◌, ℕ, ◌*◌, cond, List, length, replicate, unwrap_or, ◌==◌, nat_lt}
use Rattle.std.specs.Option.{option_copied}
use borrow.Rule.Slice.PartMut.{mid_of, put_mid}
use Rattle.limits.specs.Limits.{CONTROL_BYTES, REGION_BYTES, STRIPS_BYTES}
use Rattle.fields.specs.Columns.{View}
use Rattle.plain.specs.Calls.{Call}
use Rattle.control.specs.Layout.{Tasks, Regions, seen}
use Rattle.control.specs.Answers.{number_telling}
use Rattle.stepped.specs.Outcome.{Memories}
use Rattle.stepped.specs.Calls.{effect_of}
use Rattle.schedule.specs.declared.stand.Stand.{Stand}
use Rattle.schedule.specs.Stand.{STAND_REGIONS, STAND_AREA}
use Rattle.schedule.specs.Stand.{Lends, named, as_started, played, last_answer}

-- "The stand keeps an area of 16,384 bytes and control memory of 8,192, zero at first", and so the strips' memory: "A
-- second lent area of 65,536 bytes holds them" (the request for strips)
abbrev pub zeros : Memories
zeros = record {
  control = replicate CONTROL_BYTES 0;
  area = replicate STAND_AREA 0;
  strips = replicate STRIPS_BYTES 0;
}

-- the stand's memories; the strips' are zeros where it has none
abbrev pub memories : Stand → Memories
memories s = record {
  control = s.control;
  area = s.area;
  strips = unwrap_or (option_copied s.strips) (replicate STRIPS_BYTES 0);
}

-- how many regions the last accepted start was lent: none before the first; never more than the stand has
abbrev pub lent_regions : View → ℕ
lent_regions v = cond (v Tasks == 0) 0 (cond (nat_lt STAND_REGIONS (v Regions)) STAND_REGIONS (v Regions))

-- what is lent of three memories: the control memory, the first n bytes of the area, and the strips' memory
abbrev pub part : ℕ → Memories → Memories
part n s = record { control = s.control; area = mid_of 0 n s.area; strips = s.strips }

-- a call that is lent that; its answer as one number, with the lost exchanges in its high half
abbrev pub on_part : Call → ℕ → Memories → Memories × ℕ
on_part k n s =
    let e = effect_of k (part n s) in (
      record { control = e.control; area = put_mid 0 n s.area e.area; strips = e.strips },
      number_telling e.answer e.lost,
    )

-- a call, by what the stand lends it: "more than 4 regions is 2"
abbrev pub on_bytes : Call → Lends → Memories → Memories × ℕ
on_bytes k (named regions) s = cond (nat_lt STAND_REGIONS regions) (s, 2) (on_part k (REGION_BYTES * regions) s)
on_bytes k as_started s = on_part k (REGION_BYTES * lent_regions (seen s.control)) s

-- what a report is lent: of the area, what the last accepted start was lent
abbrev pub started_part : Memories → Memories
started_part s = part (REGION_BYTES * lent_regions (seen s.control)) s

-- the three memories, zero at first, after all records of a schedule
abbrev pub after_all : (input : List ℕ) → Memories
after_all input = played on_bytes (length input) input 0 zeros

-- the answer of the last of them as one number; 0 where there is no record
abbrev pub last_of : (input : List ℕ) → ℕ
last_of input = last_answer on_bytes (length input) input 0 0 zeros

-- three memories as bytes, together
abbrev pub together : (control area strips : List ℕ) → Memories
together control area strips = record { control = control; area = area; strips = strips }

-- s' and the answer r are what f makes of s
pub record Makes {A : Type 0} (f : Memories → Memories × A) (s s' : Memories) (r : A) : Type 0 where
  pub memories_are : s' ≡ (f s).0
  pub answer : r ≡ (f s).1

-- What a function ensures that does f: the answer and every byte of the three memories are those of f.
abbrev pub Does : {A : Type 0} → (Memories → Memories × A) → (before after : Stand) → A → Type 0
Does f before after r = Makes f (memories before) (memories after) r

-- What a function ensures that plays a whole schedule: its three memories are those that the records leave, and it
-- answers as the last record, 0 where there is none.
pub record PlaysAll (input : List ℕ) (before after : Stand) (r : ℕ) : Type 0 where
  pub memories_are : memories after ≡ played on_bytes (length input) input 0 (memories before)
  pub answer : r ≡ last_answer on_bytes (length input) input 0 0 (memories before)
