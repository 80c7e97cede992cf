-- The premises of the agreement are met by a run with the moves that need care, those of ExampleLines. All of it is
-- computed on the plain pool.
use mathlib.Core.Path.{◌≡◌, refl, sym, ap, subst, ◌∙◌}
use mathlib.Core.List.{List, [], ◌∷◌}
use native.Mathlib.Omega.{arith}
use native.Mathlib.Decide.{ℕ_discrete, dec_lt, dec_le}
use lib.ListN.{length}
use Rattle.limits.specs.Limits.{CONTROL_BYTES, SPARE_DESCRIPTORS, SPARE_REGIONS, STRIPS_BYTES}
use Rattle.rows.specs.Branch.{both}
use Rattle.rows.specs.Update.{update}
use Rattle.classes.specs.Classes.{units, per_region}
use Rattle.classes.specs.Sizes.{class_of}
use Rattle.pieces.specs.StripSizes.{order_from}
use Rattle.pieces.specs.Strips.{take_strip}
use Rattle.plain.specs.State.{EMPTY, FULL, exchange, spare, popping, working}
use Rattle.plain.specs.Steps.{leave_from, step_of}
use Rattle.plain.specs.Calls.{Pool, start, start_mem, rising, unstarted, Lengths}
use Rattle.plain.specs.Calls as Plain
use Rattle.plain.proofs.CallAnswers.{most}
use Rattle.stepped.specs.Outcome.{Memories}
use Rattle.stepped.specs.Calls.{Lent, lengths}
use Rattle.agreement.specs.Events.{Event, Premises, Unstarted}
use Rattle.agreement.specs.Reached.{starting}
use Rattle.agreement.specs.Agreement.{Agree}
use Rattle.agreement.proofs.AnswersOfRuns.{stepped_answers, whole_answers, answered, after, WritesHeld}
use Rattle.agreement.proofs.AnswersOfRuns.{writes_held?, found, short}
use Rattle.agreement.proofs.ExampleLines.{AREA, lent, CLASS_192, CLASS_224, contention, closing, reopening}
use Rattle.agreement.proofs.ExampleLines.{meanwhile, schedule, events, answers, told, three}
use Rattle.agreement.proofs.Theorem.{agreement}

-- the pool of three tasks and two regions
abbrev started : Pool
started = (Plain.plain_call (start three) (lengths lent) unstarted).0

-- the run as it is told above is that of the plain pool
pub told-whole : told (whole_answers (events schedule) started) ≡ answers schedule
unfolding Plain.plain_call step_of start_mem rising units per_region update ℕ_discrete dec_lt dec_le both unstarted
    class_of order_from take_strip leave_from
told-whole = refl

-- ---- what stands in the plain pool between the parts

abbrev contended : Pool
contended = after (events contention) started

abbrev closed : Pool
closed = after (events closing) contended

abbrev reopened : Pool
reopened = after (events reopening) closed

-- Region 1 goes from FULL to EMPTY by the one return of its part, its map entry is cleared and it is spare; then it is
-- open for blocks of 224 bytes, by descriptor 2.
pub region-closed :
    ((contended.mem.descriptor 1).state ≡ FULL) × ((closed.mem.descriptor 1).state ≡ EMPTY) × (closed.mem.map 1 ≡ 0)
    × (closed.mem.row SPARE_REGIONS ≡ 1 ∷ []) × (reopened.mem.map 1 ≡ 3)
    × ((reopened.mem.descriptor 2).class ≡ CLASS_224)
unfolding Plain.plain_call step_of start_mem rising units per_region update ℕ_discrete dec_lt dec_le both unstarted
    class_of order_from take_strip leave_from
region-closed = (refl, refl, refl, refl, refl, refl)

abbrev returned : Pool
returned = after (events meanwhile) reopened

-- Task 1 noted 4 won exchanges of the spare descriptors. There are two more when it tries its own, and the row is the
-- same.
pub head-returned :
    ((reopened.mem.task 1).place ≡ working (popping (spare CLASS_192) (exchange 4)))
    × (reopened.mem.won SPARE_DESCRIPTORS ≡ 4)
    × ((returned.mem.task 1).place ≡ working (popping (spare CLASS_192) (exchange 4)))
    × (returned.mem.won SPARE_DESCRIPTORS ≡ 6)
    × (reopened.mem.row SPARE_DESCRIPTORS ≡ 1 ∷ rising 61 3)
    × (returned.mem.row SPARE_DESCRIPTORS ≡ 1 ∷ rising 61 3)
unfolding Plain.plain_call step_of start_mem rising units per_region update ℕ_discrete dec_lt dec_le both unstarted
    class_of order_from take_strip leave_from
head-returned = (refl, refl, refl, refl, refl, refl)

-- ---- the premises are met, and the agreement holds of it

-- what the start is lent: its area has two regions, and the bytes of all three memories may be any
pub record Lends (given : Lent) : Type 0 where
  pub control_is : given.control ≡ CONTROL_BYTES
  pub area_is : length given.area ≡ AREA
  pub strips_is : length given.strips ≡ STRIPS_BYTES

-- the lengths are those of the calls behind the start
same-lent : {given : Lent} → Lends given → lengths given ≡ lengths lent
same-lent L = λ i. record { control = L.control_is i; area = L.area_is i; strips = L.strips_is i }

-- the schedule on these memories
abbrev pub schedule_on : Lent → List Event
schedule_on given = starting three given ∷ events schedule

-- every write is into a block or a strip in a user's hands
writes-held : WritesHeld (events schedule) started
unfolding Plain.plain_call step_of start_mem rising units per_region update ℕ_discrete dec_lt dec_le both unstarted
    class_of order_from take_strip leave_from writes_held?
writes-held = found (writes_held? (events schedule) started) tt

few : length (events schedule) ≡ 335
few = refl

pub premises : (given : Lent) → Lends given → Premises (schedule_on given) unstarted
unfolding unstarted
premises given L = (
  tt,
  subst
      (λ (n : Lengths). Premises (events schedule) (Plain.plain_call (start three) n unstarted).0) (sym (same-lent L))
      (short 1 (events schedule) started (most 0 (start three) (lengths lent) unstarted (λ k. absurd (omega arith)))
      (omega (arith, few)) writes-held),
)

-- what the stepped run does on the bytes: it agrees with the plain pool, and tells what the schedule tells
pub record Example (given : Lent) (s₁ : Memories) : Type 0 where
  pub agrees : Agree (schedule_on given) s₁ unstarted
  pub tells : told (stepped_answers (schedule_on given) s₁) ≡ answers schedule

pub example : (given : Lent) (s₁ : Memories) → Lends given → Unstarted s₁ → Example given s₁
unfolding Plain.plain_call unstarted ℕ_discrete both dec_lt
example given s₁ L U =
    let p = premises given L in
    record {
      agrees = agreement (schedule_on given) s₁ U p;
      tells =
          ap told (answered (schedule_on given) s₁ U p)
          ∙ subst (λ (n : Lengths).
          let x = Plain.plain_call (start three) n unstarted in
          told (x.1 ∷ whole_answers (events schedule) x.0) ≡ answers schedule)
          (sym (same-lent L)) told-whole;
    }
