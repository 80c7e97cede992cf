-- The example's run, computed from the definitions of the stepped pool themselves, on fields and links.
-- The agreement implies as much, for every run; this one is found by computing alone, so that a definition that decides
-- or answers otherwise in it is seen by its values.
use mathlib.Core.Path.{◌≡◌, refl}
use mathlib.Core.Bool.{cond}
use mathlib.Core.List.{List, [], ◌∷◌}
use Prim.Native.Nat.{ℕ}
use lib.Dec.{eqb}
use Rattle.fields.specs.Columns.{View, assigned}
use Rattle.links.specs.Link.{LinkWrite, ◌⇒◌}
use Rattle.classes.specs.Classes.{units, per_region}
use Rattle.classes.specs.Sizes.{class_of}
use Rattle.classes.specs.Geometry.{is_first}
use Rattle.pieces.specs.StripSizes.{order_from}
use Rattle.strip_tree.specs.Trees.{is_free_node, with_free, without_free}
use Rattle.strip_tree.specs.TreeMoves.{lowest, find_from, halving, joining}
use Rattle.plain.specs.Moves.{Answer, nothing}
use Rattle.plain.specs.Calls.{Call, start, allocate, free, leave, step}
use Rattle.control.specs.Answers.{code_of, value_of}
use Rattle.stepped.specs.Outcome.{Outcome, refuse, accept}
use Rattle.stepped.specs.Lists
use Rattle.stepped.specs.Allocate
use Rattle.stepped.specs.Free
use Rattle.stepped.specs.StripSteps
use Rattle.stepped.specs.Steps
use Rattle.stepped.specs.Start.{start_writes}
use Rattle.stepped.specs.Calls
use Rattle.stepped.specs.Calls.{Lent, lengths}
use Rattle.stepped.specs.Leaving.{first_cached, leave_from}
use Rattle.agreement.specs.Events.{Event, call, write, write_strip}
use Rattle.agreement.proofs.ExampleLines.{three, schedule, events, answers, told}

-- what stands in the fields, and each block's link
pub record FieldsAndLinks : Type 0 where
  pub view : View
  pub link : ℕ → ℕ

abbrev pub relinked : List LinkWrite → (ℕ → ℕ) → ℕ → ℕ
relinked [] f = f
relinked ((u ⇒ x) ∷ ls) f = relinked ls (λ y. cond (eqb y u) x (f y))

abbrev pub becomes : Outcome → FieldsAndLinks → FieldsAndLinks
becomes o s = record { view = assigned o.writes s.view; link = relinked o.links s.link }

abbrev pub says : Outcome → Answer
says o = record { code = code_of o.answer; value = value_of o.answer; decided = o.decided }

-- The start has been made.
abbrev pub call_outcome : Call → Lent → FieldsAndLinks → Outcome
call_outcome (start b) lent s = refuse 1
call_outcome (allocate t size) lent s = Calls.allocate_outcome (lengths lent) s.view t size
call_outcome (free t u) lent s = Calls.free_outcome (lengths lent) s.view t u
call_outcome (leave t) lent s = Calls.leave_outcome (lengths lent) s.view t
call_outcome (step t) lent s = Calls.step_outcome (lengths lent) s.view s.link t

-- A user's write changes nothing here: no step reads the link of a held block.
abbrev pub outcome : Event → FieldsAndLinks → Outcome
outcome (call k lent) s = call_outcome k lent s
outcome (write at b) s = accept nothing [] []
outcome (write_strip at b) s = accept nothing [] []

abbrev pub run : List Event → FieldsAndLinks → List Answer
run [] s = []
run (e ∷ es) s = says (outcome e s) ∷ run es (becomes (outcome e s) s)

abbrev pub fresh : FieldsAndLinks
fresh = record { view = assigned (start_writes three 2) (λ f. 0); link = λ u. 0 }

pub computed : told (run (events schedule) fresh) ≡ answers schedule
unfolding start_writes units per_region class_of is_first Calls.tested Calls.when_idle Calls.begin_allocate
    Calls.free_marked Calls.free_open Calls.free_by Calls.free_entry Calls.begin_free_small Calls.begin_free
    Calls.allocate_outcome Calls.free_outcome Calls.leave_outcome Calls.step_outcome Steps.step_at Steps.step_of
    Lists.when_returned Lists.f6 Lists.f5 first_cached leave_from Lists.pop_read Lists.pop_next_of Lists.pop_next
    Lists.pop_exchange Lists.push_read Lists.push_next Lists.push_exchange Allocate.a1_take Allocate.a1
    Allocate.a3_read_of Allocate.a3_read Allocate.a3_exchange_of Allocate.a3_exchange Allocate.a4_move Allocate.a4
    Allocate.a7 Allocate.a8_put Allocate.a8 Free.f1_put Free.f1 Free.f2_first Free.f2_more Free.f2_top Free.f2
    Free.f3_read_of Free.f3_read_by Free.f3_read Free.f3_link Free.f3_won Free.f3_exchange_of Free.f3_exchange
    Free.f4_clear order_from lowest find_from halving joining is_free_node with_free without_free
    StripSteps.strip_take_at StripSteps.strip_take StripSteps.strip_give_at StripSteps.strip_give
    StripSteps.begin_free_at StripSteps.begin_free_strip
computed = refl
