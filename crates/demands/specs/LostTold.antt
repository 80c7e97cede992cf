-- docs/POOL.md, "Lost exchanges"
-- What the number that a call answers tells of lost exchanges, along a run.
use Rattle.std.specs.Prelude.{◌≡◌, cond, List, [], ◌∷◌, ℕ}
use Rattle.plain.specs.Calls.{Pool, Call, start, allocate, free, leave, step}
use Rattle.control.specs.Answers.{code_in, lost_in}
use Rattle.stepped.specs.Outcome.{Memories}
use Rattle.agreement.specs.Events.{whole}
use Rattle.agreement.specs.Reached.{History, happened}
use Rattle.agreement.specs.LostExchanges.{lost_in_request}
use Rattle.demands.specs.AnswerKinds.{ends_request}
use Rattle.demands.specs.Acts.{Act, on_own, on_other, write, write_strip, after_act, event_of_act}

-- "the finishing step gives the request's sum .. Requests that end with 12, 13 or 16 give it also. Every other answer
-- gives 0": how many lost exchanges a call that answered `code` is to tell. The history has the call as its latest
-- event.
abbrev pub lost_due : Call → ℕ → History → ℕ
lost_due (start b) code h = 0
lost_due (allocate t size) code h = 0
lost_due (free t u) code h = 0
lost_due (leave t) code h = 0
lost_due (step t) code h = cond (ends_request code) (lost_in_request t h) 0

-- The number that an act answered tells as many. A call on other memories is no step of this pool, or is refused; a
-- user's write answers nothing.
abbrev pub LostTold : Act → History → Type 0
LostTold (on_own k left number) h = lost_in number ≡ lost_due k (code_in number) h
LostTold (on_other k lent left number) h = lost_in number ≡ 0
LostTold (write at b) h = Unit {0}
LostTold (write_strip at b) h = Unit {0}

-- P of each act of a run, in its order, with the history that ends with it; h is what has happened before, with the
-- memories s and the plain pool p behind it
abbrev pub AlongHistory : (Act → History → Type 0) → List Act → History → Memories → Pool → Type 0
AlongHistory P [] h s p = Unit {0}
AlongHistory P (a ∷ rest) h s p =
    let e = event_of_act a s in
    let h' = happened e s p ∷ h in
    P a h' × AlongHistory P rest h' (after_act a s) (whole e p).0
