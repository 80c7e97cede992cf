-- How a step ends its request, of the exported functions: when 12, 13 and 16 come, and where the step leaves its task
-- (demand 2). The laws of one call hold whatever the memories hold.
use mathlib.Core.Path.{◌≡◌, refl, sym, ap, subst, ◌∙◌}
use mathlib.Core.Logic.{◌↔◌, ◌⊎◌, ⊎_elim, inl, inr}
use mathlib.Core.List.{List}
use Prim.Native.Nat.{ℕ, ◌<◌}
use Rattle.limits.specs.Limits.{TASKS}
use Rattle.fields.specs.Columns.{View}
use Rattle.fields.specs.Little.{Bytes}
use Rattle.links.specs.Link.{link}
use Rattle.plain.specs.Calls.{Pool, Call, start, allocate, free, leave, step, Lengths}
use Rattle.control.specs.Layout.{seen, TaskPlace}
use Rattle.control.specs.Places.{IDLE, STRIP_TAKE}
use Rattle.control.specs.Answers.{code_of, code_in}
use Rattle.control.specs.Answers.{Answer}
use Rattle.control.specs.Answers.{NoDescriptor, NoRegion, NoStrip}
use Rattle.control.specs.declared.moves.Pop.TheVariants.{Spare, Region}
use Rattle.control.specs.declared.moves.Push.TheVariants.{Back}
use Rattle.stepped.specs.Outcome.{Outcome, Memories}
use Rattle.stepped.specs.Calls.{Tested, lending, lengths, step_outcome}
use Rattle.agreement.specs.Asked.{asked}
use Rattle.agreement.specs.Ends.{FindsEmpty, FindsNoPiece, WinsPush, InPush, place_after}
use Rattle.agreement.specs.Handed.{EndsWith16}
use Rattle.agreement.specs.Reached.{History, Reached}
use Rattle.agreement.proofs.Ends.{step-ends, no_descriptor, no_region, no_strip, put_back}
use Rattle.agreement.proofs.Handed as Handed
use Rattle.agreement.proofs.SoundCalls.{step-place, step-others, allocate-others, free-others, leave-others}
use Rattle.demands.specs.AnswerKinds.{ends_request, EndsRequest, OfAnother}
use Rattle.demands.specs.Acts.{Contract}
use Rattle.demands.proofs.NumberTells.{told, ends-told, end-told}
use Rattle.demands.proofs.Backing.{stays-back}

-- one step of the task t, by the contract of the function
module _ (lent left : Memories) (r t : ℕ) (C : Contract (step t) lent left r) where
  -- the lengths lent
  abbrev long : Lengths
  long = lengths (lending lent)

  -- what stands in the fields before the step
  abbrev v : View
  v = seen lent.control

  -- the step, by the definitions
  abbrev o : Outcome
  o = step_outcome long v (link lent.area) t

  answer-code : code_in r ≡ code_of o.answer
  answer-code = (told (step t) lent left r C).code

  -- 12, 13 and 16 tell what the step found
  found : (code_of o.answer ≡ 12 → o.answer ≡ NoDescriptor) × (code_of o.answer ≡ 13 → o.answer ≡ NoRegion)
      × (code_of o.answer ≡ 16 → o.answer ≡ NoStrip)
  found = ends-told o.answer (step-ends long v (link lent.area) t).answers

  -- the code of the answer a comes exactly where a does, if it tells that answer
  exactly : {X : Type 0} (a : Answer) → (code_of o.answer ≡ code_of a → o.answer ≡ a) → (o.answer ≡ a) ↔ X
      → (code_in r ≡ code_of a) ↔ X
  exactly a N E = (λ h. E.0 (N (sym answer-code ∙ h)), λ f. answer-code ∙ ap code_of (E.1 f))

  -- "'No descriptor' .. only and always where the list read is empty": 12 is answered exactly where the task reads the
  -- head of the list of spare descriptors and finds it empty.
  pub twelve : (code_in r ≡ 12) ↔ (Tested long v t × FindsEmpty Spare v t)
  twelve = exactly NoDescriptor found.0 (no_descriptor long v (link lent.area) t)

  -- "and 'no region'": 13 is answered exactly where the task wins the push of its descriptor back on the spare list.
  pub thirteen : (code_in r ≡ 13) ↔ (Tested long v t × WinsPush Back v t)
  thirteen = exactly NoRegion found.1 (no_region long v (link lent.area) t)

  -- "16 ends a request" (the request for strips): 16 is answered exactly where the task is to take a strip and the tree
  -- has no free piece of its order or of a larger one.
  pub sixteen : (code_in r ≡ 16) ↔ (Tested long v t × FindsNoPiece v t)
  sixteen = exactly NoStrip found.2 (no_strip long v (link lent.area) t)

  -- "16 ends a request exactly if no aligned free stretch of the rounded size exists", slot by slot: wherever a run
  -- has come, of a step of a task that is to take a strip. The task has asked for a size above 256; the free slots are
  -- those of the plain pool, whose pieces are the memories' own by the agreement.
  pub sixteen-exactly : {h : History} {p : Pool} → Reached h lent p → Tested long v t → v (TaskPlace t) ≡ STRIP_TAKE
      → EndsWith16 p.mem.strips (asked t h) (code_in r ≡ 16)
  sixteen-exactly R T here =
      let E = Handed.sixteen-exactly R long t T here in
      record {
        size = E.size;
        asked_for = E.asked_for;
        is_strip = E.is_strip;
        exactly = exactly NoStrip found.2 E.exactly;
      }

  -- what is lent are bytes, and so the control memory that is left tells where the step leads
  module _ (bytes : Bytes lent.control) where
    left-place : seen left.control (TaskPlace t) ≡ place_after o v t
    left-place =
        ap (λ (b : List ℕ). seen b (TaskPlace t)) C.control_is
        ∙ step-place long (link lent.area) t lent.control bytes refl

    -- A task that is not in the push back comes to it exactly where it reads the head of the list of spare regions and
    -- finds it empty.
    pub to-thirteen : (InPush Back (v (TaskPlace t)) → ⊥)
        → InPush Back (seen left.control (TaskPlace t)) ↔ (Tested long v t × FindsEmpty Region v t)
    to-thirteen out =
        let B = put_back long v (link lent.area) t out in
        (λ i. B.0 (subst (InPush Back) left-place i), λ f. subst (InPush Back) (sym left-place) (B.1 f))

    -- A task that is in the push back stays there until it answers 13.
    pub stays-thirteen : InPush Back (v (TaskPlace t))
        → (code_in r ≡ 13) ⊎ InPush Back (seen left.control (TaskPlace t))
    stays-thirteen here =
        ⊎_elim (λ e. inl (answer-code ∙ ap code_of e)) (λ i. inr (subst (InPush Back) (sym left-place) i))
        (stays-back long v (link lent.area) t here)

    -- "12 and 13 .. are a request's end .. and leave the task idle", and so do 16 and a finish.
    pub ends-idle : EndsRequest r → seen left.control (TaskPlace t) ≡ IDLE
    ends-idle h =
        let E = step-ends long v (link lent.area) t in
        left-place ∙ E.idle (end-told o.answer E.answers (ap ends_request (sym answer-code) ∙ h))

-- No call of another task moves a task: between two of its own calls it is where it was, until the next start.
pub others-stay : (k : Call) (lent left : Memories) (r : ℕ) → Contract k lent left r → Bytes lent.control
    → (u : ℕ) → u < TASKS → OfAnother u k → seen left.control (TaskPlace u) ≡ seen lent.control (TaskPlace u)
others-stay (start b) lent left r C bytes u h n = absurd n
others-stay (allocate t size) lent left r C bytes u h n =
    ap (λ (b : List ℕ). seen b (TaskPlace u)) C.control_is
    ∙ allocate-others n (lengths (lending lent)) lent.control bytes refl h size
others-stay (free t unit) lent left r C bytes u h n =
    ap (λ (b : List ℕ). seen b (TaskPlace u)) C.control_is
    ∙ free-others n (lengths (lending lent)) lent.control bytes refl h unit
others-stay (leave t) lent left r C bytes u h n =
    ap (λ (b : List ℕ). seen b (TaskPlace u)) C.control_is
    ∙ leave-others n (lengths (lending lent)) lent.control bytes refl h
others-stay (step t) lent left r C bytes u h n =
    ap (λ (b : List ℕ). seen b (TaskPlace u)) C.control_is
    ∙ step-others n (lengths (lending lent)) lent.control bytes refl h (link lent.area)
