-- The stand on bytes beside the stand over the plain pool: each request is answered by the same number but for the lost
-- exchanges, and keeps them beside each other.
use Prim.Native.Nat.{ℕ, suc, ◌*◌, ◌%◌, ◌≤◌, ◌<◌}
use mathlib.Core.Path.{◌≡◌, refl, sym, ap, subst, ◌∙◌}
use mathlib.Core.List.{[], ◌∷◌}
use native.Mathlib.Omega.{arith}
use native.Mathlib.Decide.{ℕ_discrete}
use borrow.Author.Tests.{eq-eqb, ne_eqb, le-ltb}
use borrow.Rule.Slice.PartMut.{mid_of}
use lib.ListN.{length}
use Rattle.limits.specs.Limits.{REGION_BYTES, STRIPS_BYTES, TAGS}
use Rattle.fields.specs.Columns.{View}
use Rattle.links.specs.Link.{link}
use Rattle.links.proofs.Links.{length-linked}
use Rattle.plain.specs.Moves.{Answer}
use Rattle.plain.specs.Codes.{AtMost}
use Rattle.plain.specs.Calls.{Pool, Call, allocate, free, leave, step, Lengths}
use Rattle.plain.specs.Calls as Calls
use Rattle.plain.proofs.CallAnswers.{most}
use Rattle.control.specs.Layout.{Tasks, seen}
use Rattle.control.specs.Answers.{ONE_LOST, number_telling, code_in, lost_in}
use Rattle.stepped.specs.Outcome.{Effect, Memories, memories_after}
use Rattle.stepped.specs.Calls.{effect_of, lending, lengths}
use Rattle.stepped.specs.Calls as Stepped
use Rattle.agreement.specs.Events.{stepped, whole, Premise}
use Rattle.agreement.specs.Tied.{Tied}
use Rattle.agreement.proofs.AnswersOfRuns.{short}
use Rattle.agreement.specs.Reached.{History, happened, Reached, by_event}
use Rattle.agreement.proofs.Reaching.{reached-tied}
use Rattle.agreement.proofs.Theorem.{reached-agrees}
use Rattle.demands.specs.AnswerKinds.{ends_request}
use Rattle.demands.specs.Acts.{on_own, event_of_call, Number}
use Rattle.demands.specs.LostTold.{lost_due}
use Rattle.demands.proofs.Acting.{shows}
use Rattle.demands.proofs.LostTold.{lost-told}
use Rattle.schedule.specs.Stand.{STAND_REGIONS, STAND_AREA}
use Rattle.schedule.specs.Stand.{as_started}
use Rattle.schedule.specs.Bytes.{lent_regions, on_part, on_bytes}
use Rattle.schedule.specs.Plain.{answer_number, feeding, regions_fed, on_plain}
use Rattle.stand_agreement.proofs.LentArea.{part_length, part-back, back-length}
use Rattle.stand_agreement.proofs.Fed.{stand_lengths, SameStart, allocate-keeps, free-keeps, leave-keeps}
use Rattle.stand_agreement.proofs.Fed.{step_keeps, same-regions}

-- the memories that a call is lent with n regions
abbrev pub part_of : ℕ → Memories → Memories
part_of n s = record { control = s.control; area = mid_of 0 (REGION_BYTES * n) s.area; strips = s.strips }

-- The stand's memories beside the plain pool: a run reaches the part of them that is lent, and no list has won more
-- than n exchanges.
pub record Beside (n : ℕ) (s : Memories) (p : Pool) : Type 0 where
  pub area_is : length s.area ≡ STAND_AREA
  pub strips_is : length s.strips ≡ STRIPS_BYTES
  pub few : regions_fed p ≤ STAND_REGIONS
  pub history : History
  pub reached : Reached history (part_of (regions_fed p) s) p
  pub most-won : AtMost n p

-- the memories that are lent are tied to the plain pool
pub tied : {n : ℕ} {s : Memories} {p : Pool} → Beside n s p → Tied (part_of (regions_fed p) s) p
tied B = reached-tied B.reached

-- what is beside the plain pool with at most n won exchanges is so with at most m, as after more calls
pub later : {n m : ℕ} {s : Memories} {p : Pool} → n ≤ m → Beside n s p → Beside m s p
later h B =
    record {
      area_is = B.area_is;
      strips_is = B.strips_is;
      few = B.few;
      history = B.history;
      reached = B.reached;
      most-won = λ k ℓ. omega
          (arith, h, B.most-won k ℓ);
    }

-- "The two runs are compared without this number" (the request for lost exchanges): a number of bytes is that of the
-- plain pool but for the lost exchanges that it tells, and tells none where that is 0
pub record SameNumber (n m : ℕ) : Type 0 where
  pub without-lost : n % ONE_LOST ≡ m
  pub none : m ≡ 0 → n ≡ 0

-- a number that tells an answer is that answer's
pub tells : {n : ℕ} {y : Answer} → Number n y → SameNumber n (answer_number y)
tells {n} {y} N = record {
  without-lost = omega (arith, N.code, N.value);
  none = λ e.
      let z : y.code ≡ 0 = omega (arith, e) in
      let l : lost_in n ≡ 0 = N.none_lost (ap ends_request z) in
      omega (arith, N.code, N.value, l, e);
}

-- numbers below ONE_LOST are the same
pub same-small : (n : ℕ) → n < ONE_LOST → SameNumber n n
same-small n l = record { without-lost = omega (arith, l); none = λ e. e }

-- the two stands answer the same, and are beside each other again
pub record SameAnswer (n : ℕ) (x : Memories × ℕ) (y : Pool × ℕ) : Type 0 where
  pub number : SameNumber x.1 y.1
  pub beside : Beside n x.0 y.0

module _ {n : ℕ} {s : Memories} {p : Pool} (B : Beside n s p) where
  -- the stand lends what the plain pool is fed
  pub lent_same : lent_regions (seen s.control) ≡ regions_fed p
  lent_same = by (ℕ_discrete p.tasks 0)
    where
      by : Dec (p.tasks ≡ 0) → lent_regions (seen s.control) ≡ regions_fed p
      by (yes e) = rw (eq-eqb (seen s.control Tasks) 0 ((tied B).tasks ∙ e), eq-eqb p.tasks 0 e) refl
      by (no k) =
          let q : regions_fed p ≡ p.regions = rw (ne_eqb p.tasks 0 k) refl in
          rw (
            ne_eqb (seen s.control Tasks) 0 (λ e. k (sym (tied B).tasks ∙ e)),
            (tied B).regions (omega arith),
            le-ltb STAND_REGIONS p.regions (omega (arith, B.few, q)),
            ne_eqb p.tasks 0 k,
          ) refl

module _ {n : ℕ} {s : Memories} {p : Pool} (B : Beside n s p) (small : n < TAGS) where
  abbrev regions : ℕ
  regions = regions_fed p

  abbrev lent : Memories
  lent = part_of regions s

  part-is : length lent.area ≡ REGION_BYTES * regions
  part-is = part_length (REGION_BYTES * regions) s.area (omega (arith, B.few, B.area_is))

  -- what the plain pool is fed
  abbrev fed : Lengths
  fed = stand_lengths regions

  as-fed : (q : Call) → whole (event_of_call q lent) p ≡ Calls.plain_call q fed p
  as-fed q =
      λ i. Calls.plain_call q (record { control = (tied B).length i; area = part-is i; strips = B.strips_is i }) p

  -- ---- a call that is no start, by its own effect

  module _ (q : Call) (premise : Premise (event_of_call q lent) p)
      (long : length (effect_of q lent).area ≡ length lent.area) (same : (effect_of q lent).strips ≡ s.strips)
      (keeps : SameStart p (Calls.plain_call q fed p).0) where
    abbrev e : Effect
    e = effect_of q lent

    abbrev left : Memories
    left = memories_after e

    same-call : SameAnswer (suc n) (on_part q (REGION_BYTES * regions) s) (feeding q (REGION_BYTES * regions) p)
    same-call =
        let S =
        shows (on_own q left (number_telling e.answer e.lost)) lent
        (record { number = refl; control_is = refl; area_is = refl; strips_is = refl }) in
        let H = happened (event_of_call q lent) lent p ∷ B.history in
        let A = reached-agrees B.history lent p B.reached (event_of_call q lent) premise in
        let p' = (Calls.plain_call q fed p).0 in
        let r = same-regions p p' keeps in
        let s' : Memories = (on_part q (REGION_BYTES * regions) s).0 in
        let back : part_of regions s' ≡ left =
        λ i. record {
          control = e.control;
          area = part-back (REGION_BYTES * regions) s.area e.area
              (long ∙ part-is) i;
          strips = e.strips;
        } in
        record {
          number =
              subst (SameNumber (number_telling e.answer e.lost))
              (ap answer_number A.0.says ∙ ap (λ x. answer_number x.1) (as-fed q)) (tells S.answers);
          beside = record {
            area_is =
                back-length (REGION_BYTES * regions) s.area e.area (omega (arith, B.few, B.area_is))
                (long ∙ part-is) ∙ B.area_is;
            strips_is = ap length same ∙ B.strips_is;
            few = omega (arith, B.few, r);
            history = H;
            reached =
                subst (λ (z : Memories). Reached H z p') (S.leaves ∙ sym (ap (λ (k : ℕ). part_of k s') r ∙ back))
                (subst (λ x. Reached H (stepped (event_of_call q lent) lent).0 x.0) (as-fed q)
                (by_event B.reached (event_of_call q lent) premise));
            most-won = most n q fed p B.most-won;
          };
        }

    -- the call is lent so many regions as the stand's definition says
    same-lent : SameAnswer (suc n) (on_bytes q as_started s) (on_plain q as_started p)
    same-lent =
        subst (λ (k : ℕ). SameAnswer (suc n) (on_part q (REGION_BYTES * k) s) (feeding q (REGION_BYTES * regions) p))
        (sym (lent_same B)) same-call

  -- ---- the calls

  -- a step meets the premise: no list has won so many exchanges
  near : (t : ℕ) → Premise (event_of_call (step t) lent) p
  near t = (short n (event_of_call (step t) lent ∷ []) p B.most-won (omega (arith, small)) tt).0

  -- the lengths and the fields of what is lent
  abbrev long : Lengths
  long = lengths (lending lent)

  abbrev v : View
  v = seen lent.control

  pub same-allocate : (t size : ℕ) → SameAnswer (suc n) (on_bytes (allocate t size) as_started s)
      (on_plain (allocate t size) as_started p)
  same-allocate t size =
      same-lent (allocate t size) tt (length-linked (Stepped.allocate_outcome long v t size).links lent.area) refl
      (allocate-keeps fed t p size)

  pub same-free : (t u : ℕ) → SameAnswer (suc n) (on_bytes (free t u) as_started s) (on_plain (free t u) as_started p)
  same-free t u =
      same-lent (free t u) tt (length-linked (Stepped.free_outcome long v t u).links lent.area) refl
      (free-keeps fed t p u)

  pub same-leave : (t : ℕ) → SameAnswer (suc n) (on_bytes (leave t) as_started s) (on_plain (leave t) as_started p)
  same-leave t =
      same-lent (leave t) tt (length-linked (Stepped.leave_outcome long v t).links lent.area) refl
      (leave-keeps fed t p)

  pub same_step : (t : ℕ) → SameAnswer (suc n) (on_bytes (step t) as_started s) (on_plain (step t) as_started p)
  same_step t =
      same-lent (step t) (near t) (length-linked (Stepped.step_outcome long v (link lent.area) t).links lent.area)
      refl (step_keeps fed t p)

  -- The lost exchanges that a step on the stand tells are those of its request, by the history of the stand's run.
  pub lost-shown : (t : ℕ) → let x = on_bytes (step t) as_started s in
      lost_in x.1 ≡ lost_due (step t) (code_in x.1) (happened (event_of_call (step t) lent) lent p ∷ B.history)
  lost-shown t =
      subst
      (λ (k : ℕ). let x = on_part (step t) (REGION_BYTES * k) s in
      lost_in x.1 ≡ lost_due (step t) (code_in x.1) (happened (event_of_call (step t) lent) lent p ∷ B.history))
      (sym (lent_same B))
      (lost-told B.reached (on_own (step t) (memories_after (effect_of (step t) lent)) _)
      (record { number = refl; control_is = refl; area_is = refl; strips_is = refl }) (near t))
