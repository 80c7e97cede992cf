-- A start keeps the stand on bytes beside the stand over the plain pool.
use Prim.Native.Nat.{ℕ, suc, ◌*◌, ◌≤◌, ◌<◌}
use mathlib.Core.Path.{◌≡◌, refl, sym, ap, subst, ◌∙◌}
use mathlib.Core.Logic.{◌≢◌}
use mathlib.Core.Bool.{Bool, cond}
use mathlib.Core.List.{◌∷◌}
use native.Mathlib.Omega.{arith}
use native.Mathlib.Decide.{dec_lt}
use borrow.Author.Tests.{eq-eqb, ne_eqb, lt-ltb, le-ltb}
use borrow.Rule.Slice.PartMut.{put_mid, put_same}
use lib.Dec.{eqb}
use lib.ListN.{length}
use Rattle.limits.specs.Limits.{REGION_BYTES}
use Rattle.plain.specs.Calls.{Pool, Start, start, Lengths}
use Rattle.plain.specs.Calls as Calls
use Rattle.plain.proofs.CallAnswers.{most}
use Rattle.control.specs.Answers.{code_of, code_in, number_telling}
use Rattle.control.specs.Answers.{Accepted, Allocated, Freed, NoDescriptor, NoRegion}
use Rattle.control.specs.Answers.{NoStrip, Refused}
use Rattle.control.specs.Answers as A
use Rattle.stepped.specs.Outcome.{Effect, Memories, memories_after}
use Rattle.stepped.specs.Calls.{effect_of, lending}
use Rattle.agreement.specs.Ends.{Begins, start_refusals}
use Rattle.agreement.specs.Events.{stepped, whole}
use Rattle.agreement.proofs.BeginningEnds.{start-ends}
use Rattle.agreement.proofs.Lent.{start-leaves}
use Rattle.agreement.specs.Reached.{History, happened, Reached, by_event}
use Rattle.agreement.proofs.Theorem.{reached-agrees}
use Rattle.demands.specs.Acts.{on_other, event_of_call, Number}
use Rattle.demands.proofs.NumberTells.{Tells, told}
use Rattle.demands.proofs.Acting.{shows}
use Rattle.schedule.specs.Stand.{STAND_REGIONS}
use Rattle.schedule.specs.Stand.{named}
use Rattle.schedule.specs.Bytes.{on_part, on_bytes}
use Rattle.schedule.specs.Plain.{answer_number, feeding, regions_fed, on_plain}
use Rattle.stand_agreement.proofs.LentArea.{part_length, part-back, back-length}
use Rattle.stand_agreement.proofs.Fed.{stand_lengths, StartIs, accepted, refused, start_is}
use Rattle.stand_agreement.proofs.Beside.{part_of, Beside, tied, later, SameNumber, tells, same-small}
use Rattle.stand_agreement.proofs.Beside.{SameAnswer}

-- the answer of a start that is not accepted is a refusal
refusal : (a : A.Answer) → Begins start_refusals a → code_of a ≢ 0 → (n : ℕ) × (a ≡ Refused n)
refusal Accepted b h = absurd (h refl)
refusal (Allocated u) b h = absurd b
refusal Freed b h = absurd b
refusal NoDescriptor b h = absurd b
refusal NoRegion b h = absurd b
refusal NoStrip b h = absurd b
refusal (Refused n) b h = (n, refl)

module _ {n : ℕ} {s : Memories} {p : Pool} (B : Beside n s p) (b : Start) (regions : ℕ)
    (few : regions ≤ STAND_REGIONS) where
  abbrev lent : Memories
  lent = part_of regions s

  abbrev e : Effect
  e = effect_of (start b) lent

  abbrev r : ℕ
  r = number_telling e.answer e.lost

  abbrev left : Memories
  left = memories_after e

  abbrev before : Memories
  before = part_of (regions_fed p) s

  abbrev lengths : Lengths
  lengths = stand_lengths regions

  part-is : length lent.area ≡ REGION_BYTES * regions
  part-is = part_length (REGION_BYTES * regions) s.area (omega (arith, few, B.area_is))

  fed : whole (event_of_call (start b) lent) p ≡ Calls.plain_call (start b) lengths p
  fed =
      λ i. Calls.plain_call (start b) (record { control = (tied B).length i; area = part-is i; strips = B.strips_is i })
      p

  -- the number tells the start's code, and no lost exchanges
  told-number : Tells r e
  told-number =
      told (start b) lent left r (record { number = refl; control_is = refl; area_is = refl; strips_is = refl })

  -- what the stepped run and the whole run have of it
  answered : Number r (Calls.plain_call (start b) lengths p).1
  answered =
      let S =
      shows (on_other (start b) lent left r) before
      (record { number = refl; control_is = refl; area_is = refl; strips_is = refl }, tt) in
      let A = reached-agrees B.history before p B.reached (event_of_call (start b) lent) tt in
      subst (Number r) (A.0.says ∙ ap (λ x. x.1) fed) S.answers

  number_same : SameNumber r (answer_number (Calls.plain_call (start b) lengths p).1)
  number_same = tells answered

  abbrev H : History
  H = happened (event_of_call (start b) lent) before p ∷ B.history

  reached-after : Reached H (cond (eqb r 0) left before) (Calls.plain_call (start b) lengths p).0
  reached-after =
      let S =
      shows (on_other (start b) lent left r) before
      (record { number = refl; control_is = refl; area_is = refl; strips_is = refl }, tt) in
      subst (λ (z : Memories). Reached H z (Calls.plain_call (start b) lengths p).0) S.leaves
      (subst (λ x. Reached H (stepped (event_of_call (start b) lent) before).0 x.0) fed
      (by_event B.reached (event_of_call (start b) lent) tt))

  answers : Begins start_refusals e.answer
  answers = (start-ends b (lending lent) lent).answers

  abbrev s' : Memories
  s' = (on_part (start b) (REGION_BYTES * regions) s).0

  abbrev p' : Pool
  p' = (Calls.plain_call (start b) lengths p).0

  accepted-beside : r ≡ 0 → 1 ≤ p'.tasks → p'.regions ≡ regions → Beside (suc n) s' p'
  accepted-beside h k g =
      let kept = start-leaves b (lending lent) lent (sym told-number.code ∙ ap code_in h) in
      let long : length e.area ≡ REGION_BYTES * regions = ap length kept.0 ∙ part-is in
      let q : regions_fed p' ≡ regions =
      ap (λ (b : Bool). cond b 0 p'.regions) (ne_eqb p'.tasks 0 (λ z. omega arith)) ∙ g in
      let back : part_of regions s' ≡ left =
      λ i. record {
        control = e.control;
        area = part-back (REGION_BYTES * regions) s.area e.area long i;
        strips = e.strips;
      } in
      record {
        area_is =
            back-length (REGION_BYTES * regions) s.area e.area (omega (arith, few, B.area_is)) long ∙ B.area_is;
        strips_is = ap length kept.1 ∙ B.strips_is;
        few = omega (arith, few, q);
        history = H;
        reached =
            subst (λ (z : Memories). Reached H z p')
            (ap (λ (b : Bool). cond b left before) (eq-eqb r 0 h) ∙ sym (ap (λ (k : ℕ). part_of k s') q ∙ back))
            reached-after;
        most-won = most n (start b) lengths p B.most-won;
      }

  refused-beside : code_of e.answer ≢ 0 → p' ≡ p → Beside (suc n) s' p'
  refused-beside h k =
      let R = refusal e.answer answers h in
      let L = (start-ends b (lending lent) lent).leaves R.0 R.1 in
      let back : Memories → Memories =
      λ m. record {
        control = m.control;
        area = put_mid 0 (REGION_BYTES * regions) s.area m.area;
        strips = m.strips;
      } in
      let same : s ≡ s' =
      sym (ap back L
      ∙ (λ i. record {
        control = s.control;
        area = put_same 0 (REGION_BYTES * regions) s.area i;
        strips = s.strips;
      })) in
      subst (λ (z : Memories). Beside (suc n) z p') same
      (subst (λ (z : Pool). Beside (suc n) s z) (sym k) (later (omega arith) B))

  by : StartIs regions p (Calls.plain_call (start b) lengths p) → Beside (suc n) s' p'
  by (accepted z k g) = accepted-beside (number_same.none z) k g
  by (refused z k) = refused-beside (λ h. z (sym answered.code ∙ told-number.code ∙ h)) k

  pub same-lent : SameAnswer (suc n) (on_part (start b) (REGION_BYTES * regions) s)
      (feeding (start b) (REGION_BYTES * regions) p)
  same-lent = record { number = number_same; beside = by (start_is b regions p) }

-- "more than 4 regions is 2", in both
pub same_start : {n : ℕ} {s : Memories} {p : Pool} → Beside n s p → (b : Start) (regions : ℕ)
    → SameAnswer (suc n) (on_bytes (start b) (named regions) s) (on_plain (start b) (named regions) p)
same_start {n} {s} {p} B b regions = by-regions (dec_lt STAND_REGIONS regions)
  where
    by-regions : Dec (STAND_REGIONS < regions)
        → SameAnswer (suc n) (on_bytes (start b) (named regions) s) (on_plain (start b) (named regions) p)
    by-regions (yes h) =
        rw (lt-ltb STAND_REGIONS regions h)
        (record { number = same-small 2 (omega arith); beside = later (omega arith) B })
    by-regions (no h) = rw (le-ltb STAND_REGIONS regions (omega arith)) (same-lent B b regions (omega arith))
