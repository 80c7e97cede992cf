-- What a list of events answers in each run; and how a list is seen to meet the premises by running the plain pool.
use mathlib.Core.Path.{◌≡◌, refl, ap, ◌∙◌}
use mathlib.Core.List.{List, [], ◌∷◌}
use Prim.Native.Nat.{ℕ, suc, ◌+◌, ◌*◌, ◌/◌, ◌≤◌, ◌<◌}
use native.Mathlib.Omega.{arith}
use native.Mathlib.Decide.{dec_lt, dec_le}
use lib.ListN.{length}
use Rattle.limits.specs.Limits.{UNIT_BYTES, TAGS}
use Rattle.rows.specs.Branch.{both}
use Rattle.classes.specs.Classes.{block}
use Rattle.classes.specs.Geometry.{unit_of, region_of, index_of}
use Rattle.plain.specs.State.{Phase, read, next, exchange}
use Rattle.plain.specs.Noted.{Noted, unnoted, pop_noted, push_noted, anchor_noted, entry_noted, noted}
use Rattle.plain.specs.Moves.{Answer}
use Rattle.plain.specs.Steps.{pop_list, push_list}
use Rattle.plain.specs.Calls as Plain
use Rattle.plain.specs.Calls.{Pool, Start, unstarted, Call, start, allocate, free, leave, step, Lengths}
use Rattle.plain.specs.Codes.{AtMost}
use Rattle.plain.proofs.CallAnswers.{most}
use Rattle.stepped.specs.Outcome.{Memories}
use Rattle.agreement.specs.Events.{Event, write, stepped, whole, Recent, Near, class_there}
use Rattle.agreement.specs.Events.{Premises, Unstarted, call, CallPremise}
use Rattle.stepped.specs.Calls.{Lent, lengths}
use Rattle.agreement.specs.Reached.{starting}
use Rattle.agreement.specs.Agreement.{Agree}
use Rattle.agreement.proofs.Theorem.{agreement, agreement-from-start}
use Rattle.limits.specs.Limits.{STRIPS_BYTES, SLOT_BYTES}
use Rattle.pieces.specs.Pieces.{free as free_piece, held as held_piece, begun}
use Rattle.pieces.specs.StripSlots.{SlotHolds, vacant, within, slot_holds}
use Rattle.pieces.proofs.SlotStrips.{strip-of}
use Rattle.agreement.specs.Events.{write_strip, InStrip}
use Prim.Native.Nat.{◌-◌}

-- ---- the answers

-- what each event of the list answers in the stepped run, and in the whole run
abbrev pub stepped_answers : List Event → Memories → List Answer
stepped_answers [] s = []
stepped_answers (e ∷ es) s = (stepped e s).1 ∷ stepped_answers es (stepped e s).0

abbrev pub whole_answers : List Event → Pool → List Answer
whole_answers [] s = []
whole_answers (e ∷ es) s = (whole e s).1 ∷ whole_answers es (whole e s).0

-- runs that agree answer alike
same-answers : (es : List Event) (s₁ : Memories) (s : Pool) → Agree es s₁ s → stepped_answers es s₁ ≡ whole_answers es s
same-answers [] s₁ s A = refl
same-answers (e ∷ es) s₁ s A =
    ap (λ (a : Answer). a ∷ stepped_answers es (stepped e s₁).0) A.0.0.says
    ∙ ap (λ (q : List Answer). (whole e s).1 ∷ q) (same-answers es (stepped e s₁).0 (whole e s).0 A.1)

-- from a pool that is not started, under the premises, the stepped run answers what the whole run does
pub answered : (es : List Event) (s₁ : Memories) → Unstarted s₁ → Premises es unstarted
    → stepped_answers es s₁ ≡ whole_answers es unstarted
answered es s₁ U p = same-answers es s₁ unstarted (agreement es s₁ U p)

-- from an accepted start on any memories, under the premises, the stepped run answers what the whole run does
pub answered-from-start : (es : List Event) (s₁ : Memories) (s : Pool) (b : Start) (lent : Lent)
    → Plain.StartTested b (lengths lent) → Premises es (whole (starting b lent) s).0
    → stepped_answers (starting b lent ∷ es) s₁ ≡ whole_answers (starting b lent ∷ es) s
answered-from-start es s₁ s b lent T p =
    same-answers (starting b lent ∷ es) s₁ s (agreement-from-start es s₁ s b lent T p)

-- the plain pool after a list of events
abbrev pub after : List Event → Pool → Pool
after [] s = s
after (e ∷ es) s = after es (whole e s).0

-- ---- the premise on heads

-- a head that has changed fewer than 2^32 times in all has not changed 2^32 times since a task's read
recent : (won : ℕ) (φ : Phase) → won < TAGS → Recent won φ
recent won read h = tt
recent won (next n) h = tt
recent won (exchange n) h = omega arith

near : (won : ℕ → ℕ) (n : Noted) → ((ℓ : ℕ) → won ℓ < TAGS) → Near won n
near won unnoted h = tt
near won (pop_noted p φ) h = recent (won (pop_list p)) φ (h (pop_list p))
near won (push_noted p φ) h = recent (won (push_list p)) φ (h (push_list p))
near won (anchor_noted d n) h = tt
near won (entry_noted y d n) h = tt

-- no call of a pool whose lists have won fewer than 2^32 exchanges each fails its premise
call-near : (k : Call) (lent : Lengths) (s : Pool) → (1 ≤ s.tasks → (ℓ : ℕ) → s.mem.won ℓ < TAGS)
    → CallPremise k lent s
call-near (start b) lent s h = tt
call-near (allocate t size) lent s h = tt
call-near (free t u) lent s h = tt
call-near (leave t) lent s h = tt
call-near (step t) lent s h = λ T. near s.mem.won (noted (s.mem.task t).place) (h T.started)

-- ---- the premise on users' writes

-- the block that the byte lies in, by the class of its region
abbrev pub block_at : ℕ → Pool → ℕ
block_at at s =
    let c = class_there (at / UNIT_BYTES) s in unit_of (region_of (at / UNIT_BYTES)) c (index_of c (at / UNIT_BYTES))

-- the block that the byte lies in, by the class of its region, is in a user's hands, and has the byte
abbrev pub ByteHeld : ℕ → Pool → Type 0
ByteHeld at s =
    let u = block_at at s in
    (1 ≤ s.tasks) × ((1 ≤ s.mem.hands u) × ((UNIT_BYTES * u ≤ at) × (at < UNIT_BYTES * u + block (class_there u s))))

-- the strip that the byte of the strips' memory lies in, by what its slot is in, is in a user's hands
abbrev pub InHeld : SlotHolds → Type 0
InHeld vacant = ⊥
InHeld (within a k free_piece) = ⊥
InHeld (within a k held_piece) = Unit {0}
InHeld (within a k (begun t)) = ⊥

abbrev pub StripByteHeld : ℕ → Pool → Type 0
StripByteHeld at s = (1 ≤ s.tasks) × ((at < STRIPS_BYTES) × InHeld (slot_holds 0 s.mem.strips (at / SLOT_BYTES)))

-- every write of the list is into a block or a strip in a user's hands
abbrev pub WritesHeld : List Event → Pool → Type 0
WritesHeld [] s = Unit {0}
WritesHeld (call k lent ∷ es) s = WritesHeld es (whole (call k lent) s).0
WritesHeld (write at b ∷ es) s = ByteHeld at s × WritesHeld es s
WritesHeld (write_strip at b ∷ es) s = StripByteHeld at s × WritesHeld es s

abbrev pub in_held? : (x : SlotHolds) → Dec (InHeld x)
in_held? vacant = no (λ h. h)
in_held? (within a k free_piece) = no (λ h. h)
in_held? (within a k held_piece) = yes tt
in_held? (within a k (begun t)) = no (λ h. h)

-- such a byte is in a strip in a user's hands
strip-held : (at : ℕ) (s : Pool) → StripByteHeld at s → InStrip at s
strip-held at s h = by (slot_holds 0 s.mem.strips (at / SLOT_BYTES)) refl h.1.1
  where
    by : (x : SlotHolds) → slot_holds 0 s.mem.strips (at / SLOT_BYTES) ≡ x → InHeld x → InStrip at s
    by vacant e k = absurd k
    by (within a o free_piece) e k = absurd k
    by (within a o held_piece) e k =
        let S = strip-of 0 s.mem.strips (at / SLOT_BYTES) a o held_piece (omega (arith, h.1.0)) e in
        record {
          started = h.0;
          slot = a - 0;
          order = o;
          held = S.starts;
          from = omega (arith, S.from);
          to = omega (arith, S.to);
        }
    by (within a o (begun t)) e k = absurd k

-- whether every write of the list is into a block or a strip in a user's hands is found by running the plain pool
unfoldable pub writes_held? : (es : List Event) (s : Pool) → Dec (WritesHeld es s)
writes_held? [] s = yes tt
writes_held? (call k lent ∷ es) s = writes_held? es (whole (call k lent) s).0
writes_held? (write at b ∷ es) s =
    let u = block_at at s in
    both
    (both (dec_le 1 s.tasks)
    (both (dec_le 1 (s.mem.hands u))
    (both (dec_le (UNIT_BYTES * u) at) (dec_lt at (UNIT_BYTES * u + block (class_there u s))))))
    (writes_held? es s)
writes_held? (write_strip at b ∷ es) s =
    both
    (both (dec_le 1 s.tasks)
    (both (dec_lt at STRIPS_BYTES) (in_held? (slot_holds 0 s.mem.strips (at / SLOT_BYTES)))))
    (writes_held? es s)

-- the answer of a test is yes
abbrev pub Yes : {P : Type 0} → Dec P → Type 0
Yes (yes p) = Unit {0}
Yes (no n) = ⊥

pub found : {P : Type 0} (d : Dec P) → Yes d → P
found (yes p) h = p
found (no n) h = absurd h

-- ---- both premises

-- A list of events that ends before the 2^32nd, counted from the last start, meets the premise on heads; so what is
-- left to ask is that of the writes. No list of the pool s has won more than n exchanges.
pub short : (n : ℕ) (es : List Event) (s : Pool) → AtMost n s → n + length es ≤ TAGS → WritesHeld es s → Premises es s
short n [] s a l w = tt
short n (call k lent ∷ es) s a l w = (
  call-near k (lengths lent) s (λ h ℓ. omega (arith, a h ℓ)),
  short (suc n) es _ (most n k (lengths lent) s a) (omega arith) w,
)
short n (write at b ∷ es) s a l w = (
  record {
    started = w.0.0;
    unit = block_at at s;
    held = omega (arith, w.0.1.0);
    from = w.0.1.1.0;
    to = omega (arith, w.0.1.1.1);
  },
  short (suc n) es s (λ h ℓ. omega (arith, a h ℓ)) (omega arith) w.1,
)
short n (write_strip at b ∷ es) s a l w =
    (strip-held at s w.0, short (suc n) es s (λ h ℓ. omega (arith, a h ℓ)) (omega arith) w.1)
