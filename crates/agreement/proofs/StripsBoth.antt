-- The steps of a strip's request, and the beginning of its free, in both pools.
use mathlib.Core.Path.{◌≡◌, refl, sym, ap, subst, subst⁻¹, ◌∙◌}
use mathlib.Core.Bool.{true, ◌&&◌}
use mathlib.Core.List.{List, [], ◌∷◌}
use Prim.Native.Nat.{ℕ, ◌+◌, ◌-◌, ◌%◌, ◌<◌}
use native.Mathlib.Omega.{arith}
use native.Mathlib.Decide.{dec_lt}
use borrow.Author.Tests.{eq-eqb, ne_eqb, le-leb, lt-leb, lt-ltb, ltb-true}
use lib.Dec.{eqb, leb, ltb}
use Rattle.limits.specs.Limits.{ORDERS, SLOTS, SLOT_UNITS, UNITS, BOTH_UNITS, WHOLE_ORDER}
use Rattle.rows.specs.Update.{update}
use Rattle.fields.specs.Columns.{View, ◌:=◌, assigned}
use Rattle.pieces.specs.Pieces.{free, held, begun, Pieces}
use Rattle.pieces.specs.Strips.{StripTaken, none_found, strip_at, take_strip, StripStart, nowhere, here, strip_starts}
use Rattle.pieces.specs.Strips.{free_begun, give_strip}
use Rattle.pieces.specs.StripUnits.{strip_unit, slot_of_unit, is_strip_unit}
use Rattle.strip_tree.specs.declared.tree.Tree.{Tree}
use Rattle.std.specs.declared.option.Option.{Option}
use Rattle.std.specs.declared.option.Option.TheVariants.{None, Some}
use Rattle.strip_tree.specs.declared.find.Found.{Found}
use Rattle.strip_tree.specs.Trees.{without_free}
use Rattle.strip_tree.specs.TreeMoves.{find, found_at, halving, joining, node_of, slot_of_node, can_begin}
use Rattle.strip_tree.specs.SlotStates.{IN_HAND, FREE_BEGUN, LAST_BYTE, order_in}
use Rattle.strip_tree.proofs.NoFreeNodes.{found-once, found-none}
use Rattle.strips_agreement.specs.TreeFollows.{Follows}
use Rattle.strips_agreement.specs.StripsAgree.{TakeAgrees, BegunAgrees, StartAgrees}
use Rattle.strips_agreement.proofs.StripsAgree.{take-agrees, start-agrees}
use Rattle.plain.specs.State.{Place, idle, strip-take, strip-give, working, Mem, Task, set_task, set_strips}
use Rattle.plain.specs.Requests.{frees_strip}
use Rattle.plain.specs.Steps as Steps
use Rattle.plain.specs.Calls as Plain
use Rattle.plain.specs.Invariant.{StripsHold}
use Rattle.plain.proofs.PlaceAlone.{task_of, place_holds}
use Rattle.control.specs.Layout.{SlotByte, TaskPlace, TaskClass, TaskUnit}
use Rattle.control.specs.Places.{IDLE, STRIP_GIVE}
use Rattle.stepped.specs.Outcome.{refuse}
use Rattle.stepped.specs.Calls as Stepped
use Rattle.stepped.specs.StripSteps as Strips
use Rattle.stepped.specs.StripSteps.{tree_of, tree_writes}
use Rattle.agreement.specs.Contents.{slot_of, contents_of}
use Rattle.agreement.specs.Relation.{Related, r_idle, r_working, r_strip_give}
use Rattle.agreement.proofs.BothPass.{both_true}
use Rattle.agreement.proofs.Slots.{to_place, to_request}
use Rattle.agreement.proofs.AssignedContents.{slot-written, strip-written}
use Rattle.agreement.proofs.TurnInBoth.{mine}
use Rattle.agreement.proofs.TaskBlocks.{re-slot}
use Rattle.agreement.proofs.Both.{Both, pass, meet, miss, decide}
use Rattle.agreement.proofs.Turns.{At, goes}
use Rattle.agreement.proofs.TurnWrites.{strips-written}
use Rattle.agreement.proofs.BeginsBoth.{refusal, small-both}
use Rattle.agreement.proofs.SoundStrips as Sound

-- ---- the unit of a slot

-- the unit where the slot q begins is one, and names that slot
pub unit-is : (q : ℕ) → q < SLOTS → is_strip_unit (strip_unit q) ≡ true
unit-is q l =
    both_true
    (both_true (le-leb UNITS (strip_unit q) (omega arith)) (lt-ltb (strip_unit q) BOTH_UNITS (omega arith)))
    (eq-eqb (strip_unit q % SLOT_UNITS) 0 (omega arith))

pub slot_is : (q : ℕ) → slot_of_unit (strip_unit q) ≡ q
slot_is q = omega arith

module _ {regions : ℕ} {v : View} {area : List ℕ} {m : Mem} {t : ℕ} {p : Place} {k : ℕ → List ℕ}
    (w : At regions v area m t p k) where
  -- the bytes of the slots
  abbrev byte : ℕ → ℕ
  byte s = v (SlotByte s)

  follows : Follows (tree_of v) byte m.strips
  follows = w.pair.rel.core.strips

  -- the task is idle, the byte of the slot s is x, and the tree is another: these follow the pieces q
  idle-after : (s x : ℕ) (tree : Tree) (q : Pieces WHOLE_ORDER) → Follows tree (update byte s x) q
      → Related regions (contents_of (assigned (TaskPlace t := IDLE ∷ SlotByte s := x ∷ tree_writes tree) v) area)
      (Steps.at_place t k idle (set_strips q m))
  idle-after s x tree q F =
      let v₁ = assigned (TaskPlace t := IDLE ∷ SlotByte s := x ∷ tree_writes tree) v in
      let z = to_place IDLE (slot_of v t) in
      strips-written w v₁ z (task_of idle k) tree (update byte s x) q
      (record {
        shared = strip-written v (slot_of v₁) area s x tree;
        own = rw (eq-eqb t t refl);
        others = λ j n. rw (ne_eqb t j n);
      })
      F (re-slot w.pair _ _ z idle refl (mine w.pair).fits refl (r_idle refl))

  -- ---- the step that takes a strip

  taken : (i j : ℕ) (q : Pieces WHOLE_ORDER) → find (tree_of v) (v (TaskClass t)) ≡ found_at i j
      → v (TaskClass t) < ORDERS
      → Follows (halving (without_free (tree_of v) i) (j - v (TaskClass t)) i)
      (update byte (slot_of_node j i) (IN_HAND + v (TaskClass t))) q
      → Both regions v area m (Strips.strip_take_at v t (v (TaskClass t)) i j)
      (Steps.strip_take_step t k (strip_at (slot_of_node j i) q) m)
  unfolding Strips.strip_take_at
  taken i j q e few F = record {
    says = refl;
    keeps = (refl, refl);
    rel = idle-after (slot_of_node j i) (IN_HAND + v (TaskClass t)) _ q F;
    sound = (Sound.take_found v w.fitting w.pair.turn.fits few (found_at i j) e).sound;
    apart = tt;
  }

  take_by : (x : StripTaken) (f : Option Found) → find (tree_of v) (v (TaskClass t)) ≡ f
      → v (TaskClass t) < ORDERS → TakeAgrees (tree_of v) byte (v (TaskClass t)) x
      → Both regions v area m (Strips.strip_take_by v t (v (TaskClass t)) f) (Steps.strip_take_step t k x m)
  take_by none_found (Some f) e few A = found-none (sym e ∙ A)
  take_by none_found None e few A = record {
    says = refl;
    keeps = (refl, refl);
    rel =
        goes w (TaskPlace t := IDLE ∷ []) (to_place IDLE (slot_of v t)) idle refl (rw (eq-eqb t t refl))
        (λ j n. rw (ne_eqb t j n)) refl refl (r_idle refl);
    sound = omega (arith, w.pair.turn.fits);
    apart = tt;
  }
  take_by (strip_at s q) None e few A = found-none (sym A.found ∙ e)
  take_by (strip_at s q) (Some f) e few A =
      let i = f.node in
      let j = f.order in
      let y = found-once (sym A.found ∙ e) in
      let a = y.0 in
      let b = y.1 in
      let here : slot_of_node j i ≡ s = rw (a, b) at A.slot in
      let tree = halving (without_free (tree_of v) i) (j - v (TaskClass t)) i in
      let F : Follows tree (update byte s (IN_HAND + v (TaskClass t))) q = rw (a, b) at A.after in
      let F' : Follows tree (update byte (slot_of_node j i) (IN_HAND + v (TaskClass t))) q =
      subst⁻¹ (λ (n : ℕ). Follows tree (update byte n (IN_HAND + v (TaskClass t))) q) here F in
      subst
      (λ (n : ℕ). Both regions v area m (Strips.strip_take_at v t (v (TaskClass t)) i j)
      (Steps.strip_take_step t k (strip_at n q) m))
      here
      (taken i j q e few F')

-- a strip is taken, or none is found
pub strip-take-both : {regions : ℕ} {v : View} {area : List ℕ} {m : Mem} {t : ℕ} {k : ℕ → List ℕ}
    → At regions v area m t (working (strip-take (v (TaskClass t)))) k
    → Both regions v area m (Strips.strip_take v t (v (TaskClass t)))
    (Steps.step_at t k (strip-take (v (TaskClass t))) m)
unfolding Strips.strip_take
strip-take-both {v = v} {m = m} {t = t} w =
    let c = v (TaskClass t) in
    let few : c < ORDERS = place_holds w.pair.turn in
    pass (ltb c ORDERS) (lt-ltb c ORDERS few)
    (take_by w (take_strip c m.strips) (find (tree_of v) c) refl few
    (take-agrees (tree_of v) (byte w) m.strips (follows w) c few))

-- ---- the step that gives a strip back

module _ {regions : ℕ} {v : View} {area : List ℕ} {m : Mem} {t : ℕ} {k : ℕ → List ℕ} {q : ℕ}
    (w : At regions v area m t (working (strip-give q)) k) (H : StripsHold m) where
  fits : q < SLOTS
  fits = place_holds w.pair.turn

  -- its free has begun
  freed : (j : ℕ) × (strip_starts m.strips q ≡ here j (begun t))
  freed =
      H.begun_by t q w.pair.turn.fits (ap (λ (T : Task). frees_strip T.place) w.pair.turn.is)

  agrees : (j : ℕ) → strip_starts m.strips q ≡ here j (begun t) → BegunAgrees (tree_of v) (byte w) m.strips q j
  agrees j e =
      subst (StartAgrees (tree_of v) (byte w) m.strips q) e
      (start-agrees (tree_of v) (byte w) m.strips (follows w) q fits)

  give_at : (j : ℕ) → BegunAgrees (tree_of v) (byte w) m.strips q j
      → Both regions v area m (Strips.strip_give_at v t q) (Steps.step_at t k (strip-give q) m)
  unfolding Strips.strip_give_at
  give_at j A =
      let x = v (SlotByte q) in
      let o : order_in x ≡ j = omega (arith, A.is, A.order) in
      let d : can_begin q (order_in x) ≡ true = subst⁻¹ (λ (n : ℕ). can_begin q n ≡ true) o A.aligned in
      let F : Follows (joining (tree_of v) (WHOLE_ORDER - order_in x) (node_of (order_in x) q)) (update (byte w) q 0)
      (give_strip q m.strips) =
      subst⁻¹ (λ (n : ℕ). Follows (joining (tree_of v) (WHOLE_ORDER - n) (node_of n q)) (update (byte w) q 0)
      (give_strip q m.strips)) o A.after in
      pass (leb FREE_BEGUN x && leb x LAST_BYTE && can_begin q (order_in x))
      (both_true
      (both_true (le-leb FREE_BEGUN x (omega (arith, A.is))) (le-leb x LAST_BYTE (omega (arith, A.is, A.order))))
      d)
      (record {
        says = refl;
        keeps = (refl, refl);
        rel = idle-after w q 0 _ (give_strip q m.strips) F;
        sound = Sound.given-sound v w.fitting w.pair.turn.fits q fits;
        apart = tt;
      })

  pub strip-give-both : v (TaskUnit t) ≡ strip_unit q
      → Both regions v area m (Strips.strip_give v t) (Steps.step_at t k (strip-give q) m)
  unfolding Strips.strip_give
  strip-give-both e =
      pass (is_strip_unit (v (TaskUnit t))) (ap is_strip_unit e ∙ unit-is q fits)
      (subst (λ (n : ℕ). Both regions v area m (Strips.strip_give_at v t n) (Steps.step_at t k (strip-give q) m))
      (sym (ap slot_of_unit e ∙ slot_is q))
      (give_at freed.0 (agrees freed.0 freed.1)))

-- ---- the beginning of a strip's free, by an idle task

module _ {regions : ℕ} {v : View} {area : List ℕ} {m : Mem} {t : ℕ} {k : ℕ → List ℕ}
    (w : At regions v area m t idle k) where
  cache-is : (m.task t).cache ≡ k
  cache-is = ap (λ (T : Task). T.cache) w.pair.turn.is

  -- the strip at the slot s, by what starts there
  begin-by : (u s : ℕ) → u ≡ strip_unit s → s < SLOTS → (x : StripStart) → strip_starts m.strips s ≡ x
      → StartAgrees (tree_of v) (byte w) m.strips s x
      → Both regions v area m (Strips.begin_free_at v t u s) (Plain.free_strip_at x t s m)
  unfolding Strips.begin_free_at
  begin-by u s e l nowhere h A =
      meet _ (eqb (v (SlotByte s)) 0) (eq-eqb (v (SlotByte s)) 0 A) (refusal w.pair.rel 10)
  begin-by u s e l (here j free) h A = absurd A
  begin-by u s e l (here j (begun z)) h A =
      let x = v (SlotByte s) in
      let o : order_in x ≡ j = omega (arith, A.is, A.order) in
      miss (refuse 10) (eqb x 0) (ne_eqb x 0 (omega (arith, A.is)))
      (pass (leb x LAST_BYTE && can_begin s (order_in x))
      (both_true (le-leb x LAST_BYTE (omega (arith, A.is, A.order)))
      (subst⁻¹ (λ (n : ℕ). can_begin s n ≡ true) o A.aligned))
      (meet _ (leb FREE_BEGUN x) (le-leb FREE_BEGUN x (omega (arith, A.is))) (refusal w.pair.rel 11)))
  begin-by u s e l (here j held) h A =
      let x = v (SlotByte s) in
      let o : order_in x ≡ j = omega (arith, A.is, A.order) in
      let z = to_request STRIP_GIVE (v (TaskClass t)) u (slot_of v t) in
      let v₁ = assigned (TaskPlace t := STRIP_GIVE ∷ TaskUnit t := u ∷ SlotByte s := (x + ORDERS) ∷ []) v in
      let T : Task = task_of (working (strip-give s)) k in
      let F : Follows (tree_of v) (update (byte w) s (x + ORDERS)) (free_begun t s m.strips) =
      subst (λ (n : ℕ). Follows (tree_of v) (update (byte w) s n) (free_begun t s m.strips))
      (omega (arith, A.is)) (A.after t) in
      miss (refuse 10) (eqb x 0) (ne_eqb x 0 (omega (arith, A.is)))
      (pass (leb x LAST_BYTE && can_begin s (order_in x))
      (both_true (le-leb x LAST_BYTE (omega (arith, A.is, A.order)))
      (subst⁻¹ (λ (n : ℕ). can_begin s n ≡ true) o A.aligned))
      (miss (refuse 11) (leb FREE_BEGUN x) (lt-leb FREE_BEGUN x (omega (arith, A.is, A.order)))
      (record {
        says = refl;
        keeps = (refl, refl);
        rel =
            subst
            (λ (c : ℕ → List ℕ). Related regions (contents_of v₁ area)
            (set_task t (task_of (working (strip-give s)) c) (set_strips (free_begun t s m.strips) m)))
            (sym cache-is)
            (strips-written w v₁ z T (tree_of v) (update (byte w) s (x + ORDERS)) (free_begun t s m.strips)
            (record {
              shared = slot-written v (slot_of v₁) area s (x + ORDERS);
              own = rw (eq-eqb t t refl);
              others = λ i n. rw (ne_eqb t i n);
            })
            F (re-slot w.pair _ _ z (working (strip-give s)) refl
            (mine w.pair).fits refl (r_working (r_strip_give refl e))));
        sound = omega (arith, w.pair.turn.fits, l, e, A.is, A.order);
        apart = tt;
      })))

  -- "A unit from 8,192 where no strip starts is 10, and one whose free has begun is 11"
  pub begin-strip-both : (u : ℕ) → Both regions v area m (Strips.begin_free_strip v t u) (Plain.begin_free_strip t u m)
  unfolding Strips.begin_free_strip
  begin-strip-both u =
      decide (is_strip_unit u) (Plain.strip_unit? u)
      (λ e. let k = Sound.unit-slot u e in (k.0, (k.1, k.2)))
      (λ q. both_true (both_true (le-leb UNITS u q.0) (lt-ltb u BOTH_UNITS q.1.0))
      (eq-eqb (u % SLOT_UNITS) 0 q.1.1))
      (λ e q. begin-by u (slot_of_unit u) (omega (arith, q.0, q.1.1)) (Sound.unit-slot u e).3
      (strip_starts m.strips (slot_of_unit u)) refl
      (start-agrees (tree_of v) (byte w) m.strips (follows w) (slot_of_unit u) (Sound.unit-slot u e).3))
      (λ e q. refusal w.pair.rel 10)

-- the beginning of a free: a small block below the unit 8,192, else a strip
pub free-both : {regions : ℕ} {v : View} {area : List ℕ} {m : Mem} {t : ℕ} {k : ℕ → List ℕ}
    (w : At regions v area m t idle k) (u : ℕ)
    → Both regions v area m (Stepped.begin_free v regions t u) (Plain.begin_free t u regions m)
unfolding Stepped.begin_free
free-both w u =
    decide (ltb u UNITS) (dec_lt u UNITS) (ltb-true u UNITS) (lt-ltb u UNITS) (λ e l. small-both w u)
    (λ e l. begin-strip-both w u)
