-- A task's turn that changes its own part alone, as where it loses an exchange, and what stands in its cache's fields.
use mathlib.Core.Path.{◌≡◌, refl, sym, subst, ◌∙◌}
use mathlib.Core.Logic.{◌≢◌}
use mathlib.Core.List.{List, [], ◌∷◌}
use Prim.Native.Nat.{ℕ, ◌<◌}
use native.Mathlib.Omega.{arith}
use native.Mathlib.Decide.{dec_lt}
use borrow.Author.Tests.{eq-eqb, ne_eqb}
use lib.ListN.{length}
use Rattle.limits.specs.Limits.{CLASSES}
use Rattle.rows.proofs.Branch.{if_yes}
use Rattle.fields.specs.Columns.{View, Write, ◌:=◌, assigned}
use Rattle.plain.specs.State.{Place, Mem}
use Rattle.plain.specs.Moves.{Decided, going}
use Rattle.plain.specs.Steps.{at_place}
use Rattle.plain.proofs.PlaceAlone.{task_of}
use Rattle.control.specs.Layout.{CacheTop, CacheCount, TaskPlace, TaskClass, TaskLost}
use Rattle.control.specs.Losts.{one_more}
use Rattle.control.proofs.OneMoreLost.{more-fits}
use Rattle.stepped.specs.Outcome.{lose}
use Rattle.agreement.specs.Contents.{Slot, Contents, slot_of, contents_of}
use Rattle.agreement.specs.Relation.{PlaceRelated, Related}
use Rattle.agreement.proofs.Sets.{with_slots, set_slot}
use Rattle.agreement.proofs.Slots.{to_place}
use Rattle.agreement.proofs.AssignedContents.{becomes}
use Rattle.agreement.proofs.TurnInBoth.{Pair, mine, quiet}
use Rattle.agreement.proofs.TaskBlocks.{re-slot}
use Rattle.agreement.proofs.Both.{Both, Fitting}

-- the turn of the task t, which is at the place p with the caches k, where the view is v
pub record At (regions : ℕ) (v : View) (area : List ℕ) (m : Mem) (t : ℕ) (p : Place) (k : ℕ → List ℕ) : Type 0 where
  pub pair : Pair regions (contents_of v area) m t p k
  pub fitting : Fitting v

module _ {regions : ℕ} {v : View} {area : List ℕ} {m : Mem} {t : ℕ} {p : Place} {k : ℕ → List ℕ}
    (w : At regions v area m t p k) where
  -- the writes ws change the task's own part alone, to s, and not its caches: it goes to the place p'
  pub goes : (ws : List Write) (s : Slot) (p' : Place)
      → contents_of (assigned ws v) area ≡ with_slots (slot_of (assigned ws v)) (contents_of v area)
      → slot_of (assigned ws v) t ≡ s → ((j : ℕ) → t ≢ j → slot_of (assigned ws v) j ≡ slot_of v j)
      → s.class ≡ (slot_of v t).class → s.caches ≡ (slot_of v t).caches
      → PlaceRelated regions (set_slot t s (contents_of v area)) (at_place t k p' m) s p'
      → Related regions (contents_of (assigned ws v) area) (at_place t k p' m)
  goes ws s p' e own others f g pl =
      subst (λ (z : Contents). Related regions z (at_place t k p' m))
      (sym (becomes v (assigned ws v) area t s (contents_of v area) e refl own others))
      (quiet w.pair s (task_of p' k) (re-slot w.pair _ _ s p' refl (rw f (mine w.pair).fits) g pl))

  -- a lost exchange: the place and the count alone change, and the count is no part of what is compared
  pub loses : (e : Decided) (b : ℕ) (p' : Place) → b < 256
      → PlaceRelated regions (set_slot t (to_place b (slot_of v t)) (contents_of v area)) (at_place t k p' m)
      (to_place b (slot_of v t)) p'
      → Both regions v area m (lose v t e b) (at_place t k p' m, going e)
  loses e b p' l h =
      let task = w.pair.turn.fits in
      record {
        says = refl;
        keeps = (refl, refl);
        rel = goes (TaskPlace t := b ∷ TaskLost t := one_more (v (TaskLost t)) ∷ []) (to_place b (slot_of v t)) p'
            refl (rw (eq-eqb t t refl)) (λ j n. rw (ne_eqb t j n)) refl refl h;
        sound =
            omega (arith, task, l, more-fits (v (TaskLost t)) (w.fitting (TaskLost t) (omega (arith, task))));
        apart = tt;
      }

  -- the top of the cache of the request's class, and how many it has, as the fields say
  pub cache-top : (slot_of v t).caches.top (v (TaskClass t)) ≡ v (CacheTop t (v (TaskClass t)))
  cache-top = if_yes (dec_lt (v (TaskClass t)) CLASSES) _ _ (mine w.pair).fits

  pub cache-count : v (CacheCount t (v (TaskClass t))) ≡ length (k (v (TaskClass t)))
  cache-count =
      sym (if_yes (dec_lt (v (TaskClass t)) CLASSES) (v (CacheCount t (v (TaskClass t)))) 0 (mine w.pair).fits)
      ∙ (mine w.pair).caches.counts (v (TaskClass t)) (mine w.pair).fits
