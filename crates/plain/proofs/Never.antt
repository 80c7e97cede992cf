-- What never happens in a pool that has the invariant.
use mathlib.Core.Path.{◌≡◌, refl, ap}
use mathlib.Core.List.{List, ◌∷◌, []}
use Prim.Native.Nat.{ℕ, ◌≤◌, ◌<◌}
use native.Mathlib.Omega.{arith}
use lib.ListN.{length}
use Rattle.limits.specs.Limits.{TASKS}
use Rattle.rows.proofs.Weights.{when-same}
use Rattle.rows.proofs.Counting.{count-append}
use Rattle.plain.specs.State.{State, EMPTY, PARTIAL, FULL, state_number, Note, a3-exchange, f3-read, f3-link}
use Rattle.plain.specs.State.{f3-exchange, Mem, working, Purpose}
use Rattle.plain.specs.Steps.{pop_list, AsNoted}
use Rattle.plain.specs.ByState.{one_if_full}
use Rattle.plain.specs.Held.{own_blocks}
use Rattle.plain.specs.Invariant.{Invariant}
use Rattle.plain.specs.Never.{TopItem, GroupFits, GroupNamed, NeverHappens}
use Rattle.plain.proofs.ByState.{is_open}
use Rattle.plain.proofs.PlaceAlone.{turn_at, place_holds, note_holds}
use Rattle.plain.proofs.Owners.{home_of}
use Rattle.plain.proofs.AnchorExchange.{in-hand}
use Rattle.plain.proofs.Takes.{taken}
use Rattle.plain.proofs.GroupFits.{Grouped, group-fits}

-- A row with an item has a top item.
pub top-item : (q : List ℕ) → 1 ≤ length q → TopItem q
top-item [] h = absurd (omega arith)
top-item (x ∷ q) h = record { item = x; rest = q; is = refl }

-- A state with PARTIAL's number is PARTIAL.
partial-is : (s : State) → state_number s ≡ state_number PARTIAL → s ≡ PARTIAL
partial-is EMPTY e = absurd (omega arith)
partial-is PARTIAL e = refl
partial-is FULL e = absurd (omega arith)

module _ {area : ℕ} {m : Mem} {t : ℕ} (I : Invariant area m) (l : t < TASKS) where
  reads : (c : ℕ) (z : Purpose) (y : ℕ) (g : List ℕ) → (m.task t).place ≡ working (f3-read c z y g) → GroupNamed m c y g
  reads c z y g e =
      let w = turn_at I l e in
      let f = home_of w y (omega (arith, when-same y 1, count-append y (own_blocks z) (y ∷ g))) in
      let group : Grouped m (working (f3-read c z y g)) c z y g f.d =
      record { blocks = refl; class = refl; together = (place_holds w).2; named = f.named } in
      record {
        d = f.d;
        fits = f.fits;
        entry = f.named;
        opens = (f.region, is_open (m.descriptor f.d).state f.counts);
        class = f.class;
        count = group-fits w group;
      }

  takes : (c d : ℕ) (n : Note) → (m.task t).place ≡ working (a3-exchange c d n) → AsNoted (m.descriptor d) n
      → (n.state ≡ PARTIAL) × TopItem (m.descriptor d).chain
  takes c d n e s =
      let T = taken (turn_at I l e) s in (
        partial-is n.state (omega (arith, s, ap state_number T.state)),
        top-item (m.descriptor d).chain T.chain.0,
      )

  links : (c : ℕ) (z : Purpose) (y : ℕ) (g : List ℕ) (d : ℕ) (n : Note)
      → (m.task t).place ≡ working (f3-link c z y g d n)
      → GroupFits m c y g d n.length
  links c z y g d n e =
      let w = turn_at I l e in
      let o = place_holds w in
      let group : Grouped m (working (f3-link c z y g d n)) c z y g d =
      record { blocks = refl; class = refl; together = o.2; named = (note_holds w).1 } in
      record { now = group-fits w group; then = o.3 }

  returns : (c : ℕ) (z : Purpose) (y : ℕ) (g : List ℕ) (d : ℕ) (n : Note)
      → (m.task t).place ≡ working (f3-exchange c z y g d n)
      → GroupFits m c y g d n.length
  returns c z y g d n e =
      let w = turn_at I l e in
      let o = place_holds w in
      let group : Grouped m (working (f3-exchange c z y g d n)) c z y g d =
      record { blocks = refl; class = refl; together = o.2; named = (note_holds w).1 } in
      record { now = group-fits w group; then = o.3 }

  -- What never happens at a step of the task t.
  pub never : NeverHappens m t
  never = record {
    pop_exchange = λ p n e h. top-item (m.row (pop_list p)) ((note_holds (turn_at I l e)).1 h);
    group_step = λ c z g e h. top-item g (omega (arith, place_holds (turn_at I l e), ap length h));
    free_reads = reads;
    allocate_reads = λ c d e h.
        absurd (omega (arith, in-hand (turn_at I l e) d (omega (arith, when-same d 1)), ap one_if_full h));
    allocate_takes = takes;
    free_links = links;
    free_returns = returns;
  }
