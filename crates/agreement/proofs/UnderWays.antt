-- What a task has under way, read off the memories by its place, is what the plain pool says.
use mathlib.Core.Path.{◌≡◌, refl, sym, ap, ◌∙◌}
use mathlib.Core.List.{List, [], ◌∷◌, ◌++◌}
use Prim.Native.Nat.{ℕ, ◌+◌, ◌≤◌}
use native.Mathlib.Omega.{arith}
use lib.ListN.{length}
use Rattle.rows.specs.Counting.{count}
use Rattle.rows.specs.Linked.{Linked, walk}
use Rattle.rows.proofs.Linked.{linked-walk, linked-append-one}
use Rattle.classes.specs.Geometry.{unit_of, index_of}
use Rattle.classes.proofs.BlockUnits.{unit-again}
use Rattle.links.specs.Link.{link}
use Rattle.plain.specs.State.{Phase, Place, Mem, Work, working, Purpose}
use Rattle.plain.specs.Held.{under_way, class_at, own_blocks}
use Rattle.plain.specs.TaskHolds.{Together}
use Rattle.plain.proofs.Blocks.{counts-block}
use Rattle.plain.proofs.PlaceAlone.{place_holds}
use Rattle.control.specs.Places.{IDLE, A1, A3_READ, A3_EXCHANGE, A4, A7, A8, F1, F2, F3_READ, F3_LINK, F3_EXCHANGE}
use Rattle.control.specs.Places.{F4_CLEAR}
use Rattle.control.specs.Places.{TO_NEXT, TO_EXCHANGE}
use Rattle.control.specs.declared.moves.Pop.TheVariants.{Partial, Spare, Region}
use Rattle.control.specs.declared.moves.Push.TheVariants.{Retire, Back, Release, Offer}
use Rattle.agreement.specs.Contents.{Contents, purpose_of}
use Rattle.agreement.specs.Relation.{MoveRelated, at_read, at_next, at_exchange, GroupRelated, WorkRelated, r_a1}
use Rattle.agreement.specs.Relation.{r_popping, r_pushing, r_a3_read, r_a3_exchange, r_a4, r_a7, r_a8, r_f1, r_f2}
use Rattle.agreement.specs.Relation.{r_f2_more, r_f3_read, r_f3_link, r_f3_exchange, r_f4_clear, PlaceRelated}
use Rattle.agreement.specs.Relation.{r_idle, r_working}
use Rattle.agreement.specs.Observe.{under_ways, blocks_at}
use Rattle.agreement.proofs.TurnInBoth.{Pair}
use Rattle.agreement.proofs.GroupBlocks.{of-region}
use Rattle.control.specs.Places.{STRIP_TAKE, STRIP_GIVE, LEAVE_END}
use Rattle.agreement.specs.Relation.{r_strip_take, r_strip_give, r_leave_end}
use Rattle.agreement.proofs.Purposes.{group-in}

-- the task's own block, if there is one, and a group behind it
own-with : (z : Purpose) {q r : List ℕ} → q ≡ r → own_blocks z ++ q ≡ own_blocks z ++ r
own-with z e = ap (λ (q : List ℕ). own_blocks z ++ q) e

module _ {regions : ℕ} {a : Contents} {m : Mem} {t : ℕ} {k : ℕ → List ℕ} where
  group-is : {p : Place} {y : ℕ} {g : List ℕ} (w : Pair regions a m t p k) (G : GroupRelated a (a.slot t) y g)
      → ((v : ℕ) → count v (y ∷ g) ≤ count v (under_way p)) → class_at p ≡ (a.slot t).class → Together y g
      → walk (link a.area) (unit_of (a.slot t).hand.region (a.slot t).class) (a.slot t).group.first
      (a.slot t).group.count ≡ y ∷ g
  group-is {y = y} {g = g} w G sub cl tog =
      let s = a.slot t in
      let c = s.class in
      let l : Linked (link a.area) (index_of c) (link a.area G.last) s.group.first
      (G.front ++ (G.last ∷ [])) = linked-append-one G.linked refl in
      let n : s.group.count ≡ length (G.front ++ (G.last ∷ [])) = G.counts ∙ ap length G.is in
      ap (walk (link a.area) (unit_of s.hand.region c) s.group.first) n
      ∙ linked-walk (unit_of s.hand.region c) l
      (λ v h. unit-again (of-region w G sub cl tog v (omega (arith, ap (count v) G.is))))
      ∙ sym G.is

  -- at the place n the table of what is under way has q
  at_place : {p : Place} (w : Pair regions a m t p k) (n : ℕ) (q : List ℕ) → (a.slot t).place ≡ n
      → blocks_at (under_ways (a.slot t) a) n ≡ q
      → blocks_at (under_ways (a.slot t) a) (a.slot t).place ≡ q
  at_place w n q e h = ap (λ (z : ℕ). blocks_at (under_ways (a.slot t) a) z) e ∙ h

  -- at the three places of a list move the table of what is under way has q
  in-move : {p : Place} {b ℓ items least : ℕ} {Ready : ℕ → Type 0} {φ : Phase} (w : Pair regions a m t p k) (q : List ℕ)
      → (blocks_at (under_ways (a.slot t) a) b ≡ q) × (blocks_at (under_ways (a.slot t) a) (b + TO_NEXT) ≡ q)
      × (blocks_at (under_ways (a.slot t) a) (b + TO_EXCHANGE) ≡ q)
      → MoveRelated m (a.slot t) b ℓ items least Ready φ
      → blocks_at (under_ways (a.slot t) a) (a.slot t).place ≡ q
  in-move {b = b} w q h (at_read e) = at_place w b q e h.0
  in-move {b = b} w q h (at_next e N i l) = at_place w (b + TO_NEXT) q e h.1
  in-move {b = b} w q h (at_exchange e N i l r) = at_place w (b + TO_EXCHANGE) q e h.2

  at-work : {p : Work} (w : Pair regions a m t (working p) k) → WorkRelated regions a m (a.slot t) p
      → blocks_at (under_ways (a.slot t) a) (a.slot t).place ≡ under_way (working p)
  at-work w (r_a1 e) = at_place w A1 [] e refl
  at-work w (r_popping Partial h) = in-move w [] (refl, refl, refl) h
  at-work w (r_popping Spare h) = in-move w [] (refl, refl, refl) h
  at-work w (r_popping Region h) = in-move w [] (refl, refl, refl) h
  at-work w (r_pushing Retire z f h) = in-move w [] (refl, refl, refl) h
  at-work w (r_pushing Back z f h) = in-move w [] (refl, refl, refl) h
  at-work w (r_pushing Release z f h) = in-move w (own_blocks (purpose_of (a.slot t).unit)) (refl, refl, refl) h
  at-work w (r_pushing Offer z f h) = in-move w (own_blocks (purpose_of (a.slot t).unit)) (refl, refl, refl) h
  at-work w (r_a3_read e) = at_place w A3_READ [] e refl
  at-work w (r_a3_exchange e N i j l o) = at_place w A3_EXCHANGE [] e refl
  at-work w (r_a4 {x = x} {q = q} e l n f) =
      let s = a.slot t in
      at_place w A4 (x ∷ q) e
      (ap (walk (link a.area) (unit_of s.hand.region s.class) s.hand.index) n
      ∙ linked-walk (unit_of s.hand.region s.class) l
      (λ v h. unit-again (counts-block s.hand.region s.class v (omega (arith, f v)))))
  at-work w (r_a7 e) = at_place w A7 [] e refl
  at-work w (r_a8 e) = at_place w A8 _ e refl
  at-work w (r_f1 e) = at_place w F1 ((a.slot t).unit ∷ []) e refl
  at-work w (r_f2 e z) =
      let s = a.slot t in
      at_place w F2 (own_blocks (purpose_of s.unit) ++ []) e
      (own-with (purpose_of s.unit)
      (ap (walk (link a.area) (unit_of s.hand.region s.class) s.group.first) z))
  at-work w (r_f2_more {y = y} {g = g} e G) =
      at_place w F2 (own_blocks (purpose_of (a.slot t).unit) ++ (y ∷ g)) e
      (own-with (purpose_of (a.slot t).unit)
      (group-is w G (group-in (purpose_of (a.slot t).unit) (y ∷ g)) refl (place_holds w.turn).3))
  at-work w (r_f3_read {y = y} {g = g} e G) =
      at_place w F3_READ (own_blocks (purpose_of (a.slot t).unit) ++ (y ∷ g)) e
      (own-with (purpose_of (a.slot t).unit)
      (group-is w G (group-in (purpose_of (a.slot t).unit) (y ∷ g)) refl (place_holds w.turn).2))
  at-work w (r_f3_link {y = y} {g = g} e G N l) =
      at_place w F3_LINK (own_blocks (purpose_of (a.slot t).unit) ++ (y ∷ g)) e
      (own-with (purpose_of (a.slot t).unit)
      (group-is w G (group-in (purpose_of (a.slot t).unit) (y ∷ g)) refl (place_holds w.turn).2))
  at-work w (r_f3_exchange {y = y} {g = g} e G N l f) =
      at_place w F3_EXCHANGE (own_blocks (purpose_of (a.slot t).unit) ++ (y ∷ g)) e
      (own-with (purpose_of (a.slot t).unit)
      (group-is w G (group-in (purpose_of (a.slot t).unit) (y ∷ g)) refl (place_holds w.turn).2))
  at-work w (r_f4_clear e f) = at_place w F4_CLEAR (own_blocks (purpose_of (a.slot t).unit)) e refl
  at-work w (r_strip_take e) = at_place w STRIP_TAKE [] e refl
  at-work w (r_strip_give e f) = at_place w STRIP_GIVE [] e refl
  at-work w (r_leave_end e) = at_place w LEAVE_END [] e refl

  pub under-way : {p : Place} (w : Pair regions a m t p k) → PlaceRelated regions a m (a.slot t) p
      → blocks_at (under_ways (a.slot t) a) (a.slot t).place ≡ under_way p
  under-way w (r_idle e) = at_place w IDLE [] e refl
  under-way w (r_working W) = at-work w W
