-- Linked rows: read at the head, kept with their links, made longer at either end, and given by their links.
use mathlib.Core.Path.{◌≡◌, refl, sym, ap, ◌∙◌}
use mathlib.Core.Logic.{◌≢◌}
use mathlib.Core.List.{List, [], ◌∷◌, ◌++◌}
use Prim.Native.Nat.{ℕ, ◌+◌, ◌≤◌}
use native.Mathlib.Omega.{arith}
use lib.ListN.{length}
use Rattle.rows.specs.Update.{update}
use Rattle.rows.specs.Counting.{count}
use Rattle.rows.specs.Linked.{Linked, ends, links, LinksAgree, walk}
use Rattle.rows.proofs.Update.{update_same, update_other}
use Rattle.rows.proofs.Counting.{count-first}

-- ---- the head

module _ {next code : ℕ → ℕ} {end f : ℕ} where
  -- The head of an empty row is the end.
  pub linked-empty : Linked next code end f [] → f ≡ end
  linked-empty (ends p) = p

  -- The head of any other row names its first item.
  pub linked-first : {u : ℕ} {r : List ℕ} → Linked next code end f (u ∷ r) → f ≡ code u
  linked-first (links p k) = p

  -- Without its first item, a row is linked from that item's link on.
  pub linked-rest : {u : ℕ} {r : List ℕ} → Linked next code end f (u ∷ r) → Linked next code end (next u) r
  linked-rest (links p k) = k

-- ---- other links

-- A row stays linked if the links of its items stay.
pub linked-frame : {next new code : ℕ → ℕ} {end f : ℕ} {r : List ℕ}
    → LinksAgree next new r → Linked next code end f r → Linked new code end f r
linked-frame a (ends p) = ends p
linked-frame a (links {u = u} {r = r} p k) =
    links {r = r} p (rw (a u (count-first u r)) (linked-frame (λ v h. a v (omega arith)) k))

-- A row stays linked if only the link of a number that is no item of the row is changed.
pub linked-update : {next code : ℕ → ℕ} {end f : ℕ} {r : List ℕ} (u x : ℕ)
    → count u r ≡ 0 → Linked next code end f r → Linked (update next u x) code end f r
linked-update {next} {r = r} u x h =
    linked-frame (λ v c. update_other next u x v (λ e. absurd (omega (arith, ap (λ y. count y r) e))))

-- ---- longer rows

-- A new first item: its link is the old head, and the new head names it.
pub linked-push : {next code : ℕ → ℕ} {end f : ℕ} {r : List ℕ} (u : ℕ)
    → count u r ≡ 0 → Linked next code end f r → Linked (update next u f) code end (code u) (u ∷ r)
linked-push {next} {f = f} {r = r} u h k =
    links {u = u} {r = r} refl (rw (update_same next u f) (linked-update u f h k))

-- A row whose end is the head of another row goes on with that row.
pub linked-append : {next code : ℕ → ℕ} {mid end f : ℕ} {r s : List ℕ}
    → Linked next code mid f r → Linked next code end mid s → Linked next code end f (r ++ s)
linked-append (ends p) l = rw p l
linked-append (links p k) l = links p (linked-append k l)

-- A new last item: the row's end named it, and its own link is the end.
pub linked-append-one : {next code : ℕ → ℕ} {end f u : ℕ} {r : List ℕ}
    → Linked next code (code u) f r → next u ≡ end → Linked next code end f (r ++ (u ∷ []))
linked-append-one k p = linked-append k (links refl (ends p))

-- ---- the row that the links give

-- A linked row is the walk along its links, if each link gives its item back.
pub linked-walk : {next code : ℕ → ℕ} {end f : ℕ} {r : List ℕ} (item : ℕ → ℕ)
    → Linked next code end f r → ((u : ℕ) → 1 ≤ count u r → item (code u) ≡ u)
    → walk next item f (length r) ≡ r
linked-walk item (ends p) h = refl
linked-walk item (links {u = u} {r = r} p k) h =
    rw (p, h u (count-first u r), linked-walk item k (λ v c. h v (omega arith)))

-- From a head on there is at most one row, if no two items share a code and no item has the end's code.
pub linked-unique : {next code : ℕ → ℕ} {end f : ℕ} {r s : List ℕ}
    → ((u v : ℕ) → 1 ≤ count u r → 1 ≤ count v s → code u ≡ code v → u ≡ v)
    → ((u : ℕ) → 1 ≤ count u r + count u s → code u ≢ end)
    → Linked next code end f r → Linked next code end f s → r ≡ s
linked-unique inj not_end (ends p) (ends q) = refl
linked-unique inj not_end (ends p) (links {u = v} {r = s} q l) =
    absurd (not_end v (omega (arith, count-first v s)) (sym q ∙ p))
linked-unique inj not_end (links {u = u} {r = r} p k) (ends q) =
    absurd (not_end u (omega (arith, count-first u r)) (sym p ∙ q))
linked-unique inj not_end (links {u = u} {r = r} p k) (links {u = v} {r = s} q l) =
    let e : u ≡ v = inj u v (count-first u r) (count-first v s) (sym p ∙ q) in
    cc (linked-unique (λ x y g h. inj x y (omega arith) (omega arith)) (λ x g. not_end x (omega arith)) k
    (rw (← e) at l))
