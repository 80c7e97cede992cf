-- The count, on lists of decided moves and accesses alone: what is lost, and what is about to be, is paid for.
use mathlib.Core.Path.{◌≡◌, refl, ap, ◌∙◌}
use mathlib.Core.Bool.{Bool, true, false, cond}
use mathlib.Core.List.{List, [], ◌∷◌}
use Prim.Native.Nat.{ℕ, suc, ◌+◌, ◌*◌, ◌-◌, ◌≤◌, ◌<◌}
use native.Mathlib.Omega.{arith}
use native.Mathlib.Nat.{mul-add}
use Rattle.rows.specs.Update.{update}
use Rattle.rows.specs.Totals.{total}
use Rattle.rows.proofs.Update.{update_same}
use Rattle.rows.proofs.Totals.{total-update, total-zero, total-most}
use Rattle.plain.specs.Moves.{Decided, nothing, found_empty, popped, pushed, lost, anchor_empty, took, gave}
use Rattle.plain.specs.Moves.{anchor_lost, strip_taken, strip_given, no_strip}
use Rattle.agreement.specs.LostExchanges.{is_lost, lost_among}
use Rattle.collisions.specs.Accesses.{head, Access, reads, wins, loses, no_word, access_by}
use Rattle.collisions.specs.Collisions.{is_won, won_among, FewLost, EachPaid, PaidBy}
use Rattle.collisions.proofs.Statuses.{Status, unread, fresh, stale, Statuses, spoil, after, statuses, Fits}
use Rattle.collisions.proofs.Winners.{stale-paid}

-- ---- what an access counts

abbrev pub lost_by : Access → ℕ
lost_by (reads t w) = 0
lost_by (wins t w) = 0
lost_by (loses t w) = 1
lost_by no_word = 0

abbrev pub won_by : Access → ℕ
won_by (reads t w) = 0
won_by (wins t w) = 1
won_by (loses t w) = 0
won_by no_word = 0

-- the decided move e counts as the access x does
pub record Counts (e : Decided) (x : Access) : Type 0 where
  pub losts : cond (is_lost e) 1 0 ≡ lost_by x
  pub wons : cond (is_won e) 1 0 ≡ won_by x

-- what a step decides counts as its access, where its read is no exchange
pub counts-by : (t : ℕ) (e : Decided) (r : Access) → Counts nothing r → Counts e (access_by t e r)
counts-by t nothing r C = C
counts-by t (found_empty ℓ) r C = record { losts = refl; wons = refl }
counts-by t (popped ℓ x) r C = record { losts = refl; wons = refl }
counts-by t (pushed ℓ x) r C = record { losts = refl; wons = refl }
counts-by t (lost ℓ) r C = record { losts = refl; wons = refl }
counts-by t (anchor_empty d) r C = record { losts = refl; wons = refl }
counts-by t (took d) r C = record { losts = refl; wons = refl }
counts-by t (gave d) r C = record { losts = refl; wons = refl }
counts-by t (anchor_lost d) r C = record { losts = refl; wons = refl }
counts-by t (strip_taken s) r C = record { losts = refl; wons = refl }
counts-by t (strip_given s) r C = record { losts = refl; wons = refl }
counts-by t no_strip r C = record { losts = refl; wons = refl }

-- ---- the tasks that are about to lose

abbrev is_stale : ℕ → Status → ℕ
is_stale i unread = 0
is_stale i (fresh w) = 0
is_stale i (stale w) = 1

stale-most : (i : ℕ) (s : Status) → is_stale i s ≤ 1
stale-most i unread = omega arith
stale-most i (fresh w) = omega arith
stale-most i (stale w) = omega arith

-- how many of T tasks have read a word that another has exchanged since
pub stale_ones : ℕ → Statuses → ℕ
stale_ones T g = total T is_stale g

-- at most all of them, and one less if one of them has not
stale-but : (T : ℕ) (g : Statuses) (t : ℕ) → t < T → g t ≡ unread → stale_ones T g + 1 ≤ T
unfolding stale_ones
stale-but T g t l e = omega (
  arith,
  total-update T is_stale g t (stale (head 0)) l,
  total-most T 1 is_stale (update g t (stale (head 0))) (λ i b. stale-most i (update g t (stale (head 0)) i)),
  ap (is_stale t) e,
)

-- One access: a won exchange pays for all but the winner, a lost one was paid for.
one-paid : (T : ℕ) (g : Statuses) (x : Access) → Fits T g x
    → lost_by x + stale_ones T (after x g) ≤ (T - 1) * won_by x + stale_ones T g
unfolding stale_ones
one-paid T g (reads t w) f = omega (arith, total-update T is_stale g t (fresh w) f)
one-paid T g (wins t w) f =
    let h = update (λ u. spoil w (g u)) t unread in
    omega (arith, stale-but T h t f (update_same (λ u. spoil w (g u)) t unread))
one-paid T g (loses t w) f = omega (arith, total-update T is_stale g t unread f.0, ap (is_stale t) f.1)
one-paid T g no_word f = omega arith

-- ---- along a list

-- The moves es and the accesses xs of a schedule with T tasks: the lost exchanges, and those that are about to be lost,
-- are paid for; and each lost one has its winner.
pub record Balanced (T : ℕ) (es : List Decided) (xs : List Access) : Type 0 where
  pub due : lost_among es + stale_ones T (statuses xs) ≤ (T - 1) * won_among es
  pub each : EachPaid xs

-- at the beginning
pub none_yet : (T : ℕ) → Balanced T [] []
unfolding stale_ones
none_yet T =
    record { due = omega (arith, total-zero T is_stale (λ (u : ℕ). unread) (λ i l. refl)); each = tt }

paid-by : (T : ℕ) (xs : List Access) (x : Access) → Fits T (statuses xs) x → PaidBy x xs
paid-by T xs (reads t w) f = tt
paid-by T xs (wins t w) f = tt
paid-by T xs (loses t w) f = stale-paid t w xs f.1
paid-by T xs no_word f = tt

-- one more, if the test holds
added : (b : Bool) (n : ℕ) → cond b (suc n) n ≡ cond b 1 0 + n
added true n = omega arith
added false n = omega arith

-- one event more
pub one_more : {T : ℕ} {es : List Decided} {xs : List Access} → Balanced T es xs → (e : Decided) (x : Access)
    → Counts e x → Fits T (statuses xs) x → Balanced T (e ∷ es) (x ∷ xs)
one_more {T} {es} {xs} B e x C f = record {
  due = omega (
    arith,
    B.due,
    one-paid T (statuses xs) x f,
    C.losts,
    added (is_lost e) (lost_among es),
    ap (λ (n : ℕ). (T - 1) * n) (added (is_won e) (won_among es) ∙ ap (λ (n : ℕ). n + won_among es) C.wons),
    mul-add (T - 1) (won_by x) (won_among es),
  );
  each = (paid-by T xs x f, B.each);
}

-- the lost exchanges alone
pub few-lost : {T : ℕ} {es : List Decided} {xs : List Access} → Balanced T es xs → FewLost T es
few-lost B = omega (arith, B.due)
