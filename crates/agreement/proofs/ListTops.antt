-- The top of a linked list, and the exchange of its head.
use mathlib.Core.Path.{◌≡◌, sym, ap, ◌∙◌}
use mathlib.Core.List.{List, ◌∷◌}
use Prim.Native.Nat.{ℕ, suc, pred, ◌+◌, ◌≤◌, ◌<◌}
use native.Mathlib.Omega.{arith}
use Rattle.limits.specs.Limits.{TASKS, DESCRIPTORS, TAGS, SPARE_REGIONS, DESCRIPTOR_LISTS}
use Rattle.words.specs.declared.head.Head.{Head}
use Rattle.rows.specs.Counting.{count}
use Rattle.rows.specs.Linked.{Linked, ends, links}
use Rattle.rows.proofs.Totals.{total-one}
use Rattle.rows.proofs.Weights.{below-is, when-same}
use Rattle.words.specs.Head.{head_of}
use Rattle.plain.specs.State.{Mem, Place}
use Rattle.plain.specs.Steps.{top}
use Rattle.plain.specs.Held.{holds_descriptor, holds_region}
use Rattle.plain.specs.Invariant.{Invariant}
use Rattle.plain.specs.HolderWeights.{descriptor_weight, region_weight, row_weight}
use Rattle.plain.proofs.PlaceAlone.{task_of}
use Rattle.plain.proofs.Turn.{Turn}
use Rattle.agreement.specs.Relation.{HeadNoted, tail, wrap}

pub first_of : {nx enc : ℕ → ℕ} {e f y : ℕ} {q : List ℕ} → Linked nx enc e f (y ∷ q) → f ≡ enc y
first_of (links e l) = e

pub rest_of : {nx enc : ℕ → ℕ} {e f y : ℕ} {q : List ℕ} → Linked nx enc e f (y ∷ q) → Linked nx enc e (nx y) q
rest_of (links e l) = l

pub top_of : {nx : ℕ → ℕ} {f : ℕ} {q : List ℕ} → Linked nx suc 0 f q → f ≡ top q
top_of (ends e) = e
top_of (links e l) = e

pub tail_of : {nx : ℕ → ℕ} {f x : ℕ} {q : List ℕ} → Linked nx suc 0 f (x ∷ q) → Linked nx suc 0 (nx x) q
tail_of (links e l) = l

pub top-le : {nx : ℕ → ℕ} {f : ℕ} {q : List ℕ} {limit : ℕ} → Linked nx suc 0 f q → ((v : ℕ) → 1 ≤ count v q → v < limit)
    → f ≤ limit
top-le (ends e) h = omega arith
top-le (links {u = u} e l) h = omega (arith, h u (omega (arith, when-same u 1)))

-- what the next of the top says
pub next_of : {nx : ℕ → ℕ} {f : ℕ} {q : List ℕ} (i : ℕ) → Linked nx suc 0 f q → i ≡ top q → 1 ≤ i
    → nx (pred i) ≡ top (tail q)
next_of i (ends e) h l = absurd (omega arith)
next_of {nx} i (links {u = u} {r = r} e k) h l = let z : pred i ≡ u = omega arith in ap nx z ∙ top_of k

module _ {regions : ℕ} {m : Mem} (I : Invariant regions m) where
  pub listed : (ℓ : ℕ) → ℓ < DESCRIPTOR_LISTS → (v : ℕ) → 1 ≤ count v (m.row ℓ) → v < DESCRIPTORS
  listed ℓ l v h =
      below-is v DESCRIPTORS (omega (arith, I.descriptors v, total-one DESCRIPTOR_LISTS (row_weight v) m.row ℓ l))

  pub listed-region : (v : ℕ) → 1 ≤ count v (m.row SPARE_REGIONS) → v < regions
  listed-region v h = below-is v regions (omega (arith, I.regions v))

-- two heads with the same item and tag
abbrev pub SameHead : Head → Head → Type 0
SameHead g h = (g.item ≡ h.item) × (g.tag ≡ h.tag)

-- the heads of two words have the same item and tag exactly if the words are equal
pub same_word : (w x : ℕ) → SameHead (head_of w) (head_of x) → w ≡ x
same_word w x s = omega (arith, s)

pub word_same : (w x : ℕ) → w ≡ x → SameHead (head_of w) (head_of x)
word_same w x e = (ap (λ (z : ℕ). (head_of z).item) e, ap (λ (z : ℕ). (head_of z).tag) e)

-- the exchange is won in both or in neither
module _ {m : Mem} {ℓ n : ℕ} {h : Head} (N : HeadNoted m ℓ h n) (g : Head) (tags : g.tag ≡ wrap (m.won ℓ)) where
  pub won-same : m.won ℓ < n + TAGS → SameHead g h → m.won ℓ ≡ n
  won-same near u = omega (arith, u.1, N.tags, N.past)

  pub same-won : g.item ≡ top (m.row ℓ) → m.won ℓ ≡ n → SameHead g h
  same-won i e = (i ∙ sym (N.same (sym e)), tags ∙ ap wrap e ∙ sym N.tags)

  pub next-tag : m.won ℓ ≡ n → wrap (h.tag + 1) ≡ wrap (m.won ℓ + 1)
  next-tag e = omega (arith, N.tags)

-- a head just read
pub fresh : {m : Mem} {ℓ : ℕ} (h : Head) → h.tag ≡ wrap (m.won ℓ) → h.item ≡ top (m.row ℓ)
    → HeadNoted m ℓ h (m.won ℓ)
fresh h e f = record { past = omega arith; tags = e; same = λ i. f }

-- an item in hand is one of the pool's
pub descriptor-in-hand : {regions : ℕ} {m : Mem} {t : ℕ} {p : Place} {k : ℕ → List ℕ} → Turn regions m t (task_of p k)
    → (x : ℕ) → 1 ≤ holds_descriptor x p → x < DESCRIPTORS
descriptor-in-hand {m = m} {t = t} w x h =
    below-is x DESCRIPTORS
    (omega (
      arith,
      w.inv.descriptors x,
      total-one TASKS (descriptor_weight x) m.task t w.fits,
      ap
          (descriptor_weight x t) w.is,
    ))

pub region-in-hand : {regions : ℕ} {m : Mem} {t : ℕ} {p : Place} {k : ℕ → List ℕ} → Turn regions m t (task_of p k)
    → (x : ℕ) → 1 ≤ holds_region x p → x < regions
region-in-hand {regions = regions} {m = m} {t = t} w x h =
    below-is x regions
    (omega (
      arith,
      w.inv.regions x,
      total-one TASKS (region_weight x) m.task t w.fits,
      ap (region_weight x t)
          w.is,
    ))
