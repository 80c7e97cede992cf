-- The numbers of the regions that are open in a class, added up one region after the other.
use mathlib.Core.Path.{◌≡◌, refl, ap, ◌∙◌}
use mathlib.Core.Logic.{◌≢◌}
use Prim.Native.Nat.{ℕ, ◌+◌, ◌*◌, ◌≤◌, ◌<◌}
use native.Mathlib.Numerals.{add-one}
use native.Mathlib.Omega.{arith}
use mathlib.Core.List.{List}
use lib.ListN.{length, get_or, set, length-set}
use lib.Seq.{get_or-set_same, get_or-set_other}
use Rattle.std.specs.Prelude.{None}
use Rattle.std.specs.declared.option.Option.{Option}
use Rattle.std.proofs.lemmas.List.{get_or_default}
use Rattle.limits.specs.Limits.{REGIONS, MOST_BLOCKS}
use Rattle.rows.specs.Comparisons.{same, other, same?}
use Rattle.rows.specs.Weights.{when}
use Rattle.rows.specs.Totals.{total}
use Rattle.rows.proofs.Weights.{when-same, when-other, when-max}
use Rattle.rows.proofs.Totals.{total-same, total-suc, total-most}
use Rattle.report_regions.specs.declared.OpenRegion.{OpenRegion}
use Rattle.holders.specs.Form.{added_up}
use Rattle.holders.specs.FormFilling.{class_read, chain_read, NumbersOf}

-- ---- the numbers of what was read of the regions

-- what was read of a region, whatever a list gives behind its end
module _ (rs : List (Option OpenRegion)) (r : ℕ) (d : Option OpenRegion) (l : r < length rs) {x : ℕ} where
  pub class_there : x ≡ class_read (get_or rs r d) → x ≡ class_read (get_or rs r None)
  class_there e = e ∙ ap class_read (get_or_default rs r d None l)

  pub chain_there : x ≡ chain_read (get_or rs r d) → x ≡ chain_read (get_or rs r None)
  chain_there e = e ∙ ap chain_read (get_or_default rs r d None l)

-- the regions before r are told
pub record NumbersTo (rs : List (Option OpenRegion)) (r : ℕ) (classes chains : List ℕ) : Type 0 where
  pub whole : length classes ≡ REGIONS
  pub whole_too : length chains ≡ REGIONS
  pub told : NumbersOf r rs classes chains

module _ {rs : List (Option OpenRegion)} {classes chains : List ℕ} where
  -- none is
  pub numbers-begin : length classes ≡ REGIONS → length chains ≡ REGIONS → NumbersTo rs 0 classes chains
  numbers-begin e f = record {
    whole = e;
    whole_too = f;
    told = record { classes_are = λ z l. absurd (omega arith); chains_are = λ z l. absurd (omega arith) };
  }

  -- one more is
  pub numbers-next : {r x k : ℕ} → NumbersTo rs r classes chains → r < REGIONS → x ≡ class_read (get_or rs r None)
      → k ≡ chain_read (get_or rs r None) → NumbersTo rs (r + 1) (set classes r x) (set chains r k)
  numbers-next {r} {x} {k} N l e f = record {
    whole = length-set classes r x ∙ N.whole;
    whole_too = length-set chains r k ∙ N.whole_too;
    told = record {
      classes_are = λ z h. elim (same? z r) [
        | same i ↦ rw i (get_or-set_same classes r x 0 (omega (arith, l, N.whole)) ∙ e)
        | other d ↦ get_or-set_other classes r z x 0 d ∙ N.told.classes_are z (omega arith)
      ];
      chains_are = λ z h. elim (same? z r) [
        | same i ↦ rw i (get_or-set_same chains r k 0 (omega (arith, l, N.whole_too)) ∙ f)
        | other d ↦ get_or-set_other chains r z k 0 d ∙ N.told.chains_are z (omega arith)
      ];
    };
  }

  -- all are
  pub numbers-end : {r regions : ℕ} → NumbersTo rs r classes chains → r ≡ regions → NumbersOf regions rs classes chains
  numbers-end N e = rw e at N.told

-- ---- adding up

-- the regions before r are added up
pub record AddedTo (classes : ℕ → ℕ) (c : ℕ) (number : ℕ → ℕ) (r sum : ℕ) : Type 0 where
  pub is : sum ≡ total r (λ z class. when c class (number z)) classes

module _ (classes : ℕ → ℕ) (c : ℕ) (number : ℕ → ℕ) where
  -- none is
  pub added-begin : AddedTo classes c number 0 0
  unfolding total
  added-begin = record { is = refl }

  module _ {r sum : ℕ} (A : AddedTo classes c number r sum) where
    -- a region that is open in the class is added,
    pub added-same : c ≡ classes r → {x : ℕ} → x ≡ number r → AddedTo classes c number (r + 1) (sum + x)
    added-same e f = record {
      is = rw (add-one r, total-suc r (λ z class. when c class (number z)) classes, ← e, when-same c (number r))
          (omega (arith, A.is));
    }

    -- and another is not
    pub added-other : c ≢ classes r → AddedTo classes c number (r + 1) sum
    added-other d = record {
      is = rw (add-one r, total-suc r (λ z class. when c class (number z)) classes)
          (omega (arith, A.is, when-other c (classes r) (number r) d));
    }

  -- all are
  pub added-end : {r sum : ℕ} → AddedTo classes c number r sum → (regions : ℕ) → r ≡ regions
      → sum ≡ added_up regions classes c number
  unfolding added_up
  added-end A regions e = A.is ∙ ap (λ (n : ℕ). total n (λ z class. when c class (number z)) classes) e

  -- numbers that are all small have a small sum
  pub added-most : (regions : ℕ) → ((r : ℕ) → r < regions → number r ≤ MOST_BLOCKS + 1)
      → added_up regions classes c number ≤ regions * (MOST_BLOCKS + 1)
  unfolding added_up
  added-most regions small =
      total-most regions (MOST_BLOCKS + 1) (λ r class. when c class (number r)) classes
      (λ r l. omega (arith, small r l, when-max c (classes r) (number r)))

-- what is added up is told by the classes and the numbers of the regions
pub added-alike : (regions : ℕ) (classes classes' : ℕ → ℕ) (c : ℕ) (number number' : ℕ → ℕ)
    → ((r : ℕ) → r < regions → classes r ≡ classes' r) → ((r : ℕ) → r < regions → number r ≡ number' r)
    → added_up regions classes c number ≡ added_up regions classes' c number'
unfolding added_up
added-alike regions classes classes' c number number' e f =
    total-same regions (λ r class. when c class (number r)) classes (λ r class. when c class (number' r)) classes'
    (λ r l. rw (e r l, f r l))
