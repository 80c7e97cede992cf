-- What each test is, from the comparisons that the code makes.
use mathlib.Core.Path.{◌≡◌, ap}
use mathlib.Core.Bool.{true, false}
use Prim.Native.Nat.{ℕ, ◌+◌, ◌≤◌, ◌<◌}
use borrow.Author.Tests.{lt-ltb, le-ltb, le-leb, lt-leb, eq-eqb, ne_eqb}
use lib.Dec.{ltb, leb, eqb}
use Rattle.limits.specs.Limits.{UNITS, MOST_BLOCKS}
use Rattle.words.specs.Anchor.{PARTIAL, FULL, anchor_of}
use Rattle.words.specs.declared.anchor.Anchor.{Anchor}
use Rattle.classes.specs.Geometry.{region_of, is_first}
use Rattle.stepped.specs.Ranges.{is_block, is_top, is_anchor, has_chain, has_first, has_room}

module _ (regions c u : ℕ) where
  pub block-outside : regions ≤ region_of u → false ≡ is_block regions c u
  block-outside h = rw (le-ltb _ _ h)

  pub block_inside : region_of u < regions → is_first c u ≡ is_block regions c u
  block_inside h = rw (lt-ltb _ _ h)

module _ (regions c k u : ℕ) where
  pub top-of-none : k ≡ 0 → eqb u UNITS ≡ is_top regions c k u
  top-of-none h = rw (eq-eqb _ _ h)

  pub top-of-some : (k ≡ 0 → ⊥) → is_block regions c u ≡ is_top regions c k u
  top-of-some h = rw (ne_eqb _ _ h)

-- the parts of an anchor that is the word's
pub record Parts (a : Anchor) (w : ℕ) : Type 0 where
  pub state : a.state ≡ (anchor_of w).state
  pub avail : a.avail ≡ (anchor_of w).avail
  pub count : a.count ≡ (anchor_of w).count

pub parts : {a : Anchor} {w : ℕ} → a ≡ anchor_of w → Parts a w
parts e = record {
  state = ap (λ (x : Anchor). x.state) e;
  avail = ap (λ (x : Anchor). x.avail) e;
  count = ap (λ (x : Anchor). x.count) e;
}

module _ (w : ℕ) where
  pub anchor_state : FULL < (anchor_of w).state → false ≡ is_anchor w
  anchor_state h = rw (lt-leb _ _ h)

  pub anchor_avail : (anchor_of w).state ≤ FULL → MOST_BLOCKS < (anchor_of w).avail → false ≡ is_anchor w
  anchor_avail s h = rw (le-leb _ _ s, lt-leb _ _ h)

  pub anchor_count : (anchor_of w).state ≤ FULL → (anchor_of w).avail ≤ MOST_BLOCKS
      → leb (anchor_of w).count MOST_BLOCKS ≡ is_anchor w
  anchor_count s h = rw (le-leb _ _ s, le-leb _ _ h)

module _ (n w : ℕ) where
  pub chain-state : ((anchor_of w).state ≡ PARTIAL → ⊥) → false ≡ has_chain n w
  chain-state h = rw (ne_eqb _ _ h)

  module _ (s : (anchor_of w).state ≡ PARTIAL) where
    pub chain-none : (anchor_of w).count < 1 → false ≡ has_chain n w
    chain-none h = rw (eq-eqb _ _ s, lt-leb _ _ h)

    pub chain-long : 1 ≤ (anchor_of w).count → n < (anchor_of w).count → false ≡ has_chain n w
    chain-long h k = rw (eq-eqb _ _ s, le-leb _ _ h, lt-leb _ _ k)

    pub chain_first : 1 ≤ (anchor_of w).count → (anchor_of w).count ≤ n → ltb (anchor_of w).avail n ≡ has_chain n w
    chain_first h k = rw (eq-eqb _ _ s, le-leb _ _ h, le-leb _ _ k)

  pub first-of-none : (anchor_of w).count ≡ 0 → true ≡ has_first n w
  first-of-none h = rw (eq-eqb _ _ h)

  pub first-of-some : ((anchor_of w).count ≡ 0 → ⊥) → ltb (anchor_of w).avail n ≡ has_first n w
  first-of-some h = rw (ne_eqb _ _ h)

module _ (n g w : ℕ) where
  pub room-first : has_first n w ≡ false → false ≡ has_room n g w
  room-first h = rw h

  pub room-none : has_first n w ≡ true → n < (anchor_of w).count + g → false ≡ has_room n g w
  room-none f h = rw (f, lt-leb _ _ h)

  pub room-some : has_first n w ≡ true → (anchor_of w).count + g ≤ n → true ≡ has_room n g w
  room-some f h = rw (f, le-leb _ _ h)
