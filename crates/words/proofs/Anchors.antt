-- An anchor whose parts fit their bits and its word say the same; `full` and `returned` fit.
use Rattle.std.proofs.Common.{◌≡◌, ℕ, ◌+◌, ◌*◌, ◌/◌, ◌%◌, ◌<◌, Bool, true, false, cond, ◌&&◌, eqb, ◌≢◌, ◌⊎◌, ◌↔◌, sym}
use Rattle.std.proofs.Common.{refl, ap, ◌∙◌, inl, inr, arith, eq-eqb, ne_eqb, eqb-true, leb-false, leb-true}
use mathlib.Core.Bool.{and-eq-true_iff}
use native.Mathlib.Decide.{dec_lt}
use borrow.Author.Tests.{lt-leb}
use lib.Bits.{bit_and, bit_or, and_mask, or_shifted_r}
use Rattle.words.specs.declared.anchor.Anchor.{Anchor}
use Rattle.words.specs.Anchor.{EMPTY, PARTIAL, FULL, is_state, anchor_of, anchor_word, AnchorFits}
use Rattle.words.specs.Anchor.{full, Room, state_at, returned, same_anchor}

-- ---- packing and unpacking

pub anchor-of-word : (a : Anchor) → AnchorFits a → anchor_of (anchor_word a) ≡ a
anchor-of-word a f =
    let s : anchor_word a % 4 ≡ a.state = omega arith in
    let q : anchor_word a / 4 ≡ a.avail + a.count * 2147483648 = omega arith in
    let v : anchor_word a / 4 % 2147483648 ≡ a.avail = rw q (omega arith) in
    let k : anchor_word a / 8589934592 ≡ a.count = omega arith in
    rw (s, v, k)

-- all 64 bits are used, so every word is the word of its parts
pub word-of-anchor : (w : ℕ) → anchor_word (anchor_of w) ≡ w
word-of-anchor w = omega arith

pub parts-fit : (w : ℕ) → w < 18446744073709551616 → AnchorFits (anchor_of w)
parts-fit w h = omega arith

pub anchor-below : (a : Anchor) → AnchorFits a → anchor_word a < 18446744073709551616
anchor-below a f = omega arith

-- two anchors that fit and have equal words are equal
pub anchor-injective : (a b : Anchor) → AnchorFits a → AnchorFits b → anchor_word a ≡ anchor_word b → a ≡ b
anchor-injective a b f g e = sym (anchor-of-word a f) ∙ ap anchor_of e ∙ anchor-of-word b g

-- ---- states

-- the states are the three
pub states : (s : ℕ) → is_state s ≡ true → (s ≡ EMPTY) ⊎ ((s ≡ PARTIAL) ⊎ (s ≡ FULL))
states s e = elim (dec_lt s PARTIAL) [
  | yes l ↦ inl (omega arith)
  | no l ↦ elim (dec_lt s FULL) [
    | yes m ↦ inr (inl (omega arith))
    | no m ↦ inr (inr (omega (arith, leb-true s FULL e)))
  ]
]

-- of the numbers of two bits, 3 alone is no state
pub no-state : (s : ℕ) → s < 4 → (is_state s ≡ false) ↔ (s ≡ 3)
no-state s h = (λ e. omega (arith, leb-false s FULL e), λ e. lt-leb s FULL (omega arith))

-- ---- the anchors that the steps write

pub full-fits : (n : ℕ) → n < 2147483648 → AnchorFits (full n)
full-fits n h = omega arith

-- a returned anchor is EMPTY if the count is now n
pub returned-empty : (a : Anchor) (first group n : ℕ) → a.count + group ≡ n
    → record { state = EMPTY; avail = first; count = a.count + group } ≡ returned a first group n
returned-empty a first group n e = rw eq-eqb

-- a returned anchor is PARTIAL if the count is not n
pub returned-partial : (a : Anchor) (first group n : ℕ) → a.count + group ≢ n
    → record { state = PARTIAL; avail = first; count = a.count + group } ≡ returned a first group n
returned-partial a first group n e = rw ne_eqb

either-state : (t : Bool) → is_state (cond t EMPTY PARTIAL) ≡ true
either-state true = refl
either-state false = refl

pub returned-state : (a : Anchor) (first group n : ℕ) → is_state (returned a first group n).state ≡ true
returned-state a first group n = either-state (eqb (a.count + group) n)

pub returned-fits : (a : Anchor) (first group n : ℕ) → first < 2147483648 → Room a group n
    → AnchorFits (returned a first group n)
returned-fits a first group n h r =
    let s = leb-true (state_at (a.count + group) n) FULL (returned-state a first group n) in
    record { state = omega arith; avail = h; count = omega arith }

-- ---- the test by which an exchange is won

abbrev anchor : ℕ → ℕ → ℕ → Anchor
anchor s v k = record { state = s; avail = v; count = k }

module _ (a b : Anchor) where
  -- where the states and the first blocks are equal, the counts decide
  pub same-counts : a.state ≡ b.state → a.avail ≡ b.avail → eqb a.count b.count ≡ same_anchor a b
  same-counts s v = rw (eq-eqb a.state b.state s, eq-eqb a.avail b.avail v)

  parts-equal : same_anchor a b ≡ true → (a.state ≡ b.state) × (a.avail ≡ b.avail) × (a.count ≡ b.count)
  parts-equal e =
      let s = eqb a.state b.state in
      let v = eqb a.avail b.avail in
      let p = (and-eq-true_iff (s && v) (eqb a.count b.count)).0 e in
      let q = (and-eq-true_iff s v).0 p.0 in (
        eqb-true a.state b.state q.0,
        eqb-true a.avail b.avail q.1,
        eqb-true a.count b.count p.1,
      )

  same-equal : same_anchor a b ≡ true → a ≡ b
  same-equal e =
      let p = parts-equal e in
      let whole : anchor a.state a.avail a.count ≡ b = rw (p.0, p.1, p.2) in
      whole

  -- two anchors of which one part differs are not the same
  pub not_same : (a.state ≡ b.state → a.avail ≡ b.avail → a.count ≡ b.count → ⊥) → false ≡ same_anchor a b
  not_same h = unless (same_anchor a b) (λ e. let p = parts-equal e in h p.0 p.1 p.2)
    where
      unless : (t : Bool) → (t ≡ true → ⊥) → false ≡ t
      unless true f = absurd (f refl)
      unless false f = refl

  equal-same : a ≡ b → same_anchor a b ≡ true
  equal-same e =
      sym (same-counts (ap (λ (x : Anchor). x.state) e) (ap (λ (x : Anchor). x.avail) e))
      ∙ eq-eqb a.count b.count (ap (λ (x : Anchor). x.count) e)

  -- two anchors are the same exactly where they are equal
  pub same-anchors : (same_anchor a b ≡ true) ↔ (a ≡ b)
  same-anchors = (same-equal, equal-same)

  -- two anchors that fit are the same exactly where their words are equal
  pub same-words : AnchorFits a → AnchorFits b → (same_anchor a b ≡ true) ↔ (anchor_word a ≡ anchor_word b)
  same-words f g = (λ e. ap anchor_word (same-equal e), λ e. equal-same (anchor-injective a b f g e))

-- ---- what the code's shifts and masks make of a word, and of parts that fit their bits

pub unpacked : (w : ℕ)
    → record { state = bit_and w 3; avail = bit_and (w / 4) 2147483647; count = w / 8589934592 } ≡ anchor_of w
unpacked w = rw (and_mask w 2, and_mask (w / 4) 31)

pub packed : (a : Anchor) → AnchorFits a
    → bit_or (bit_or a.state (a.avail * 4 % 18446744073709551616)) (a.count * 8589934592 % 18446744073709551616)
    ≡ anchor_word a
packed a f =
    let p : a.avail * 4 % 18446744073709551616 ≡ a.avail * 4 = omega arith in
    let q : a.count * 8589934592 % 18446744073709551616 ≡ a.count * 8589934592 = omega arith in
    rw (p, q, or_shifted_r a.avail 2 a.state (omega arith))
    (rw (or_shifted_r a.count 33 (a.avail * 4 + a.state) (omega arith)) (omega arith))
