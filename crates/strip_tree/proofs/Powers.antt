-- The nodes of an order, by number.
use Prim.Native.Nat.{ℕ, zero, suc, ◌+◌, ◌-◌, ◌*◌, ◌/◌, ◌%◌, ◌^◌, ◌<◌, ◌≤◌}
use mathlib.Core.Path.{◌≡◌, refl}
use native.Mathlib.Nat.{mul-lt-mul_of_pos_right, mul-le-mul_right, mod-eq_of_lt}
use native.Mathlib.Omega.{arith}
use lib.Pow.{pow_pos, shr_lt, shl_lt}
use Rattle.limits.specs.Limits.{SLOTS, WORD_MARKS, WHOLE_ORDER, ORDERS}
use Rattle.strip_tree.specs.Trees.{buddy}

-- what holds of each order holds of all eight
pub each : (P : ℕ → Type 0) → P 0 → P 1 → P 2 → P 3 → P 4 → P 5 → P 6 → P 7 → (j : ℕ) → j < ORDERS → P j
each P a b c d e f g h zero l = a
each P a b c d e f g h (suc zero) l = b
each P a b c d e f g h (suc (suc zero)) l = c
each P a b c d e f g h (suc (suc (suc zero))) l = d
each P a b c d e f g h (suc (suc (suc (suc zero)))) l = e
each P a b c d e f g h (suc (suc (suc (suc (suc zero))))) l = f
each P a b c d e f g h (suc (suc (suc (suc (suc (suc zero)))))) l = g
each P a b c d e f g h (suc (suc (suc (suc (suc (suc (suc zero))))))) l = h
each P a b c d e f g h (suc (suc (suc (suc (suc (suc (suc (suc j)))))))) l = absurd (omega arith)

-- the first node of an order, by a shift
pub shifted : (j : ℕ) → j < ORDERS → SLOTS / 2 ^ j ≡ 2 ^ (WHOLE_ORDER - j)
shifted = each (λ (j : ℕ). SLOTS / 2 ^ j ≡ 2 ^ (WHOLE_ORDER - j)) refl refl refl refl refl refl refl refl

-- the node of an order at a slot, by a shift
pub node-shifted : (j : ℕ) → j < ORDERS → (s : ℕ) → (SLOTS + s) / 2 ^ j ≡ 2 ^ (WHOLE_ORDER - j) + s / 2 ^ j
node-shifted =
    each (λ (j : ℕ). (s : ℕ) → (SLOTS + s) / 2 ^ j ≡ 2 ^ (WHOLE_ORDER - j) + s / 2 ^ j) (λ s. omega arith)
    (λ s. omega arith) (λ s. omega arith) (λ s. omega arith) (λ s. omega arith) (λ s. omega arith) (λ s. omega arith)
    (λ s. omega arith)

-- the slot where a node of an order begins, by a shift
pub slot-shifted : (j : ℕ) → j < ORDERS → (i : ℕ) → i * 2 ^ j - SLOTS ≡ (i - 2 ^ (WHOLE_ORDER - j)) * 2 ^ j
slot-shifted =
    each (λ (j : ℕ). (i : ℕ) → i * 2 ^ j - SLOTS ≡ (i - 2 ^ (WHOLE_ORDER - j)) * 2 ^ j) (λ i. omega arith)
    (λ i. omega arith) (λ i. omega arith) (λ i. omega arith) (λ i. omega arith) (λ i. omega arith) (λ i. omega arith)
    (λ i. omega arith)

-- as many nodes again as the first node's number
pub twice : (j : ℕ) → j < ORDERS → 2 ^ (ORDERS - j) ≡ 2 * 2 ^ (WHOLE_ORDER - j)
twice = each (λ (j : ℕ). 2 ^ (ORDERS - j) ≡ 2 * 2 ^ (WHOLE_ORDER - j)) refl refl refl refl refl refl refl refl

-- together they are the area's slots
pub area : (j : ℕ) → j < ORDERS → 2 ^ (WHOLE_ORDER - j) * 2 ^ j ≡ SLOTS
area = each (λ (j : ℕ). 2 ^ (WHOLE_ORDER - j) * 2 ^ j ≡ SLOTS) refl refl refl refl refl refl refl refl

pub most : (j : ℕ) → j < ORDERS → 2 ^ (WHOLE_ORDER - j) ≤ SLOTS
most =
    each (λ (j : ℕ). 2 ^ (WHOLE_ORDER - j) ≤ SLOTS) (omega arith) (omega arith) (omega arith) (omega arith)
    (omega arith) (omega arith)
    (omega arith) (omega arith)

pub some : (j : ℕ) → j < ORDERS → 1 ≤ 2 ^ (WHOLE_ORDER - j)
some =
    each (λ (j : ℕ). 1 ≤ 2 ^ (WHOLE_ORDER - j)) (omega arith) (omega arith) (omega arith) (omega arith) (omega arith)
    (omega arith)
    (omega arith) (omega arith)

-- orders from 2 on are in the first word
pub low_word : (j : ℕ) → j < ORDERS → 2 ≤ j → 2 ^ (WHOLE_ORDER - j) ≤ 32
low_word =
    each (λ (j : ℕ). 2 ≤ j → 2 ^ (WHOLE_ORDER - j) ≤ 32) (λ h. absurd (omega arith)) (λ h. absurd (omega arith))
    (λ h. omega arith)
    (λ h. omega arith) (λ h. omega arith) (λ h. omega arith) (λ h. omega arith) (λ h. omega arith)

-- a smaller order has twice the nodes
pub raised : (j : ℕ) → j < ORDERS → 1 ≤ j → 2 ^ (ORDERS - (j - 1)) ≡ 2 * 2 ^ (ORDERS - j)
raised =
    each (λ (j : ℕ). 1 ≤ j → 2 ^ (ORDERS - (j - 1)) ≡ 2 * 2 ^ (ORDERS - j)) (λ h. absurd (omega arith)) (λ h. refl)
    (λ h. refl) (λ h. refl)
    (λ h. refl) (λ h. refl) (λ h. refl) (λ h. refl)

-- the piece that a node is half of
pub half-below : (i j : ℕ) → j < WHOLE_ORDER → i < 2 ^ (ORDERS - j) → i / 2 < 2 ^ (ORDERS - (j + 1))
half-below i j h l =
    let e : ORDERS - (j + 1) ≡ WHOLE_ORDER - j = omega arith in
    rw e (omega (arith, twice j (omega arith)))

-- the slot where a node begins is one of the area
pub slot-below : (j i : ℕ) → j < ORDERS → 2 ^ (WHOLE_ORDER - j) ≤ i → i < 2 ^ (ORDERS - j)
    → (i - 2 ^ (WHOLE_ORDER - j)) * 2 ^ j < SLOTS
slot-below j i h a b =
    let d : i - 2 ^ (WHOLE_ORDER - j) < 2 ^ (WHOLE_ORDER - j) = omega (arith, twice j h) in
    let m = mul-lt-mul_of_pos_right d (pow_pos j) in
    omega (arith, m, area j h)

-- a slot's node is one of its order
pub node-below : (j s : ℕ) → j < ORDERS → s < SLOTS → 2 ^ (WHOLE_ORDER - j) + s / 2 ^ j < 2 ^ (ORDERS - j)
node-below j s h l =
    let e : WHOLE_ORDER - j + j ≡ WHOLE_ORDER = omega arith in
    let b = shr_lt {n = s} (WHOLE_ORDER - j) j (rw e l) in
    omega (arith, b, twice j h)

-- a node's number, shifted, is below that of all slots of both halves, and not below that of the first
pub node-most : (j i : ℕ) → j < ORDERS → i < 2 ^ (ORDERS - j) → i * 2 ^ j < 2 * SLOTS
node-most j i h b =
    let e : ORDERS - j + j ≡ ORDERS = omega arith in
    rw e at (shl_lt (ORDERS - j) j b)

pub node-least : (j i : ℕ) → j < ORDERS → 2 ^ (WHOLE_ORDER - j) ≤ i → SLOTS ≤ i * 2 ^ j
node-least j i h a = omega (arith, mul-le-mul_right (2 ^ j) a, area j h)

pub place-shifted : (j i : ℕ) → j < ORDERS → i < 2 ^ (ORDERS - j) → i * 2 ^ j % 18446744073709551616 ≡ i * 2 ^ j
place-shifted j i h b = mod-eq_of_lt (omega (arith, node-most j i h b))

-- a node of an order from 2 on is in the first word
pub in-first : (j i : ℕ) → j < ORDERS → 2 ≤ j → i < 2 ^ (ORDERS - j) → i < WORD_MARKS
in-first j i h g l = omega (arith, twice j h, low_word j h g)

-- so is the other half of the piece of which it is one half
pub buddy-first : (j i : ℕ) → j < WHOLE_ORDER → 2 ≤ j → i < 2 ^ (ORDERS - j) → buddy i < WORD_MARKS
buddy-first j i h g l = in-first j (buddy i) (omega arith) g (omega (arith, twice j (omega arith)))

-- and the upper one of its own halves, if they are of order 2 or more
pub upper-first : (j i : ℕ) → j < ORDERS → 3 ≤ j → i < 2 ^ (ORDERS - j) → 2 * i + 1 < WORD_MARKS
upper-first j i h g l =
    in-first (j - 1) (2 * i + 1) (omega arith) (omega arith) (omega (arith, raised j h (omega arith)))

-- the node of order 2 that begins where a larger one does
pub shifted_down : (j i : ℕ) → j < ORDERS → 2 ≤ j → i < 2 ^ (ORDERS - j) → i * 2 ^ (j - 2) < 64
shifted_down j i h g l =
    let e : ORDERS - j + (j - 2) ≡ 6 = omega arith in
    rw e at (shl_lt (ORDERS - j) (j - 2) l)

pub down-shifted : (j i : ℕ) → j < ORDERS → 2 ≤ j → i < 2 ^ (ORDERS - j)
    → i * 2 ^ (j - 2) % 18446744073709551616 ≡ i * 2 ^ (j - 2)
down-shifted j i h g l = mod-eq_of_lt (omega (arith, shifted_down j i h g l))
