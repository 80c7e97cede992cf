-- The order of a size is the length in bits of the whole 512s of the size less one.
use Prim.Native.Nat.{ℕ, ◌+◌, ◌-◌, ◌*◌, ◌/◌, ◌^◌, ◌<◌, ◌≤◌}
use mathlib.Core.Path.{◌≡◌}
use native.Mathlib.Nat.{pow-suc}
use native.Mathlib.Omega.{arith}
use lib.Count.{count_leading_zeros, leading_length}
use lib.Pow.{pow_mono}
use Rattle.limits.specs.Limits.{WORD_MARKS, WHOLE_ORDER, SLOT_BYTES, LARGEST_STRIP}
use Rattle.rows.specs.Comparisons.{Order, before, after, order?}
use Rattle.pieces.specs.StripSizes.{strip_bytes, RoundsTo}
use Rattle.pieces.proofs.PieceLengths.{power}

pub length-rounds : (z m : ℕ) → 0 < z → z ≤ LARGEST_STRIP → (z - 1) / SLOT_BYTES < 2 ^ m
    → 2 ^ m ≤ 2 * ((z - 1) / SLOT_BYTES) + 1 → RoundsTo z m
length-rounds z m p b h l =
    record { within = short (order? WHOLE_ORDER m); holds = omega (arith, power m); smallest = λ j g. less j g }
  where
    short : Order WHOLE_ORDER m → m ≤ WHOLE_ORDER
    short (before g) = absurd (omega (arith, pow_mono g))
    short (after g) = g

    less : (j : ℕ) → j < m → strip_bytes j < z
    less j g = omega (arith, pow_mono g, pow-suc 2 j, power j)

pub order-rounds : (z : ℕ) → 0 < z → z ≤ LARGEST_STRIP
    → RoundsTo z (WORD_MARKS - count_leading_zeros WORD_MARKS ((z - 1) / SLOT_BYTES))
order-rounds z p b =
    let x = leading_length WORD_MARKS ((z - 1) / SLOT_BYTES) (omega arith) in
    let e : WORD_MARKS - count_leading_zeros WORD_MARKS ((z - 1) / SLOT_BYTES) ≡ x.0 = omega (arith, x.1) in
    rw e (length-rounds z x.0 p b x.2 x.3)
