-- A number written through a part of a list that is lent by itself, as `&mut s[a..a + k]`.
use mathlib.Core.Path.{◌≡◌}
use mathlib.Core.List.{List}
use Prim.Native.Nat.{ℕ, zero, suc, ◌+◌, ◌/◌, ◌%◌, ◌≤◌, ◌<◌}
use native.Mathlib.Nat.{add-suc}
use native.Mathlib.Omega.{arith}
use lib.ListN.{set, drop}
use lib.Seq.{drop-set-add, take-set-lt, drop-set-lt, take-set-le}
use borrow.Rule.Slice.PartMut.{mid_of, put_mid, put_same}
use Rattle.fields.specs.Little.{set_le}

mid-set : (xs : List ℕ) (a k at x : ℕ) → at < k → mid_of a k (set xs (a + at) x) ≡ set (mid_of a k xs) at x
mid-set xs a k at x h = rw (drop-set-add a xs at x, take-set-lt k (drop a xs) at x h)

put-set : (xs ys : List ℕ) (a k at x : ℕ) → at < k → put_mid a k (set xs (a + at) x) ys ≡ put_mid a k xs ys
put-set xs ys a k at x h =
    rw (drop-set-add a xs at x, drop-set-lt k (drop a xs) at x h, take-set-le a xs (a + at) x (omega arith))

-- a write at `at` of the part of k elements from `a` on is a write at `a + at` of the whole
pub set_le-part : (xs : List ℕ) (a k at w v : ℕ) → at + w ≤ k
    → put_mid a k xs (set_le (mid_of a k xs) at w v) ≡ set_le xs (a + at) w v
unfolding set_le
set_le-part xs a k at zero v h = put_same a k xs
set_le-part xs a k at (suc w) v h =
    let b = v % 256 in
    rw (
      ← mid-set xs a k at b (omega arith),
      ← put-set xs (set_le (mid_of a k (set xs (a + at) b)) (suc at) w (v / 256)) a k at b (omega arith),
    )
    (rw add-suc at (set_le-part (set xs (a + at) b) a k (suc at) w (v / 256) (omega arith)))
