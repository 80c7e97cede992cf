-- The first bytes of the area, lent and taken back.
use Prim.Native.Nat.{ℕ, ◌≤◌}
use mathlib.Core.Path.{◌≡◌, sym, ap, ◌∙◌}
use mathlib.Core.List.{List, ◌++◌}
use lib.ListN.{length, take}
use lib.Seq.{length-take-le, take-append_seam}
use borrow.Rule.Slice.PartMut.{mid_of, post_of, put_mid, same_len_mid}

-- the part of the first k bytes has k bytes
pub part_length : (k : ℕ) (xs : List ℕ) → k ≤ length xs → length (mid_of 0 k xs) ≡ k
part_length k xs h = length-take-le k xs h

-- a part that was put back is there
pub part-back : (k : ℕ) (xs ys : List ℕ) → length ys ≡ k → mid_of 0 k (put_mid 0 k xs ys) ≡ ys
part-back k xs ys e = ap (λ (n : ℕ). take n (ys ++ post_of 0 k xs)) (sym e) ∙ take-append_seam ys (post_of 0 k xs)

-- the area is as long as it was, once a part of it is put back
pub back-length : (k : ℕ) (xs ys : List ℕ) → k ≤ length xs → length ys ≡ k → length (put_mid 0 k xs ys) ≡ length xs
back-length k xs ys h e = same_len_mid 0 k xs ys (e ∙ sym (part_length k xs h))
