-- Two tests asked together: both hold, or one of them does not.
use mathlib.Core.Path.{◌≡◌, refl}
use mathlib.Core.Bool.{Bool, true, false, ◌&&◌}

pub both_left : (x y : Bool) → (x && y) ≡ true → x ≡ true
both_left true y e = refl
both_left false y e = e

pub both_right : (x y : Bool) → (x && y) ≡ true → y ≡ true
both_right true y e = e
both_right false y e = cc

pub no-first : (x y : Bool) → x ≡ false → (x && y) ≡ false
no-first x y e = rw e

pub no_second : (x y : Bool) → y ≡ false → (x && y) ≡ false
no_second true y e = e
no_second false y e = refl
