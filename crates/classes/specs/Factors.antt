-- docs/POOL.md, "Classes"
-- The numbers by which a first unit is told without a division.
use Rattle.std.specs.Prelude.{◌≡◌, ℕ, ◌*◌, ◌%◌, ◌<◌, ltb}
use Rattle.limits.specs.Limits.{REGION_UNITS}
use Rattle.classes.specs.Geometry.{is_first}

-- a product is taken modulo this, 2^32
abbrev pub PRODUCT_MODULUS : ℕ
PRODUCT_MODULUS = 4294967296

-- the products of first units are below this, 2^16
abbrev pub FIRST_PRODUCTS : ℕ
FIRST_PRODUCTS = 65536

-- f tells the first units of class c: of a region's units these, and no others, have such a product with f
pub record Factor (c f : ℕ) : Type 0 where
  pub below : f < PRODUCT_MODULUS
  pub tells : (o : ℕ) → o < REGION_UNITS → ltb (o * f % PRODUCT_MODULUS) FIRST_PRODUCTS ≡ is_first c o
