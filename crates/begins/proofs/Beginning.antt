-- The beginning of an allocation, one law for each way out.
use Rattle.std.proofs.Common.{◌≡◌, ℕ, ◌<◌, ◌≤◌, Bool, true, false, cond, eqb, ltb, ◌≢◌, [], ◌∷◌, refl, Ok, Err}
use Rattle.std.proofs.Common.{◌∙◌, ap, sym, arith, le-ltb, lt-ltb, eq-eqb, ne_eqb}
use borrow.Author.Tests.{eqb-false, ltb-true, ltb-false}
use Rattle.limits.specs.Limits.{LARGEST_SIZE, LARGEST_STRIP}
use Rattle.limits.specs.declared.refusal.Refusal.TheVariants.{SizeZero, SizeTooLarge}
use Rattle.fields.specs.Columns.{View, ◌:=◌}
use Rattle.classes.specs.Sizes.{choice, class_of}
use Rattle.classes.specs.declared.size.Choice.{Choice}
use Rattle.classes.specs.declared.size.Choice.TheVariants.{Class, Strip}
use Rattle.pieces.specs.StripSizes.{order_of, RoundsTo}
use Rattle.pieces.proofs.StripSizes.{rounds, rounds-once}
use Rattle.plain.specs.Moves.{nothing}
use Rattle.control.specs.Layout.{TaskLost, TaskPlace, TaskClass}
use Rattle.control.specs.Places.{IDLE, A1, STRIP_TAKE, PLACES}
use Rattle.stepped.specs.Outcome.{Outcome, refuse, bad, accept}
use Rattle.stepped.specs.Calls.{when_idle, begin_allocate}
use Rattle.begins.specs.TestNumber.{unless_refused}
use Rattle.begins.proofs.Refusals.{goes}

-- ---- test 6

module _ (v : View) (t : ℕ) (x : Outcome) where
  pub no_place : PLACES ≤ v (TaskPlace t) → when_idle v t x ≡ bad
  unfolding when_idle
  no_place h = rw (le-ltb (v (TaskPlace t)) PLACES h)

  pub in-hand : v (TaskPlace t) < PLACES → v (TaskPlace t) ≢ IDLE → when_idle v t x ≡ refuse 6
  unfolding when_idle
  in-hand h e = rw (lt-ltb (v (TaskPlace t)) PLACES h, ne_eqb (v (TaskPlace t)) IDLE e)

  pub idle-is : v (TaskPlace t) ≡ IDLE → when_idle v t x ≡ x
  unfolding when_idle
  idle-is e = rw (lt-ltb (v (TaskPlace t)) PLACES (omega arith), eq-eqb (v (TaskPlace t)) IDLE e)

-- ---- sizes

-- the request of the task t begins, at its first place and with its class or order
abbrev pub begins : ℕ → ℕ → ℕ → Outcome
begins t place c = accept nothing (TaskPlace t := place ∷ TaskClass t := c ∷ TaskLost t := 0 ∷ []) []

-- a beginning by what the size is given, and by the order that it has as a strip
abbrev pub given : ℕ → ℕ → Choice → Outcome
given t k Strip = begins t STRIP_TAKE k
given t k (Class c) = begins t A1 c

by_tests : (p q s : Bool) (t k c : ℕ)
    → cond p (refuse 8) (cond q (refuse 9) (cond s (begins t STRIP_TAKE k) (begins t A1 c)))
    ≡ unless_refused (cond p (Err SizeZero) (cond q (Err SizeTooLarge) (cond s (Ok Strip) (Ok (Class c))))) (given t k)
by_tests true q s t k c = refl
by_tests false true s t k c = refl
by_tests false false true t k c = refl
by_tests false false false t k c = refl

pub by-choice : (t size : ℕ) → begin_allocate t size ≡ unless_refused (choice size) (given t (order_of size))
unfolding begin_allocate choice
by-choice t size =
    by_tests (eqb size 0) (ltb LARGEST_STRIP size) (ltb LARGEST_SIZE size) t (order_of size) (class_of size)

-- a choice that is a strip refuses nothing
is-strip : (p q s : Bool) (c : ℕ)
    → cond p (Err SizeZero) (cond q (Err SizeTooLarge) (cond s (Ok Strip) (Ok (Class c)))) ≡ Ok Strip
    → (p ≡ false) × (q ≡ false)
is-strip true q s c e = let z : ◌≡◌ {A = ℕ} 0 1 = cc in absurd (omega arith)
is-strip false true s c e = let z : ◌≡◌ {A = ℕ} 0 1 = cc in absurd (omega arith)
is-strip false false s c e = (refl, refl)

-- a size that is given a strip has the order of one
pub strip-size : (size : ℕ) → choice size ≡ Ok Strip → (0 < size) × (size ≤ LARGEST_STRIP)
unfolding choice
strip-size size e =
    let b = is-strip (eqb size 0) (ltb LARGEST_STRIP size) (ltb LARGEST_SIZE size) (class_of size) e in
    (omega (arith, eqb-false size 0 b.0), omega (arith, ltb-false LARGEST_STRIP size b.1))

-- a strip is given to no size up to the largest of a small block
is-large : (p q s : Bool) (c : ℕ)
    → cond p (Err SizeZero) (cond q (Err SizeTooLarge) (cond s (Ok Strip) (Ok (Class c)))) ≡ Ok Strip → s ≡ true
is-large true q s c e = let z : ◌≡◌ {A = ℕ} 0 1 = cc in absurd (omega arith)
is-large false true s c e = let z : ◌≡◌ {A = ℕ} 0 1 = cc in absurd (omega arith)
is-large false false true c e = refl
is-large false false false c e = let z : ◌≡◌ {A = ℕ} 0 1 = cc in absurd (omega arith)

-- a strip serves larger sizes than the small blocks do
pub strip-larger : (size : ℕ) → choice size ≡ Ok Strip → LARGEST_SIZE < size
unfolding choice
strip-larger size e =
    ltb-true LARGEST_SIZE size
    (is-large (eqb size 0) (ltb LARGEST_STRIP size) (ltb LARGEST_SIZE size) (class_of size) e)

-- k is the order that the code has of a strip
pub as-strip : (t size k : ℕ) → choice size ≡ Ok Strip → RoundsTo size k → begin_allocate t size ≡ begins t STRIP_TAKE k
as-strip t size k e r =
    let d = rounds-once size k (order_of size) r (rounds size (strip-size size e).1) in
    goes _ (given t (order_of size)) (by-choice t size) e ∙ ap (begins t STRIP_TAKE) (sym d)
