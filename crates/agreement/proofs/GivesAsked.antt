-- What a finished request gives is what its task has asked for, by each kind of request.
use mathlib.Core.Path.{◌≡◌, refl, sym, subst}
use Prim.Native.Nat.{ℕ}
use native.Mathlib.Omega.{arith}
use Rattle.classes.proofs.Sizes.{holds, smallest}
use Rattle.pieces.specs.StripUnits.{strip_unit}
use Rattle.plain.specs.State.{Mem}
use Rattle.plain.specs.Requests.{allocation, freeing, strip_allocation, strip_freeing, leaving}
use Rattle.agreement.specs.Asked.{Asked, nothing_yet, for_bytes, for_free, for_leave}
use Rattle.agreement.specs.AtWhatAsked.{StripServes, AsAsked}
use Rattle.agreement.specs.Handed.{AlignedBlock, StripHanded, StripGiven, Gives, AllEmpty}

module _ (regions : ℕ) (before after : Mem) (t : ℕ) where
  -- an aligned block of the class of the request that was asked for is what is handed out
  pub gives : {c u : ℕ} (a : Asked) → AsAsked a (allocation c) → AlignedBlock regions c u
      → Gives regions before after t a u
  gives {u = u} (for_bytes size) Z B = (
    λ l. record {
      given = subst (λ (c : ℕ). AlignedBlock regions c u) Z.2 B;
      holds = holds size Z.1;
      smallest = smallest size;
    },
    λ l. absurd (omega (arith, Z.1)),
  )
  gives nothing_yet Z B = absurd Z
  gives (for_free unit) Z B = absurd Z
  gives for_leave Z B = absurd Z

  -- a free that was asked for gives no unit
  pub gives_none : (c u : ℕ) (a : Asked) → AsAsked a (freeing c u) → Gives regions before after t a 0
  gives_none c u (for_free unit) Z = (refl, λ l. absurd (omega (arith, Z.1)))
  gives_none c u nothing_yet Z = absurd Z
  gives_none c u (for_bytes size) Z = absurd Z
  gives_none c u for_leave Z = absurd Z

  -- so does one of a strip, whose pieces are joined
  pub gives-strip : (q : ℕ) (a : Asked) → AsAsked a (strip_freeing q)
      → ((u : ℕ) → u ≡ strip_unit q → StripGiven before.strips after.strips t u) → Gives regions before after t a 0
  gives-strip q (for_free unit) Z G = (refl, λ l. G unit (sym Z))
  gives-strip q nothing_yet Z G = absurd Z
  gives-strip q (for_bytes size) Z G = absurd Z
  gives-strip q for_leave Z G = absurd Z

  -- leaving that was asked for gives no unit, and leaves all caches empty
  pub gives_left : (a : Asked) → AsAsked a leaving → AllEmpty (after.task t).cache → Gives regions before after t a 0
  gives_left for_leave Z E = (refl, E)
  gives_left nothing_yet Z E = absurd Z
  gives_left (for_bytes size) Z E = absurd Z
  gives_left (for_free unit) Z E = absurd Z

  -- a strip of the order of the size that was asked for is what is handed out
  pub hands-strip : {c u : ℕ} (a : Asked) → AsAsked a (strip_allocation c)
      → ((size : ℕ) → StripServes size c → StripHanded before.strips after.strips size u)
      → Gives regions before after t a u
  hands-strip (for_bytes size) Z H = (λ l. absurd (omega (arith, Z.0)), λ l. H size Z)
  hands-strip nothing_yet Z H = absurd Z
  hands-strip (for_free unit) Z H = absurd Z
  hands-strip for_leave Z H = absurd Z
