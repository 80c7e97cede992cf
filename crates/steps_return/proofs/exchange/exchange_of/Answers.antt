-- The exchange is lost where the anchor is another than the noted one.
use Prim.Native.Nat.{ℕ}
use native.Mathlib.Omega.{arith}
use mathlib.Core.Path.{◌≡◌, sym, ◌∙◌}
use mathlib.Core.Bool.{true}
use borrow.Author.Rules.{rules}
use borrow.Author.Tests.{ne_eqb}
use Rattle.fields.specs.Columns.{View}
use Rattle.plain.specs.Moves.{anchor_lost}
use Rattle.control.specs.Layout.{Anchor}
use Rattle.control.specs.Places.{F3_READ}
use Rattle.stepped.specs.Outcome.{lose}
use Rattle.stepped.specs.Ranges.{is_anchor}
use Rattle.stepped.specs.Free.{f3_exchange_of}
use Rattle.stepped.proofs.Doing.{loses}
use Rattle.steps_return.proofs.exchange.exchange_of.Goals as goal

-- k is the anchor that stands there
another : (v : View) (link : ℕ → ℕ) (regions t c d word first g : ℕ) {k : ℕ} → k ≡ v (Anchor d) → is_anchor k ≡ true
    → (k ≡ word → ⊥) → f3_exchange_of v link regions t c d word first g ≡ lose v t (anchor_lost d) F3_READ
unfolding f3_exchange_of
another v link regions t c d word first g p h e = rw (← p, h, ne_eqb _ _ e)

pub returns-then-current-word : goal.returns-then-current-word
returns-then-current-word c link =
    loses
    (another _ link _ _ _ _ _ _ _ c.get-current.ensures (sym c.is_anchor.ensures ∙ c.in_ok-in_range.ensures.passed)
    (omega arith))
    (search rules) c.set.ensures c.count.ensures
