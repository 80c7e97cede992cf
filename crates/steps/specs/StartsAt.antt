-- docs/POOL.md, "Requests, steps and moves"
-- The list move that has its head read at a place.
use Rattle.std.specs.Prelude.{◌≡◌, ◌≢◌, ℕ}
use Rattle.std.specs.declared.option.Option.{Option}
use Rattle.std.specs.declared.option.Option.TheVariants.{None, Some}
use Rattle.control.specs.Places.{POP_PARTIAL, POP_SPARE, POP_REGION, PUSH_RETIRE, PUSH_BACK, PUSH_RELEASE, PUSH_OFFER}
use Rattle.stepped.specs.Lists.{pop_place, push_place}
use Rattle.steps.specs.declared.moves.Move.{Move}
use Rattle.steps.specs.declared.moves.Move.TheVariants.{Pop, Push}

-- the place is the first of the move; it is the first of none where there is no move
abbrev pub StartsAt : Option Move → ℕ → Type 0
StartsAt (Some (Pop p)) place = place ≡ pop_place p
StartsAt (Some (Push p)) place = place ≡ push_place p
StartsAt None place =
    (place ≢ POP_PARTIAL) × (place ≢ POP_SPARE) × (place ≢ POP_REGION) × (place ≢ PUSH_RETIRE)
    × (place ≢ PUSH_BACK) × (place ≢ PUSH_RELEASE) × (place ≢ PUSH_OFFER)
