-- The item of a list that a task holds: that which a push has in hand.
use Prim.Native.Nat.{ℕ, ◌≤◌}
use native.Mathlib.Omega.{arith}
use Rattle.rows.proofs.Weights.{when-same}
use Rattle.plain.specs.State.{State, Phase, Place, pushing, working, Purpose}
use Rattle.plain.specs.Held.{holds_descriptor, holds_region}
use Rattle.control.specs.declared.moves.Push.{Push}
use Rattle.control.specs.declared.moves.Push.TheVariants.{Retire, Back, Release, Offer}
use Rattle.stepped.specs.Lists.{Items, descriptor_items, region_items, push_items}
use Rattle.agreement.specs.Contents.{TaskHand}
use Rattle.agreement.specs.Relation.{in_hand, plain_push}

-- the item x is held at the place p
abbrev pub HoldsItem : Items → ℕ → Place → Type 0
HoldsItem descriptor_items x p = 1 ≤ holds_descriptor x p
HoldsItem region_items x p = 1 ≤ holds_region x p

-- a push holds the item that it has in hand
pub push-holds : (P : Push) (c : ℕ) (z : Purpose) (h : TaskHand) (w : State) (φ : Phase)
    → HoldsItem (push_items P) (in_hand (push_items P) h) (working (pushing (plain_push P c z h w) φ))
push-holds Retire c z h w φ = omega (arith, when-same h.descriptor 1)
push-holds Back c z h w φ = omega (arith, when-same h.descriptor 1)
push-holds Release c z h w φ = omega (arith, when-same h.region 1)
push-holds Offer c z h w φ = omega (arith, when-same h.descriptor 1)
