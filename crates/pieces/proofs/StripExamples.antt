-- Worked examples, computed.
use mathlib.Core.Path.{◌≡◌, refl}
use mathlib.Core.List.{[], ◌∷◌}
use Rattle.limits.specs.Limits.{LARGEST_STRIP, WHOLE_ORDER}
use Rattle.pieces.specs.Pieces.{free, held, Pieces, one_piece}
use Rattle.pieces.specs.StripSizes.{order_of}
use Rattle.pieces.specs.Strips.{none_found, strip_at, take_strip, least_place, least_halved, free_begun, give_strip}
use Rattle.pieces.specs.PieceRows.{piece, pieces_row, having_slot}

-- "The bench row for 257 becomes a strip of 512"; the largest strip is the whole memory
size-257 : order_of 257 ≡ 0
unfolding Rattle.pieces.specs.StripSizes.order_from
size-257 = refl

size-512 : order_of 512 ≡ 0
unfolding Rattle.pieces.specs.StripSizes.order_from
size-512 = refl

size-513 : order_of 513 ≡ 1
unfolding Rattle.pieces.specs.StripSizes.order_from
size-513 = refl

size-65536 : order_of LARGEST_STRIP ≡ WHOLE_ORDER
unfolding Rattle.pieces.specs.StripSizes.order_from
size-65536 = refl

-- the first strip in a fresh pool: at its first slot, the free pieces of orders 0 to 6 behind it
first-strip : take_strip 0 one_piece ≡ strip_at 0 (least_halved 0 one_piece)
unfolding take_strip
first-strip = refl

first-row : pieces_row 0 (least_halved 0 one_piece)
    ≡ piece 0 0 held ∷ piece 1 0 free ∷ piece 2 1 free ∷ piece 4 2 free ∷ piece 8 3 free ∷ piece 16 4 free
    ∷ piece 32 5 free ∷ piece 64 6 free ∷ []
first-row = refl

-- its second slot is in one piece of that row, the free one behind the strip
second-slot : having_slot 1 (pieces_row 0 (least_halved 0 one_piece)) ≡ 1
second-slot = refl

-- given back, it is one free piece again
first_back : give_strip 0 (free_begun 3 0 (least_halved 0 one_piece)) ≡ one_piece
first_back = refl

-- two strips of 512, then one of 1,024: behind them, at slot 2; the whole memory is not to be had
second-row : pieces_row 0 (least_halved 1 (least_halved 0 (least_halved 0 one_piece)))
    ≡ piece 0 0 held ∷ piece 1 0 held ∷ piece 2 1 held ∷ piece 4 2 free ∷ piece 8 3 free ∷ piece 16 4 free
    ∷ piece 32 5 free ∷ piece 64 6 free ∷ []
second-row = refl

second_none : take_strip WHOLE_ORDER (least_halved 0 one_piece) ≡ none_found
unfolding take_strip
second_none = refl

-- four strips of 512, of which the first and the third are given back: the next one is at the lowest of two places
four-strips : Pieces WHOLE_ORDER
four-strips = least_halved 0 (least_halved 0 (least_halved 0 (least_halved 0 one_piece)))

lowest-place : least_place 0 (give_strip 2 (give_strip 0 four-strips)) ≡ 0
unfolding four-strips
lowest-place = refl

-- the first three are given back: the next one is of the smaller piece, at slot 2, not of the larger one before it
smallest-piece : least_place 0 (give_strip 2 (give_strip 1 (give_strip 0 four-strips))) ≡ 2
unfolding four-strips
smallest-piece = refl
