-- Hands: the number of pieces of each kind that a side holds.
use Rattle.std.specs.Prelude.{ℕ}
use Rattle.squares.specs.declared.sides.Side.{Side}
use Rattle.squares.specs.declared.sides.Side.TheVariants.{First, Second}
use Rattle.squares.specs.declared.shogi.piece.HandKind.{HandKind}
use Rattle.squares.specs.declared.shogi.piece.HandKind.TheVariants as in_hand
use Rattle.squares.specs.declared.shogi.hand.Hand.{Hand}
use Rattle.squares.specs.declared.shogi.hand.Hands.{Hands}

-- The number of pieces of a kind in a hand.
abbrev pub count_of : HandKind → Hand → ℕ
count_of in_hand.Rook hand = hand.rook
count_of in_hand.Bishop hand = hand.bishop
count_of in_hand.Gold hand = hand.gold
count_of in_hand.Silver hand = hand.silver
count_of in_hand.Knight hand = hand.knight
count_of in_hand.Lance hand = hand.lance
count_of in_hand.Pawn hand = hand.pawn

-- The hand with `count` pieces of a kind.
abbrev pub with_count : HandKind → ℕ → Hand → Hand
with_count in_hand.Rook count hand = record hand { rook = count }
with_count in_hand.Bishop count hand = record hand { bishop = count }
with_count in_hand.Gold count hand = record hand { gold = count }
with_count in_hand.Silver count hand = record hand { silver = count }
with_count in_hand.Knight count hand = record hand { knight = count }
with_count in_hand.Lance count hand = record hand { lance = count }
with_count in_hand.Pawn count hand = record hand { pawn = count }

-- The hand of a side.
abbrev pub hand_of : Side → Hands → Hand
hand_of First hands = hands.first
hand_of Second hands = hands.second
