-- The rules as computable tests.
use Rattle.std.specs.Prelude.{List, [], ◌∷◌}
use Rattle.squares.specs.declared.shogi.piece.HandKind.{HandKind}
use Rattle.squares.specs.declared.shogi.piece.HandKind.TheVariants as in_hand

-- The kinds of pieces that can be in a hand.
abbrev pub all_kinds : List HandKind
all_kinds = in_hand.Rook ∷ in_hand.Bishop ∷ in_hand.Gold ∷ in_hand.Silver ∷ in_hand.Knight ∷ in_hand.Lance
    ∷ in_hand.Pawn ∷ []
