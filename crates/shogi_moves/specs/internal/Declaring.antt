-- The entering-king declaration by the 27-point rule. No promise of the program rests on these definitions.
use Rattle.std.specs.Prelude.{◌↔◌, ℕ, ◌+◌, ◌&&◌, not, nat_le, Bool}
use Rattle.std.specs.Prelude.{IsTrue}
use Rattle.std.specs.List.{list_any}
use Rattle.std.specs.FinMap as map
use Rattle.squares.specs.declared.sides.Side.{Side}
use Rattle.squares.specs.declared.shogi.hand.Hand.{Hand}
use Rattle.squares.specs.ShogiBoard.{ShogiBoard}
use Rattle.squares.specs.ShogiSets.{ShogiPosition}
use Rattle.squares.specs.internal.ShogiSets.{holds_king}
use Rattle.squares.specs.ShogiHands.{hand_of}
use Rattle.shogi_moves.specs.Search.{all_squares}
use Rattle.shogi_moves.specs.internal.Search.{king_attacked}
use Rattle.shogi_moves.specs.Declaring.{in_camp, entered, camp_points, hand_points, points_needed, pieces_needed}
use Rattle.shogi_moves.specs.Declaring.{CanDeclare}

-- whether the side's king is on this square, in the enemy's camp
abbrev pub king_entered_at : ShogiBoard → Side → ℕ → Bool
king_entered_at board side square = holds_king side (map.get board square) && in_camp side square

-- Whether the side's king is in the enemy's camp.
unfoldable pub king_entered : ShogiBoard → Side → Bool
king_entered board side = list_any (king_entered_at board side) all_squares

-- Whether the side has enough pieces in the enemy's camp, and enough points with its hand, for a declaration.
abbrev pub has_enough : ShogiBoard → Hand → Side → Bool
has_enough board hand side =
    nat_le pieces_needed (entered board side)
    && nat_le (points_needed side) (camp_points board side + hand_points hand)

-- Whether the side to move may declare a win.
unfoldable pub can_declare : ShogiPosition → Bool
can_declare p =
    (king_entered p.board p.turn && not (king_attacked p.board p.turn))
    && has_enough p.board (hand_of p.turn p.hands) p.turn

-- The computed test agrees with the rule.
abbrev pub CanDeclareIs : Type 0
CanDeclareIs = (p : ShogiPosition) → IsTrue (can_declare p) ↔ CanDeclare p
