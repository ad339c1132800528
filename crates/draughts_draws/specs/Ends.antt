-- The ends of a game of international draughts, with the FMJD's numbers; all of them are automatic.
use Rattle.std.specs.Prelude.{◌≡◌, ◌⊎◌, ℕ, ◌-◌, ◌==◌, ◌&&◌, ◌||◌, nat_le, not, if◌then◌else◌, Bool, false, IsTrue}
use Rattle.std.specs.Prelude.{Option, Some, None, List, [], ◌∷◌, length, count_by, drop}
use Rattle.std.specs.List.{list_all, range_with_len, zip}
use Rattle.std.specs.FinMap as map
use Rattle.std.specs.FinSet as set
use Rattle.squares.specs.declared.sides.Side.{Side}
use Rattle.squares.specs.declared.sides.Side.TheVariants.{First, Second}
use Rattle.squares.specs.declared.sides.Score.{Score}
use Rattle.squares.specs.declared.sides.Score.TheVariants.{Draw}
use Rattle.squares.specs.declared.draughts.piece.DPiece.{DPiece}
use Rattle.squares.specs.declared.draughts.moves.DMove.{DMove}
use Rattle.squares.specs.Sides.{same_side, loses}
use Rattle.squares.specs.DraughtsBoard.{Position}
use Rattle.squares.specs.DraughtsSamePosition.{same_position}
use Rattle.draughts_moves.specs.Legal.{HasMove}
use Rattle.draughts_moves.proofs.Proved.{move-answer}
use Rattle.draughts_draws.specs.declared.ends.DEnd.{DEnd}
use Rattle.draughts_draws.specs.declared.ends.DEnd.TheVariants.{NoMove, Repetition, KingMoves, ThreeToOne, TwoToOne}
use Rattle.draughts_draws.specs.declared.ends.DEnd.TheVariants.{PlyLimit}
use Rattle.draughts_draws.specs.Line.{last_position, positions}

-- Whether the side to move has a legal move: the Boolean that is true exactly if it has one.
abbrev pub can_move : Position → Bool
can_move p = (move-answer p).value

-- Whether the last position, with its side to move, occurs for the third time.
unfoldable pub stands_thrice : Position → List Position → Bool
stands_thrice last ps = nat_le 3 (count_by (λ p. same_position p last) ps)

-- Whether the cell holds a king.
abbrev pub is_king : Option DPiece → Bool
is_king None = false
is_king (Some piece) = piece.king

-- A king move without a capture.
abbrev pub is_king_move : Position → DMove → Bool
is_king_move p m = (set.len m.taken == 0) && is_king (map.get p.board m.from)

-- Whether the last 50 plies were king moves without a capture; each move is paired with its position.
unfoldable pub are_king_moves : List Position → List DMove → Bool
are_king_moves ps ms = nat_le 50 (length ms) && list_all (λ e. is_king_move e.0 e.1)
    (zip (drop (length ms - 50) ps) (drop (length ms - 50) ms))

-- Whether the cell holds a piece of the side.
abbrev pub is_piece_of : Side → Option DPiece → Bool
is_piece_of side None = false
is_piece_of side (Some piece) = same_side piece.side side

-- Whether the cell holds a king of the side.
abbrev pub is_king_of : Side → Option DPiece → Bool
is_king_of side None = false
is_king_of side (Some piece) = same_side piece.side side && piece.king

-- The number of a side's pieces.
unfoldable pub count_of_pieces : Side → Position → ℕ
count_of_pieces side p = count_by (λ n. is_piece_of side (map.get p.board n)) (range_with_len 1 50)

-- The number of a side's kings.
unfoldable pub count_of_kings : Side → Position → ℕ
count_of_kings side p = count_by (λ n. is_king_of side (map.get p.board n)) (range_with_len 1 50)

-- One king and no other piece.
abbrev pub has_lone_king : Side → Position → Bool
has_lone_king side p = (count_of_pieces side p == 1) && (count_of_kings side p == 1)

-- Three pieces, at least one of them a king.
abbrev pub has_three : Side → Position → Bool
has_three side p = (count_of_pieces side p == 3) && nat_le 1 (count_of_kings side p)

-- Two pieces, at least one of them a king.
abbrev pub has_two : Side → Position → Bool
has_two side p = (count_of_pieces side p == 2) && nat_le 1 (count_of_kings side p)

-- Three pieces, at least one of them a king, against a lone king.
abbrev pub is_three_to_one : Position → Bool
is_three_to_one p = (has_three First p && has_lone_king Second p) || (has_three Second p && has_lone_king First p)

-- A king, or two pieces with at least one king, against a lone king.
abbrev pub is_two_to_one : Position → Bool
is_two_to_one p =
    ((has_lone_king First p || has_two First p) && has_lone_king Second p) ||
    ((has_lone_king Second p || has_two Second p) && has_lone_king First p)

-- Whether there are at least `count` positions and the last `count` are all in a class.
unfoldable pub ends_with : ℕ → (Position → Bool) → List Position → Bool
ends_with count class ps = nat_le count (length ps) && list_all class (drop (length ps - count) ps)

-- A history meets the condition of this end, whether or not it also meets that of another.
abbrev pub Meets : Position → List DMove → DEnd → Type 0
Meets start ms NoMove = HasMove (last_position start ms) → ⊥
Meets start ms Repetition = IsTrue (stands_thrice (last_position start ms) (positions start ms))
Meets start ms KingMoves = IsTrue (are_king_moves (positions start ms) ms)
Meets start ms ThreeToOne = IsTrue (ends_with 33 is_three_to_one (positions start ms))
Meets start ms TwoToOne = IsTrue (ends_with 11 is_two_to_one (positions start ms))
Meets start ms PlyLimit = length ms ≡ 600

-- The first of these ends whose condition a history meets; none if it meets no condition.
abbrev pub IsFirstOf : Position → List DMove → List DEnd → Option DEnd → Type 0
IsFirstOf start ms [] found = found ≡ None
IsFirstOf start ms (end ∷ ends) found = (Meets start ms end × (found ≡ Some end))
    ⊎ ((Meets start ms end → ⊥) × IsFirstOf start ms ends found)

-- The ends in their order: if several conditions are met, the first counts.
abbrev pub ends_in_order : List DEnd
ends_in_order = NoMove ∷ Repetition ∷ KingMoves ∷ ThreeToOne ∷ TwoToOne ∷ PlyLimit ∷ []

-- The end of a history, if its last ply ends it.
abbrev pub EndsSo : Position → List DMove → Option DEnd → Type 0
EndsSo start ms = IsFirstOf start ms ends_in_order

-- The first end that holds, from the last position, all positions and all moves of a history.
unfoldable pub first_end : Position → List Position → List DMove → Option DEnd
first_end last ps ms =
    if not (can_move last)
    then Some NoMove
    else if stands_thrice last ps
    then Some Repetition
    else if are_king_moves ps ms
    then Some KingMoves
    else if ends_with 33 is_three_to_one ps
    then Some ThreeToOne
    else if ends_with 11 is_two_to_one ps then Some TwoToOne else if length ms == 600 then Some PlyLimit else None

-- The end of a history as one expression; it is the one that `EndsSo` allows.
unfoldable pub end_of : Position → List DMove → Option DEnd
end_of start ms = first_end (last_position start ms) (positions start ms) ms

-- The score of an end, by the side to move after it: a side without a move loses, the rest are draws.
abbrev pub outcome_of : DEnd → Side → Score
outcome_of NoMove turn = loses turn
outcome_of Repetition turn = Draw
outcome_of KingMoves turn = Draw
outcome_of ThreeToOne turn = Draw
outcome_of TwoToOne turn = Draw
outcome_of PlyLimit turn = Draw
