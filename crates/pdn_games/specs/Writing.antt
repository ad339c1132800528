-- The unique text of a game.
use Rattle.std.specs.Prelude.{ℕ, ◌+◌, ◌/◌, ◌%◌, ◌==◌, Option, Some, None, List, [], ◌∷◌, ◌++◌, length, codes}
use Rattle.std.specs.Prelude.{unsigned_abs, if◌then◌else◌}
use Rattle.std.specs.Fmt.{decimal}
use Rattle.clocks.specs.declared.dates.CivilTime.{CivilTime}
use Rattle.squares.specs.declared.sides.Score.{Score}
use Rattle.squares.specs.declared.draughts.moves.DMove.{DMove}
use Rattle.squares.specs.DraughtsBoard.{Position}
use Rattle.squares.specs.DraughtsOpening.{opening}
use Rattle.squares.specs.Sides.{score_text}
use Rattle.draughts_moves.specs.Legal.{play}
use Rattle.pdn.specs.MoveValue.{move_text}

-- a tag on its line: `[Name "value"]`
abbrev pub tag_line : List ℕ → List ℕ → List ℕ
tag_line name value = 91 ∷ name ++ (32 ∷ 34 ∷ value ++ (34 ∷ 93 ∷ 10 ∷ []))

-- the last two decimal digits of a number
abbrev pub two_digits : ℕ → List ℕ
two_digits n = (48 + n / 10 % 10) ∷ (48 + n % 10) ∷ []

-- `YYYY.MM.DD`
abbrev pub date_text : CivilTime → List ℕ
date_text at = two_digits (unsigned_abs at.year / 100)
    ++ (two_digits (unsigned_abs at.year) ++ (46 ∷ two_digits at.month ++ 46 ∷ two_digits at.day))

-- the text of a score, or `*` for a running game
abbrev pub result_text : Option Score → List ℕ
result_text None = codes "*"
result_text (Some score) = score_text score

-- the tags of a game, and the empty line after them
abbrev pub head_text : List ℕ → CivilTime → List ℕ → List ℕ → Option Score → List ℕ
head_text event date white black score =
    tag_line (codes "Event") event
    ++
    (tag_line (codes "Date") (date_text date)
    ++ (tag_line (codes "White") white ++ (tag_line (codes "Black") black ++
    (tag_line (codes "Result") (result_text score) ++ (tag_line (codes "GameType") (codes "20") ++ 10 ∷ [])))))

-- A move after `plies` plies: White's after its number, as `1. 32-28`; Black's after a space, with the line's end.
abbrev pub ply_text : ℕ → List ℕ → List ℕ
ply_text plies text = if plies % 2 == 0 then decimal (plies / 2 + 1) ++ (46 ∷ 32 ∷ text) else 32 ∷ text ++ 10 ∷ []

-- moves from a position on, after `plies` plies
abbrev pub plies_text : Position → ℕ → List DMove → List ℕ
plies_text p plies [] = []
plies_text p plies (m ∷ ms) = ply_text plies (move_text p m) ++ plies_text (play p m) (plies + 1) ms

-- the end of the last line of moves if White moved last, and the result
abbrev pub end_text : ℕ → Option Score → List ℕ
end_text plies score = if plies % 2 == 0 then result_text score ++ 10 ∷ [] else 10 ∷ result_text score ++ 10 ∷ []

-- the whole text of a game
abbrev pub game_text : List ℕ → CivilTime → List ℕ → List ℕ → Option Score → List DMove → List ℕ
game_text event date white black score ms =
    head_text event date white black score ++ (plies_text opening 0 ms ++ end_text (length ms) score)
