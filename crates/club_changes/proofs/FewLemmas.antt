-- How few the ended games of a legal club are.
use Rattle.std.proofs.Common.{◌≡◌, ℕ, ◌+◌, ◌*◌, ◌≤◌, List, [], ◌∷◌, length, take, drop, pos, Option, Some, None}
use Rattle.std.proofs.Common.{ap, sym, ◌∙◌, arith, length-append}
use Rattle.std.proofs.lemmas.List.{take-append-drop}
use Rattle.std.specs.Prelude.{ℤ}
use Rattle.std.specs.List.{flat_map}
use Rattle.squares.specs.declared.sides.Score.{Score}
use Rattle.club_core.specs.declared.rows.GameEnd.{GameEnd}
use Rattle.club_core.specs.Game.{end_of, result_of}
use Rattle.club_core.specs.State.{draughts, shogi}
use Rattle.club_rows.specs.Club.{ClubGame, both_games}
use Rattle.club_rows.specs.Scores.{meetings_if, meetings_in}

result_few : {E : Type 0} (event first second : ℤ) (end : Option (GameEnd E)) (score : Option Score)
    → length (meetings_if event first second end score) ≤ 2
result_few event first second None score = omega arith
result_few event first second (Some end) score = omega arith

game_few : (g : ClubGame) → length (meetings_in both_games g) ≤ 2
game_few (draughts g) = result_few (pos g.event) (pos g.first) (pos g.second)
    (end_of both_games.draughts g) (result_of both_games.draughts g)
game_few (shogi g) = result_few (pos g.event) (pos g.first) (pos g.second)
    (end_of both_games.shogi g) (result_of both_games.shogi g)

pub meets_few : (games : List ClubGame) → length (flat_map (meetings_in both_games) games) ≤ 2 * length games
meets_few [] = omega arith
meets_few (g ∷ games) =
    let here = game_few g in
    let rest = meets_few games in
    let both = length-append (meetings_in both_games g) (flat_map (meetings_in both_games) games) in
    omega (arith, here, rest, both)

-- the first elements of a list, and those after them
pub parts_length : {A : Type 0} (n : ℕ) (xs : List A) → length (take n xs) + length (drop n xs) ≡ length xs
parts_length n xs = sym (length-append (take n xs) (drop n xs)) ∙ ap length (take-append-drop n xs)
