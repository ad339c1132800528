-- The view of a game that members see.
use Rattle.std.specs.Prelude.{ℕ, List, Option}
use Rattle.squares.specs.declared.sides.Score.{Score}
use Rattle.club_rules.specs.declared.names.EndName.{EndName}
use Rattle.club_rules.specs.EndName.{end_text}
use Rattle.club_core.specs.declared.rows.GameEnd.{GameEnd}
use Rattle.club_core.specs.declared.rows.GameEnd.TheVariants.{Rule, Verdict, Outside}
use Rattle.club_requests.specs.OutsideEnd.{outside_text}
use Rattle.club_requests.specs.Rulings.{verdict_text}

-- a game as any member may see it: event and players by name, moves and position in notation
pub record GameShown : Type 0 where
  pub event : List ℕ
  pub first : List ℕ
  pub second : List ℕ
  pub moves : List (List ℕ)
  pub position : List ℕ
  pub left_first : ℕ
  pub left_second : ℕ
  -- the member who has made a draw offer that is still valid
  pub offer : Option (List ℕ)
  pub end : Option (GameEnd EndName)
  pub result : Option Score

-- name of an end, without its side
abbrev pub end_name : GameEnd EndName → List ℕ
end_name (Rule end) = end_text end
end_name (Verdict verdict) = verdict_text verdict
end_name (Outside end) = outside_text end
