-- Rows of games in which a value has the wrong type: the ids, events and players that can be read, and the games by
-- which the moves are checked. No promise of the program rests on these definitions.
use Rattle.std.specs.Prelude.{◌≡◌, ◌⊎◌, ◌<◌, ℤ, negsuc, List, [], ◌∷◌, map}
use Rattle.sqlite_value.specs.declared.value.Value.{Value}
use Rattle.sqlite_value.specs.declared.value.Value.TheVariants.{Int}
use Rattle.sqlite.specs.Order.{Row, column}
use Rattle.sqlite.specs.Effect.{Database}
use Rattle.sqlite.specs.State.{State, IsUnchanged}
use Rattle.store_tables.specs.Placed.{club_trees}
use Rattle.store_tables.specs.Cells.{IsGame, game_cells}
use Rattle.store_tables.specs.Content.{Keeps}
use Rattle.store_tables.specs.internal.Reading.{AreIds}
use Rattle.store_tables.specs.declared.names.Table.{Table}
use Rattle.store_tables.specs.declared.names.Table.TheVariants.{Challenges, Games, Moves, Rulings}
use Rattle.store_tables.specs.declared.names.Version.{Version}
use Rattle.store_tables.specs.declared.rows.GameTableRow.{GameTableRow}
use Rattle.store_tables.specs.declared.rows.Rows.{Rows}
use Rattle.store_tables.specs.Tables.{standing}
use Rattle.club_audit.specs.internal.ChallengeAudit.{AreChallenges}
use Rattle.club_core.specs.declared.challenges.Challenge.{Challenge}
use Rattle.club_audit.specs.FirstWrong.{order}
use Rattle.club_check.specs.internal.RightMoves.{MovesRight, MovesWrong, RulingsRight, RulingsWrong}
use Rattle.club_check.specs.internal.RightTables.{IsUntyped}
use Rattle.club_check.specs.declared.fault.OpenFault.{OpenFault}
use Rattle.club_check.specs.declared.fault.OpenFault.TheVariants.{Damaged, Memory, Store}

-- the integer value, or -1, which is no id
abbrev pub known : Value → ℤ
known (Int n) = n
known _ = negsuc 0

-- the id, event and players of a game
abbrev pub game_seat : GameTableRow → List ℤ
game_seat game = game.id ∷ game.event ∷ game.first ∷ game.second ∷ []

-- the same, from its row
abbrev pub row_seat : Row → List ℤ
row_seat row = known (column row 0) ∷ known (column row 2) ∷ known (column row 3) ∷ known (column row 4) ∷ []

-- The game by which the moves are checked: that of the row, or, if a value has the wrong type, one with the row's id
-- and no valid event.
abbrev pub IsJudged : Row → GameTableRow → Type 0
IsJudged row game = (row ≡ game_cells game)
    ⊎ ((¬ IsGame row) × (game.id ≡ known (column row 0)) × (game.event ≡ negsuc 0))

-- the games of these rows
abbrev pub AreJudged : List Row → List GameTableRow → Type 0
AreJudged [] [] = Unit {0}
AreJudged [] (game ∷ judged) = ⊥
AreJudged (row ∷ shown) [] = ⊥
AreJudged (row ∷ shown) (game ∷ judged) = IsJudged row game × AreJudged shown judged

-- The rows of games were read and a value has the wrong type. `known_games` have the ids, events and players that can
-- be read; `judged_games` are those by which the moves are checked.
pub record AreGamesKnown (known_games judged_games : List GameTableRow) (old new : State) : Type 0 where
  pub shown : List Row
  pub keeps : Keeps (standing Games) (club_trees old.now) shown
  pub ids : AreIds shown
  pub seats : map game_seat known_games ≡ map row_seat shown
  pub judged : AreJudged shown judged_games
  pub untyped : IsUntyped Games old.now
  pub same : IsUnchanged old new

-- The moves or the rulings are wrong by the judged games, or the games have values of wrong types. The tables before
-- are right, if the database holds any content.
pub record IsWrongBy (judged_rows : Rows) (version : Version) (db : Database) (t : Table) : Type 0 where
  pub named : (t ≡ Moves) ⊎ ((t ≡ Rulings) ⊎ (t ≡ Games))
  pub moves : t ≡ Moves → MovesWrong judged_rows version db
  pub rulings : t ≡ Rulings → RulingsWrong judged_rows version db
  pub moves_right : order Moves < order t → MovesRight judged_rows version db
  pub rulings_right : order Rulings < order t → RulingsRight judged_rows version db

-- The table reported as damaged is: challenges, if they are wrong by the known games; moves or rulings, if they are
-- wrong by the judged games; or games.
abbrev pub NamesUntyped : (known_rows judged_rows : Rows) → Version → Database → OpenFault → Type 0
NamesUntyped known_rows judged_rows version db fault = (fault ≡ Store)
    ⊎ ((fault ≡ Memory)
    ⊎ (((fault ≡ Damaged Challenges) × ((cs : List Challenge) → ¬ AreChallenges cs known_rows))
    ⊎ (((cs : List Challenge) × AreChallenges cs known_rows)
    × ((t : Table) × (fault ≡ Damaged t) × IsWrongBy judged_rows version db t))))
