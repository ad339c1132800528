-- When the rows of moves and of rulings are right, given the events and games that were read.
use Rattle.std.specs.Prelude.{◌≡◌, ℕ, ℤ, pos, List, [], ◌∷◌, map, None}
use Rattle.std.specs.Prelude.{Bool}
use Rattle.std.specs.List.{AllByRecursion}
use Rattle.sqlite_value.specs.declared.value.Value.TheVariants.{Int}
use Rattle.sqlite.specs.Order.{Row, column}
use Rattle.sqlite_rules.specs.Lists.{Has}
use Rattle.club_core.specs.Events.{Terms}
use Rattle.club_rules.specs.declared.names.GameKind.{GameKind}
use Rattle.store_sql.specs.Read.{beginning_with}
use Rattle.store_tables.specs.Cells.{IsMove, IsRuling, event_cells, game_cells, move_cells, ruling_cells}
use Rattle.store_tables.specs.Changes.{HaveSame}
use Rattle.store_tables.specs.Contents.{Content}
use Rattle.store_tables.specs.declared.names.Table.TheVariants.{Moves}
use Rattle.store_tables.specs.declared.names.Table.TheVariants.{Events, Games, EventRules, Rulings}
use Rattle.store_tables.specs.declared.names.Version.{Version}
use Rattle.store_tables.specs.declared.names.Version.TheVariants.{V1, V3}
use Rattle.store_tables.specs.declared.rows.EventRow.{EventRow}
use Rattle.store_tables.specs.declared.rows.GameTableRow.{GameTableRow}
use Rattle.store_tables.specs.declared.rows.MoveRow.{MoveRow}
use Rattle.store_tables.specs.declared.rows.RulingRow.{RulingRow}
use Rattle.store_tables.specs.Names.{tree_of}
use Rattle.club_rows.specs.Tables.{declares_number, kind_number, number}
use Rattle.club_audit.specs.Audit.{GivesTerms, terms_told}
use Rattle.club_audit.specs.GameAudit.{IsRightOf}

-- the rows of rulings; none before schema 3
abbrev pub stored_rulings : Version → Content → List Row
stored_rulings V3 content = content (tree_of Rulings)
stored_rulings _ content = []

-- Unless the rulings on this game are wrong by themselves, its rows of moves are the moves of a legal game of this kind
-- with these terms and rulings, its id and its start; or there are none.
pub record HasItsMoves (moves_rows ruling_rows : List Row) (game : GameTableRow) (kind : GameKind) (terms : Terms)
    : Type 0 where
  pub moves : List MoveRow
  pub same : HaveSame (beginning_with game.id moves_rows) (map move_cells moves)
  pub are : (rulings : List RulingRow) → HaveSame (beginning_with game.id ruling_rows) (map ruling_cells rulings)
      → IsRightOf kind terms None game moves rulings [] Moves

-- the rows of rulings on this game are the rulings on a legal game of this kind with these terms, its moves, its id and
-- its start; or there are none
pub record HasItsRulings (moves_rows ruling_rows : List Row) (game : GameTableRow) (kind : GameKind) (terms : Terms)
    : Type 0 where
  pub moves : List MoveRow
  pub rulings : List RulingRow
  pub same_moves : HaveSame (beginning_with game.id moves_rows) (map move_cells moves)
  pub same : HaveSame (beginning_with game.id ruling_rows) (map ruling_cells rulings)
  pub are : IsRightOf kind terms None game moves rulings [] Rulings

-- the event rules say this about declarations in the event with this id
abbrev pub DeclaresIn : Version → Content → ℤ → Bool → Type 0
DeclaresIn V1 content id declares = declares_number declares ≡ 0
DeclaresIn _ content id declares =
    Has (content (tree_of EventRules)) (Int id ∷ number (declares_number declares) ∷ [])

-- each row begins with the id of a row of games
abbrev pub BelongToGames : Content → List Row → Type 0
BelongToGames content rows = (row : Row) → Has rows row
    → (game : Row) × Has (content (tree_of Games)) game × (column row 0 ≡ column game 0)

-- each game whose event exists has this property, with the kind, terms and rules of the event
abbrev pub EachGame : Version → Content → (GameTableRow → GameKind → Terms → Type 0) → Type 0
EachGame version content IsSo =
    (game : GameTableRow) (event : EventRow) → Has (content (tree_of Games)) (game_cells game)
    → Has (content (tree_of Events)) (event_cells event) → game.event ≡ event.id → (declares : Bool)
    → DeclaresIn version content event.id declares → (kind : GameKind) (budget increment : ℕ)
    → event.game ≡ pos (kind_number kind) → GivesTerms event budget increment
    → IsSo game kind (terms_told budget increment declares)

-- Each row of moves has the right types and belongs to a game. The moves of each game are right, if its event exists,
-- with a kind, terms and rules.
pub record HaveMoves (version : Version) (content : Content) : Type 0 where
  pub typed : AllByRecursion IsMove (content (tree_of Moves))
  pub owned : BelongToGames content (content (tree_of Moves))
  pub played : EachGame version content (HasItsMoves (content (tree_of Moves)) (stored_rulings version content))

-- Each row of rulings has the right types and belongs to a game. The rulings on each game are right beside its moves,
-- if its event exists, with a kind, terms and rules.
pub record HaveRulings (version : Version) (content : Content) : Type 0 where
  pub typed : AllByRecursion IsRuling (stored_rulings version content)
  pub owned : BelongToGames content (stored_rulings version content)
  pub ruled : EachGame version content (HasItsRulings (content (tree_of Moves)) (stored_rulings version content))
