-- When the rows of moves and of rulings are right, given the events and games that were read. No promise of the program
-- rests on these definitions.
use Rattle.std.specs.Prelude.{◌≡◌, ℕ, zero, suc, ℤ, pos, not, List, [], ◌∷◌, map, get_or, filter, Some, slice_get}
use Rattle.std.specs.Prelude.{Bool, length}
use Rattle.std.specs.List.{AllByRecursion}
use Rattle.sqlite_value.specs.declared.value.Value.TheVariants.{Int}
use Rattle.sqlite.specs.Effect.{Database}
use Rattle.sqlite.specs.Order.{Row, column}
use Rattle.sqlite.specs.Tree.{Trees}
use Rattle.sqlite_rules.specs.Lists.{Has}
use Rattle.club_core.specs.Events.{Terms}
use Rattle.club_rules.specs.declared.names.GameKind.{GameKind}
use Rattle.store_sql.specs.Read.{beginning_with}
use Rattle.store_tables.specs.Placed.{HasTablesOf, club_trees}
use Rattle.store_tables.specs.Cells.{IsMove, IsRuling, game_cells}
use Rattle.store_tables.specs.Changes.{HaveSame}
use Rattle.store_tables.specs.Content.{cells, same_key}
use Rattle.store_tables.specs.Contents.{Content}
use Rattle.store_tables.specs.declared.names.Table.TheVariants.{Moves, Rulings, Seen}
use Rattle.store_tables.specs.declared.names.Version.{Version}
use Rattle.store_tables.specs.declared.names.Version.TheVariants.{V3}
use Rattle.store_tables.specs.declared.rows.EventRow.{EventRow}
use Rattle.store_tables.specs.declared.rows.GameTableRow.{GameTableRow}
use Rattle.store_tables.specs.declared.rows.Rows.{Rows}
use Rattle.store_tables.specs.Names.{tree_of}
use Rattle.store_tables.specs.Tables.{standing}
use Rattle.club_rows.specs.Tables.{kind_number, numbered_from, row_of_game}
use Rattle.club_audit.specs.Audit.{GivesTerms, terms_told}
use Rattle.club_audit.specs.internal.Audit.{HasPeople, NamesEvent, NamesRule}
use Rattle.club_rows.specs.Club.{ClubState, IsClub, both_games, tables}
use Rattle.club_check.specs.RightMoves.{HasItsMoves, HasItsRulings}
use Rattle.club_check.specs.Versions.{HoldsRows}

-- ---- the rows of a database

-- the rows of moves, of rulings and of positions; there are no rulings before schema 3
abbrev pub moves_in : Trees → List Row
moves_in db = map (cells (standing Moves)) (db (tree_of Moves))

abbrev pub rulings_at : Version → Trees → List Row
rulings_at V3 db = map (cells (standing Rulings)) (db (tree_of Rulings))
rulings_at _ db = []

abbrev pub seen_in : Trees → List Row
seen_in db = map (cells (standing Seen)) (db (tree_of Seen))

-- the database has the tables of this version, with so many rulings
pub record HasRulingCount (version : Version) (count : ℕ) (db : Database) : Type 0 where
  pub schema : HasTablesOf version db.schema
  pub number : count ≡ length (rulings_at version (club_trees db))

-- ---- moves and rulings

-- the game has this property, with the kind, terms and rules of its event, if its event exists
abbrev pub WithTerms : Rows → GameTableRow → (GameKind → Terms → Type 0) → Type 0
WithTerms rows game IsSo =
    (id : ℕ) (event : EventRow) (declares : Bool) → NamesEvent rows game id event → NamesRule rows game id declares
    → (kind : GameKind) (budget increment : ℕ) → event.game ≡ pos (kind_number kind)
    → GivesTerms event budget increment → IsSo kind (terms_told budget increment declares)

-- each row begins with the id of a game that was read
abbrev pub AreOwned : Rows → List Row → Type 0
AreOwned rows shown = (row : Row) → Has shown row → (place : ℕ) × (game : GameTableRow)
    × (slice_get rows.games.items place ≡ Some game) × (column row 0 ≡ Int game.id)

-- the same, with the games and events that were read
pub record HaveMovesOf (rows : Rows) (moves rulings : List Row) : Type 0 where
  pub typed : AllByRecursion IsMove moves
  pub owned : AreOwned rows moves
  pub played : (place : ℕ) (game : GameTableRow) → slice_get rows.games.items place ≡ Some game
      → WithTerms rows game (HasItsMoves moves rulings game)

-- the rulings are right, with the games, events and moves that were read
pub record HaveRulingsOf (rows : Rows) (moves rulings : List Row) : Type 0 where
  pub typed : AllByRecursion IsRuling rulings
  pub owned : AreOwned rows rulings
  pub ruled : (place : ℕ) (game : GameTableRow) → slice_get rows.games.items place ≡ Some game
      → WithTerms rows game (HasItsRulings moves rulings game)

-- The moves of a game that was read have the right types, and they are right if its event exists, with a kind, terms
-- and rules.
pub record HasMovesOf (rows : Rows) (moves rulings : List Row) (game : GameTableRow) : Type 0 where
  pub typed : (row : Row) → Has (beginning_with game.id moves) row → IsMove row
  pub played : WithTerms rows game (HasItsMoves moves rulings game)

-- the same for the rulings on a game
pub record HasRulingsOf (rows : Rows) (moves rulings : List Row) (game : GameTableRow) : Type 0 where
  pub typed : (row : Row) → Has (beginning_with game.id rulings) row → IsRuling row
  pub ruled : WithTerms rows game (HasItsRulings moves rulings game)

-- a legal club has the members, events and games that were read, and these rows of moves and of rulings
pub record HaveGamesOf (rows : Rows) (moves rulings : List Row) : Type 0 where
  pub state : ClubState
  pub legal : IsClub state
  pub people : HasPeople state rows
  pub games : map game_cells rows.games.items ≡ numbered_from (row_of_game both_games state.events) 1 state.games
  pub same : HaveSame moves (tables state (tree_of Moves))
  pub ruled : HaveSame rulings (tables state (tree_of Rulings))

-- and these rows of positions
pub record HaveSeenOf (rows : Rows) (moves rulings positions : List Row) : Type 0 where
  pub games : HaveGamesOf rows moves rulings
  pub same : HaveSame positions (tables games.state (tree_of Seen))

-- ---- rows without a game

-- the id of the game at this index
abbrev pub id_at : Rows → ℕ → ℤ
id_at rows place = get_or (map (λ g. g.id) rows.games.items) place (pos 0)

-- no content that the database may hold in this version has this property
abbrev pub HoldsNoneOf : Version → Database → (Content → Type 0) → Type 0
HoldsNoneOf version db IsSo = (content : Content) → HoldsRows version content db → ¬ IsSo content

-- each content that the database may hold in this version has this property
abbrev pub HoldsOnlyOf : Version → Database → (Content → Type 0) → Type 0
HoldsOnlyOf version db IsSo = (content : Content) → HoldsRows version content db → IsSo content

-- if the database holds any content, its moves are right for the games and events that were read
abbrev pub MovesRight : Rows → Version → Database → Type 0
MovesRight rows version db = HoldsOnlyOf version db (λ content.
    HaveMovesOf rows (moves_in (club_trees db)) (rulings_at version (club_trees db)))

-- and so are those of this game
abbrev pub MovesRightOf : Rows → GameTableRow → Version → Database → Type 0
MovesRightOf rows game version db = HoldsOnlyOf version db (λ content.
    HasMovesOf rows (moves_in (club_trees db)) (rulings_at version (club_trees db)) game)

-- if the database holds any content, its rulings are right for the games, events and moves that were read
abbrev pub RulingsRight : Rows → Version → Database → Type 0
RulingsRight rows version db = HoldsOnlyOf version db (λ content.
    HaveRulingsOf rows (moves_in (club_trees db)) (rulings_at version (club_trees db)))

-- and so are those on this game
abbrev pub RulingsRightOf : Rows → GameTableRow → Version → Database → Type 0
RulingsRightOf rows game version db = HoldsOnlyOf version db (λ content.
    HasRulingsOf rows (moves_in (club_trees db)) (rulings_at version (club_trees db)) game)

-- whatever content the database holds, its moves are not right for the games and events that were read
abbrev pub MovesWrong : Rows → Version → Database → Type 0
MovesWrong rows version db = HoldsNoneOf version db (λ content.
    HaveMovesOf rows (moves_in (club_trees db)) (rulings_at version (club_trees db)))

-- whatever content the database holds, its rulings are not right for the games, events and moves that were read
abbrev pub RulingsWrong : Rows → Version → Database → Type 0
RulingsWrong rows version db = HoldsNoneOf version db (λ content.
    HaveRulingsOf rows (moves_in (club_trees db)) (rulings_at version (club_trees db)))

-- whatever content the database holds, no legal club has the games that were read with its moves and rulings
abbrev pub GamesWrong : Rows → Version → Database → Type 0
GamesWrong rows version db = HoldsNoneOf version db (λ content.
    HaveGamesOf rows (moves_in (club_trees db)) (rulings_at version (club_trees db)))

-- no legal club has these games with its moves, rulings and positions
abbrev pub SeenWrong : Rows → Version → Database → Type 0
SeenWrong rows version db = HoldsNoneOf version db (λ content.
    HaveSeenOf rows (moves_in (club_trees db)) (rulings_at version (club_trees db)) (seen_in (club_trees db)))

-- the rows whose first column is none of the first k of these ids
abbrev pub without : (ℕ → ℤ) → ℕ → List Row → List Row
without ids zero rows = rows
without ids (suc k) rows = filter (λ x. not (same_key (0 ∷ []) x (Int (ids k) ∷ []))) (without ids k rows)

-- the rows that belong to none of the first k games
abbrev pub beyond : Rows → ℕ → List Row → List Row
beyond games = without (id_at games)
