-- The rows of the games in a database, and the games that were found in them. No promise of the program rests on these
-- definitions.
use Rattle.std.specs.Prelude.{◌≡◌, ◌⊎◌, ◌≤◌, ◌<◌, ◌+◌, ℕ, suc, pos, List, map, take, length, Option, Some, None}
use Rattle.std.specs.Prelude.{slice_get}
use Rattle.sqlite.specs.Order.{Row}
use Rattle.sqlite.specs.Tree.{Trees}
use Rattle.sqlite.specs.Effect.{Database}
use Rattle.sqlite.specs.State.{State, IsUnchanged}
use Rattle.club_core.specs.LegalState.{Each, IsLegalIn}
use Rattle.club_rows.specs.Club.{ClubGame, ClubState, both_games}
use Rattle.club_rows.specs.FirstSchema.{IsClubOf}
use Rattle.club_rows.specs.EachOnce.{AreEachOnce}
use Rattle.club_rows.specs.Scores.{scores_in}
use Rattle.club_rows.specs.Tables.{numbered_from, row_of_game, rows_of_moves, rows_of_rulings, rows_of_seen}
use Rattle.store_tables.specs.Placed.{club_trees}
use Rattle.store_tables.specs.Cells.{game_cells}
use Rattle.store_tables.specs.Content.{AreApart}
use Rattle.store_tables.specs.declared.rows.GameTableRow.{GameTableRow}
use Rattle.store_sql.specs.Read.{beginning_with}
use Rattle.store_sql.specs.internal.Read.{IsReadAs}
use Rattle.store_tables.specs.declared.names.Table.{Table}
use Rattle.store_tables.specs.declared.names.Table.TheVariants.{Games, Meta, Moves, Rulings, Seen}
use Rattle.store_tables.specs.declared.names.Version.{Version}
use Rattle.store_tables.specs.declared.rows.Rows.{Rows}
use Rattle.store_tables.specs.internal.Rows.{HaveIds}
use Rattle.store_tables.specs.Tables.{standing}
use Rattle.store_tables.specs.declared.names.Table.TheVariants.{Scores}
use Rattle.club_audit.specs.internal.Audit.{AreApartGames, HasPeople, until}
use Rattle.club_audit.specs.FirstWrong.{order}
use Rattle.club_audit.specs.internal.ChallengeAudit.{AreChallenges}
use Rattle.club_audit.specs.internal.ClosingAudit.{IsClosedBy}
use Rattle.club_core.specs.declared.challenges.Challenge.{Challenge}
use Rattle.club_audit.specs.internal.Standings.{AreGamesOf}
use Rattle.club_check.specs.internal.Places.{IsRegisterOf, last_moment}
use Rattle.club_check.specs.internal.RightMoves.{GamesWrong, MovesRight, MovesRightOf, MovesWrong, RulingsRight}
use Rattle.club_check.specs.internal.RightMoves.{RulingsRightOf, RulingsWrong, SeenWrong, beyond, without}
pub use Rattle.club_check.specs.internal.RightMoves.{moves_in, rulings_at, seen_in}
use Rattle.club_check.specs.Versions.{HasClub}
use Rattle.store_tables.specs.Changes.{HaveSame}
use Rattle.club_check.specs.declared.fault.OpenFault.{OpenFault}
use Rattle.club_check.specs.declared.fault.OpenFault.TheVariants.{Damaged}

-- the rows whose first column is none of 1 to k
abbrev pub past : ℕ → List Row → List Row
past = without (λ k. pos (suc k))

-- the row, the moves and the rulings with this id are those of this game of the club
pub record IsGameOf (s : ClubState) (id : ℕ) (row : GameTableRow) (version : Version) (db : Trees) (game : ClubGame)
    : Type 0 where
  pub legal : IsLegalIn both_games s game
  pub row_is : game_cells row ≡ row_of_game both_games s.events id game
  pub moves_are : HaveSame (beginning_with row.id (moves_in db)) (rows_of_moves both_games s.events id game)
  pub rulings_are : HaveSame (beginning_with row.id (rulings_at version db)) (rows_of_rulings id game)

-- so are the positions
pub record IsFoundAs (s : ClubState) (id : ℕ) (row : GameTableRow) (version : Version) (db : Trees) (game : ClubGame)
    : Type 0 where
  pub game_is : IsGameOf s id row version db game
  pub seen_are : HaveSame (beginning_with row.id (seen_in db)) (rows_of_seen both_games id game)

-- The first `count` games were found: their rows, their moves and their rulings are those of legal games.
pub record WerePlayed (s : ClubState) (rows : List GameTableRow) (version : Version) (db : Trees) (count : ℕ) : Type 0
  where
    pub games : List ClubGame
    pub number_of : length games ≡ count
    pub legal : Each (IsLegalIn both_games s) games
    pub rows_are : map game_cells (take count rows) ≡ numbered_from (row_of_game both_games s.events) 1 games
    pub moves_are : (n : ℕ) (g : ClubGame) → slice_get games n ≡ Some g
        → HaveSame (beginning_with (pos (1 + n)) (moves_in db)) (rows_of_moves both_games s.events (1 + n) g)
    pub rulings_are : (n : ℕ) (g : ClubGame) → slice_get games n ≡ Some g
        → HaveSame (beginning_with (pos (1 + n)) (rulings_at version db)) (rows_of_rulings (1 + n) g)

-- the rows of positions with the ids of these games are theirs
abbrev pub AreSeenOf : List ClubGame → Trees → Type 0
AreSeenOf games db = (n : ℕ) (g : ClubGame) → slice_get games n ≡ Some g
    → HaveSame (beginning_with (pos (1 + n)) (seen_in db)) (rows_of_seen both_games (1 + n) g)

-- The first `count` games were found, with their moves, rulings and positions.
pub record WereFound (s : ClubState) (rows : List GameTableRow) (version : Version) (db : Trees) (count : ℕ) : Type 0
  where
    pub played : WerePlayed s rows version db count
    pub seen_are : AreSeenOf played.games db

-- A table is reported as damaged, and no legal club of this version with these rows has the tables of the database.
abbrev pub NamesPlay : Rows → Version → Database → OpenFault → Type 0
NamesPlay rows version db fault = (t : Table) × (fault ≡ Damaged t)
    × ((s : ClubState) → IsClubOf version s → IsRegisterOf s rows → ¬ HasClub version db s)

-- the club has these members and events, and this is its last timestamp
pub record IsOf (s : ClubState) (rows : Rows) (last : Option ℕ) : Type 0 where
  pub people : HasPeople s rows
  pub moment : last ≡ Some s.last
  pub within : s.last ≤ last_moment

-- no table up to this one is wrong
abbrev pub IsAfter : Table → Option Table → Type 0
IsAfter table wrong = (t : Table) → wrong ≡ Some t → order table < order t

-- no table before `meta` is wrong
abbrev pub IsPlayed : Option Table → Type 0
IsPlayed wrong = (t : Table) → wrong ≡ Some t → t ≡ Meta

-- of two wrong tables the one that is reported first; none if there is none
pub record IsOneOf (one other named : Option Table) : Type 0 where
  pub none : named ≡ None → (one ≡ None) × (other ≡ None)
  pub some : (t : Table) → named ≡ Some t → (one ≡ Some t) ⊎ (other ≡ Some t)
  pub first : (t u : Table) → named ≡ Some t → (one ≡ Some u) ⊎ (other ≡ Some u) → order t ≤ order u

-- the table is wrong if `count`, its number of rows without a game, is not 0
pub record NamesLeft (table : Table) (count : ℕ) (named : Option Table) : Type 0 where
  pub none : named ≡ None → count ≡ 0
  pub some : (t : Table) → named ≡ Some t → (t ≡ table) × (0 < count)

-- The result for one game: its numbers of moves, rulings and positions; and either all its rows are those of a legal
-- game at its index, or a table is wrong.
pub record IsGameFound (rows : Rows) (last : Option ℕ) (place : ℕ) (game : GameTableRow) (moves rulings seen : ℕ)
    (wrong : Option Table) (version : Version) (db : Database) : Type 0 where
  pub moves_number : moves ≡ length (beginning_with game.id (moves_in (club_trees db)))
  pub rulings_number : IsAfter Rulings wrong
      → rulings ≡ length (beginning_with game.id (rulings_at version (club_trees db)))
  pub seen_number : IsAfter Seen wrong → seen ≡ length (beginning_with game.id (seen_in (club_trees db)))
  pub found : wrong ≡ None → (s : ClubState) → IsOf s rows last → (g : ClubGame)
      × IsFoundAs s (place + 1) game version (club_trees db) g
  pub played : IsPlayed wrong → (s : ClubState) → HasPeople s rows → (g : ClubGame)
      × IsFoundAs (until last_moment s) (place + 1) game version (club_trees db) g
  pub seated : IsAfter Games wrong → (s : ClubState) → HasPeople s rows → (g : ClubGame)
      × IsGameOf (until last_moment s) (place + 1) game version (club_trees db) g
  pub moves_right : IsAfter Moves wrong → (s : ClubState) → HasPeople s rows
      → MovesRightOf rows game version db
  pub rulings_right : IsAfter Rulings wrong → (s : ClubState) → HasPeople s rows
      → RulingsRightOf rows game version db
  pub blamed : (t : Table) → wrong ≡ Some t → NamesPlay rows version db (Damaged t)
  pub moves_wrong : wrong ≡ Some Moves → (s : ClubState) → HasPeople s rows → MovesWrong rows version db
  pub rulings_wrong : wrong ≡ Some Rulings → (s : ClubState) → HasPeople s rows → RulingsWrong rows version db
  pub games_wrong : wrong ≡ Some Games → GamesWrong rows version db
  pub seen_wrong : wrong ≡ Some Seen → SeenWrong rows version db

-- every row of moves, of rulings and of positions belongs to one of the first `count` games
pub record NoneIsLeft (version : Version) (db : Trees) (count : ℕ) : Type 0 where
  pub moves : length (past count (moves_in db)) ≡ 0
  pub rulings : length (past count (rulings_at version db)) ≡ 0
  pub seen : length (past count (seen_in db)) ≡ 0

-- The result for all games: they are those of a club and no row belongs to none of them, or a table is wrong.
pub record AreGamesFound (rows : Rows) (last : Option ℕ) (wrong : Option Table) (version : Version) (db : Database)
    : Type 0 where
  pub found : wrong ≡ None → (s : ClubState) → IsOf s rows last
      → WereFound s rows.games.items version (club_trees db) (length rows.games.items)
  pub none_left : wrong ≡ None → (s : ClubState) → IsOf s rows last
      → NoneIsLeft version (club_trees db) (length rows.games.items)
  pub played : IsPlayed wrong → (s : ClubState) → HasPeople s rows
      → WereFound (until last_moment s) rows.games.items version (club_trees db) (length rows.games.items)
  pub seated : IsAfter Games wrong → (s : ClubState) → HasPeople s rows
      → WerePlayed (until last_moment s) rows.games.items version (club_trees db) (length rows.games.items)
  pub moves_end : IsAfter Games wrong → (s : ClubState) → HasPeople s rows
      → length (past (length rows.games.items) (moves_in (club_trees db))) ≡ 0
  pub rulings_end : IsAfter Games wrong → (s : ClubState) → HasPeople s rows
      → length (past (length rows.games.items) (rulings_at version (club_trees db))) ≡ 0
  pub moves_right : IsAfter Moves wrong → HaveIds rows → (s : ClubState) → HasPeople s rows
      → MovesRight rows version db
  pub rulings_right : IsAfter Rulings wrong → HaveIds rows → (s : ClubState) → HasPeople s rows
      → RulingsRight rows version db
  pub none_rests : IsPlayed wrong → (s : ClubState) → HasPeople s rows
      → NoneIsLeft version (club_trees db) (length rows.games.items)
  pub blamed : (t : Table) → wrong ≡ Some t → NamesPlay rows version db (Damaged t)
  pub moves_wrong : wrong ≡ Some Moves → HaveIds rows → (s : ClubState) → HasPeople s rows
      → MovesWrong rows version db
  pub rulings_wrong : wrong ≡ Some Rulings → HaveIds rows → (s : ClubState) → HasPeople s rows
      → RulingsWrong rows version db
  pub games_wrong : wrong ≡ Some Games → GamesWrong rows version db
  pub seen_wrong : wrong ≡ Some Seen → HaveIds rows → SeenWrong rows version db

-- the same after the first `place` games, with the numbers of rows that are left
pub record AreLeftAfter (rows : Rows) (last : Option ℕ) (place moves rulings seen : ℕ) (wrong : Option Table)
    (version : Version) (db : Database) : Type 0 where
  pub found : wrong ≡ None → (s : ClubState) → IsOf s rows last
      → WereFound s rows.games.items version (club_trees db) place
  pub blamed : (t : Table) → wrong ≡ Some t → NamesPlay rows version db (Damaged t)
  pub moves_left : wrong ≡ None → (s : ClubState) → IsOf s rows last
      → moves ≡ length (past place (moves_in (club_trees db)))
  pub rulings_left : wrong ≡ None → (s : ClubState) → IsOf s rows last
      → rulings ≡ length (past place (rulings_at version (club_trees db)))
  pub seen_left : wrong ≡ None → (s : ClubState) → IsOf s rows last
      → seen ≡ length (past place (seen_in (club_trees db)))
  pub played : IsPlayed wrong → (s : ClubState) → HasPeople s rows
      → WereFound (until last_moment s) rows.games.items version (club_trees db) place
  pub seated : IsAfter Games wrong → (s : ClubState) → HasPeople s rows
      → WerePlayed (until last_moment s) rows.games.items version (club_trees db) place
  pub moves_rest : IsAfter Games wrong → (s : ClubState) → HasPeople s rows
      → moves ≡ length (past place (moves_in (club_trees db)))
  pub rulings_rest : IsAfter Games wrong → (s : ClubState) → HasPeople s rows
      → rulings ≡ length (past place (rulings_at version (club_trees db)))
  pub seen_rest : IsPlayed wrong → (s : ClubState) → HasPeople s rows
      → seen ≡ length (past place (seen_in (club_trees db)))
  pub moves_wrong : wrong ≡ Some Moves → (s : ClubState) → HasPeople s rows → MovesWrong rows version db
  pub rulings_wrong : wrong ≡ Some Rulings → (s : ClubState) → HasPeople s rows → RulingsWrong rows version db
  pub games_wrong : wrong ≡ Some Games → GamesWrong rows version db
  pub seen_wrong : wrong ≡ Some Seen → SeenWrong rows version db
  pub moves_right : IsAfter Moves wrong → (s : ClubState) → HasPeople s rows → (n : ℕ) (game : GameTableRow)
      → n < place → slice_get rows.games.items n ≡ Some game
      → MovesRightOf rows game version db
  pub rulings_right : IsAfter Rulings wrong → (s : ClubState) → HasPeople s rows → (n : ℕ) (game : GameTableRow)
      → n < place → slice_get rows.games.items n ≡ Some game
      → RulingsRightOf rows game version db
  pub moves_beyond : HaveIds rows → moves ≡ length (beyond rows place (moves_in (club_trees db)))
  pub rulings_beyond : IsAfter Rulings wrong → HaveIds rows
      → rulings ≡ length (beyond rows place (rulings_at version (club_trees db)))
  pub seen_beyond : IsAfter Seen wrong → HaveIds rows → seen ≡ length (beyond rows place (seen_in (club_trees db)))

-- the result for all games, with the rowids of both tables checked
pub record IsPlayExamined (rows : Rows) (last : Option ℕ) (wrong : Option Table) (version : Version) (old new : State)
    : Type 0 where
  pub games : AreGamesFound rows last wrong version old.now
  pub same : IsUnchanged old new
  pub moves_apart : AreApart (club_trees old.now 8)
  pub seen_apart : AreApart (club_trees old.now 12)

-- the scores are those of the club with these games, each once
pub record AreScoresExamined (rows : Rows) (old new : State) : Type 0 where
  pub rows_of : List Row
  pub read : IsReadAs (standing Scores) 3 rows_of old new
  pub are : (t : ClubState) → AreGamesOf t rows.games.items → AreEachOnce rows_of (scores_in both_games t.games)

-- The result for a register: these rows with the moves, rulings, positions and scores are those of one club.
pub record AreExamined (rows : Rows) (version : Version) (old new : State) : Type 0 where
  pub moment : ℕ
  pub last : (rows.meta.last ≡ pos moment) × (moment ≤ last_moment)
  pub closed_by : Each (IsClosedBy moment) rows.closings.items
  pub challenges : (cs : List Challenge) × AreChallenges cs rows
  pub games : AreApartGames rows.games.items
  pub play : IsPlayExamined rows (Some moment) None version old new
  pub scores : AreScoresExamined rows old new
