-- When the rows of a table are right, given the tables before it, and which table an error names. No promise of the
-- program rests on these definitions.
use Rattle.std.specs.Prelude.{◌≡◌, ◌⊎◌, ◌<◌, List, length, map, Option, Some}
use Rattle.sqlite.specs.Effect.{Database}
use Rattle.sqlite.specs.Order.{Row}
use Rattle.store_tables.specs.Placed.{club_trees}
use Rattle.store_tables.specs.Cells.{event_cells, game_cells}
use Rattle.store_tables.specs.internal.Cells.{member_cells}
use Rattle.store_tables.specs.Changes.{HaveSame}
use Rattle.store_tables.specs.Content.{Keeps}
use Rattle.store_tables.specs.Contents.{Content}
use Rattle.store_tables.specs.declared.names.Table.{Table}
use Rattle.store_tables.specs.declared.names.Table.TheVariants.{Events, Challenges, Members, Moves, Games}
use Rattle.store_tables.specs.declared.names.Table.TheVariants.{Seen, Scores, Meta, Rulings}
use Rattle.store_tables.specs.declared.names.Version.{Version}
use Rattle.store_tables.specs.declared.rows.EventRow.{EventRow}
use Rattle.store_tables.specs.declared.rows.MemberRow.{MemberRow}
use Rattle.store_tables.specs.declared.rows.Rows.{Rows}
use Rattle.store_tables.specs.Names.{tree_of}
use Rattle.store_tables.specs.Tables.{standing}
use Rattle.club_rows.specs.Club.{ClubState, IsClub, both_games, tables}
use Rattle.club_rows.specs.EachOnce.{AreEachOnce}
use Rattle.club_rows.specs.Scores.{scores_in}
use Rattle.club_rows.specs.Tables.{event_row, member_row, numbered_from, row_of_game}
use Rattle.club_core.specs.declared.challenges.Challenge.{Challenge}
use Rattle.club_audit.specs.internal.Audit.{AreApartGames, HasPeople, until}
use Rattle.club_audit.specs.internal.ChallengeAudit.{AreChallenges}
use Rattle.club_audit.specs.internal.Standings.{AreGamesOf}
use Rattle.club_audit.specs.FirstWrong.{order}
use Rattle.club_check.specs.ReasonIsRight.{HasTypes, HoldsNone}
use Rattle.club_check.specs.internal.Examined.{AreSeenOf, WerePlayed, past}
use Rattle.club_check.specs.internal.Places.{last_moment}
use Rattle.club_check.specs.Versions.{HoldsRows}
use Rattle.club_check.specs.internal.RightMoves.{GamesWrong, MovesRight, MovesWrong, RulingsRight, RulingsWrong}
use Rattle.club_check.specs.internal.RightMoves.{SeenWrong, moves_in, rulings_at, seen_in}
use Rattle.club_check.specs.declared.fault.OpenFault.{OpenFault}
use Rattle.club_check.specs.declared.fault.OpenFault.TheVariants.{Damaged}
use Rattle.club_check.specs.RightTables.{IsRight}

-- ---- which table is named

-- moves, rulings, games or positions
abbrev pub IsOfPlay : Table → Type 0
IsOfPlay t = (order Challenges < order t) × (order t < order Scores)

-- ---- table by table

-- only this table is reported as damaged, and no legal club has its rows
abbrev pub NamesWrong : Table → Database → OpenFault → Type 0
NamesWrong table db fault = (t : Table) → fault ≡ Damaged t → (t ≡ table) × HoldsNone db (IsRight table)

-- the database holds no content of a club's tables
abbrev pub IsUnheld : Database → Type 0
IsUnheld db = HoldsNone db (λ version content. Unit {0})

-- whatever content the database holds, the rows of the table do not have the types of its columns
abbrev pub IsUntyped : Table → Database → Type 0
IsUntyped t db = HoldsNone db (λ version content. HasTypes t content)

-- The moves and the rulings are right, and these games with their moves and rulings are those of a club, whatever its
-- last timestamp is.
pub record AreSeated (rows : Rows) (version : Version) (db : Database) : Type 0 where
  pub moves : MovesRight rows version db
  pub rulings : RulingsRight rows version db
  pub apart : AreApartGames rows.games.items
  pub found : (s : ClubState) → HasPeople s rows
      → WerePlayed (until last_moment s) rows.games.items version (club_trees db) (length rows.games.items)
  pub none_left : (s : ClubState) → HasPeople s rows
      → length (past (length rows.games.items) (moves_in (club_trees db))) ≡ 0
  pub none_ruled : (s : ClubState) → HasPeople s rows
      → length (past (length rows.games.items) (rulings_at version (club_trees db))) ≡ 0

-- the tables of moves, rulings and games are right, if a later table of moves, rulings, games and positions is named
pub record AreRightBefore (rows : Rows) (version : Version) (db : Database) (t : Table) : Type 0 where
  pub moves : order Moves < order t → MovesRight rows version db
  pub rulings : order Rulings < order t → RulingsRight rows version db
  pub games : order Games < order t → AreSeated rows version db

-- A table of moves, rulings, games or positions that is wrong for the rows that were read; those before it are right,
-- if the database holds any content.
pub record IsWrongOfPlay (rows : Rows) (version : Version) (db : Database) (t : Table) : Type 0 where
  pub play : IsOfPlay t
  pub moves : t ≡ Moves → MovesWrong rows version db
  pub rulings : t ≡ Rulings → RulingsWrong rows version db
  pub games : t ≡ Games → GamesWrong rows version db
  pub seen : t ≡ Seen → SeenWrong rows version db
  pub before : IsUnheld db ⊎ AreRightBefore rows version db t

-- only such a table is reported as damaged
abbrev pub NamesPlayed : Rows → Version → Database → OpenFault → Type 0
NamesPlayed rows version db fault = (t : Table) → fault ≡ Damaged t → IsWrongOfPlay rows version db t

-- the wrong table is one of moves, rulings, games and positions, or `meta`
abbrev pub IsLater : Option Table → Type 0
IsLater wrong = (t : Table) → wrong ≡ Some t → IsOfPlay t ⊎ (t ≡ Meta)

-- only the challenges are reported as damaged, and no legal club has those that were read
abbrev pub NamesChallenges : Rows → OpenFault → Type 0
NamesChallenges rows fault = (t : Table) → fault ≡ Damaged t
    → (t ≡ Challenges) × ((cs : List Challenge) → ¬ AreChallenges cs rows)

-- a legal club with these games has the rows of scores
pub record HasScores (rows : Rows) (content : Content) : Type 0 where
  pub state : ClubState
  pub legal : IsClub state
  pub games : map game_cells rows.games.items ≡ numbered_from (row_of_game both_games state.events) 1 state.games
  pub same : HaveSame (content (tree_of Scores)) (tables state (tree_of Scores))

-- only the scores are reported as damaged, and no legal club with these games has their rows
abbrev pub NamesScores : Rows → Database → OpenFault → Type 0
NamesScores rows db fault = (t : Table) → fault ≡ Damaged t
    → (t ≡ Scores) × HoldsNone db (λ version content. HasScores rows content)

-- The games with their moves, rulings and positions are those of a club, and no row belongs to none of them.
pub record ArePlayed (rows : Rows) (version : Version) (db : Database) : Type 0 where
  pub seated : AreSeated rows version db
  pub seen_are : (s : ClubState) (people : HasPeople s rows) → AreSeenOf (seated.found s people).games (club_trees db)
  pub none_seen : (s : ClubState) → HasPeople s rows
      → length (past (length rows.games.items) (seen_in (club_trees db))) ≡ 0

-- the rows of scores are those of these games
pub record AreScored (rows : Rows) (db : Database) : Type 0 where
  pub scored : List Row
  pub keeps : Keeps (standing Scores) (club_trees db) scored
  pub are : (s : ClubState) → AreGamesOf s rows.games.items → AreEachOnce scored (scores_in both_games s.games)

-- a table after the challenges that is named: one of moves, rulings, games and positions; or the scores, if those are
-- right; or `meta`, if the scores are right, too
abbrev pub IsNamedAfter : Rows → Version → Database → Table → Type 0
IsNamedAfter rows version db t = IsWrongOfPlay rows version db t
    ⊎ (((t ≡ Scores) × ArePlayed rows version db × HoldsNone db (λ _ content. HasScores rows content))
    ⊎ ((t ≡ Meta) × ArePlayed rows version db × AreScored rows db))

-- the meaning of an error about the rows that were read and those of moves, rulings, positions and scores
abbrev pub NamesExamined : Rows → Version → Database → OpenFault → Type 0
NamesExamined rows version db fault = (t : Table) → fault ≡ Damaged t
    → ((t ≡ Challenges) × ((cs : List Challenge) → ¬ AreChallenges cs rows))
    ⊎ (((cs : List Challenge) × AreChallenges cs rows) × IsNamedAfter rows version db t)

-- the rows of events of every club whose events the database may hold
abbrev pub TellsEvents : List EventRow → Database → Type 0
TellsEvents rows db = (version : Version) (content : Content) → HoldsRows version content db
    → (s : ClubState) → HaveSame (content (tree_of Events)) (tables s (tree_of Events))
    → map event_cells rows ≡ numbered_from event_row 1 s.events

-- the rows of members of every club whose members the database may hold
abbrev pub TellsMembers : List MemberRow → Database → Type 0
TellsMembers rows db = (version : Version) (content : Content) → HoldsRows version content db
    → (s : ClubState) → HaveSame (content (tree_of Members)) (tables s (tree_of Members))
    → map member_cells rows ≡ numbered_from member_row 1 s.members
