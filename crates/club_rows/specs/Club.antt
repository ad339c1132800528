-- The club with both games, its legal states and their tables.
use Rattle.squares.specs.declared.draughts.moves.DMove.{DMove}
use Rattle.squares.specs.declared.shogi.moves.SMove.{SMove}
use Rattle.squares.specs.DraughtsBoard.{Position}
use Rattle.squares.specs.ShogiSets.{ShogiPosition}
use Rattle.draughts_draws.specs.declared.ends.DEnd.{DEnd}
use Rattle.draughts_draws.specs.declared.tails.Tail as draughts_track
use Rattle.shogi_repetition.specs.declared.ends.SEnd.{SEnd}
use Rattle.shogi_repetition.specs.declared.tails.Tail as shogi_track
use Rattle.club_games.specs.Draughts.{draughts}
use Rattle.club_games.specs.DraughtsRecords.{draughts_records}
use Rattle.club_games.specs.Shogi.{shogi}
use Rattle.club_games.specs.ShogiRecords.{shogi_records}
use Rattle.club_core.specs.ClubRules.{ClubRules, both}
use Rattle.club_core.specs.LegalState.{IsLegalState}
use Rattle.club_core.specs.State.{AnyGame, State}
use Rattle.sqlite.specs.State as connection
use Rattle.store_tables.specs.Contents.{Content}
use Rattle.store_tables.specs.Over.{HasRowsIn}
use Rattle.club_rows.specs.Tables.{tables_of, version_of}

-- the rules and record formats of the club's games
abbrev pub both_games : ClubRules Position DMove DEnd draughts_track.Tail ShogiPosition SMove SEnd shogi_track.Tail
both_games = both draughts shogi draughts_records shogi_records

-- a draughts or shogi game
abbrev pub ClubGame : Type 0
ClubGame = AnyGame DMove SMove

-- a state of a club with draughts and shogi games, legal or not
abbrev pub ClubState : Type 0
ClubState = State DMove SMove

-- a legal state
abbrev pub IsClub : ClubState → Type 0
IsClub s = IsLegalState both_games s

-- the content of its tables
abbrev pub tables : ClubState → Content
tables s = tables_of both_games s

-- The connection has exactly the tables of this club in its schema version, alone or among foreign tables, also after
-- a crash.
abbrev pub StoresClub : ClubState → connection.State → Type 0
StoresClub s = HasRowsIn (version_of s) (tables s)
