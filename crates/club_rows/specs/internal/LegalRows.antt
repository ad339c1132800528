-- When rows are those of a legal game, and the view that they give. No promise of the program rests on these
-- definitions.
use Rattle.std.specs.Prelude.{◌≡◌, ◌≢◌, ℕ, List, [], IsTrue, true}
use Rattle.club_rules.specs.GameRules.{GameRules}
use Rattle.club_requests.specs.Limits.{is_budget, is_increment}
use Rattle.club_core.specs.Events.{Terms}
use Rattle.club_core.specs.Game.{Game, moves_of}
use Rattle.club_core.specs.Legal.{IsLegalGame}
use Rattle.club_rows.specs.internal.Columns.{Columns, HasReplayed}
use Rattle.club_rows.specs.internal.MayStand.{may_declare, may_stand}
use Rattle.club_core.specs.View.{Shows, IsSound, terms_of}
use Rattle.store_tables.specs.Cells.{game_cells}
use Rattle.store_tables.specs.declared.rows.GameTableRow.{GameTableRow}
use Rattle.store_tables.specs.declared.rows.MoveRow.{MoveRow}
use Rattle.store_tables.specs.declared.rows.RulingRow.{RulingRow}
use Rattle.club_rows.specs.Tables.{game_row}
use Rattle.club_rows.specs.internal.Tally.{IsTallyOf}
use Rattle.club_rows.specs.declared.view.CheckedGame.{CheckedGame}
use Rattle.club_rows.specs.declared.view.CheckedRows.{CheckedRows}
use Rattle.club_rows.specs.declared.view.CheckedRows.TheVariants as shown
use Rattle.club_rows.specs.LegalRows.{FitsTables, AreRowsOf, AreMovesOf, AreRulingsOf}
use Rattle.club_rows.specs.Rulings.{ArePossibleRows}

-- the row is that of this legal game, whose values fit the tables
pub record IsRecordOf {P M E T : Type 0} (rules : GameRules P M E T) (terms : Terms) (id : ℕ) (stored : GameTableRow)
    (game : Game M) : Type 0 where
  pub budget : IsTrue (is_budget terms.budget)
  pub increment : IsTrue (is_increment terms.increment)
  pub legal : IsLegalGame rules terms game
  pub fits : FitsTables id game
  pub row : game_cells stored ≡ game_row rules terms id game

-- the moves are the game's, and the repetition counts are those of its line
pub record IsHistoryOf {R P M E T : Type 0} (rules : GameRules P M E T) (game : Game M)
    (played : CheckedGame R P M E T) : Type 0 where
  pub line : played.line.items ≡ moves_of game
  pub tally : IsTallyOf rules (moves_of game) played.tally

-- the outcome is a view of this game with these terms
abbrev pub ShowsGame : {R P M E T : Type 0} → GameRules P M E T → Terms → Game M → CheckedRows R P M E T → Type 0
ShowsGame rules terms game (shown.Game played) =
    (terms_of played.view ≡ terms) × Shows rules game played.view × IsHistoryOf rules game played
ShowsGame rules terms game _ = ⊥

-- if the outcome is a view, the rows are those of a legal game, and the view is that game's
abbrev pub IsSoundIfShown : {R P M E T : Type 0} → GameRules P M E T → Terms → GameTableRow → List MoveRow
    → List RulingRow → CheckedRows R P M E T → Type 0
IsSoundIfShown {R} {P} {M} {E} {T} rules terms row moves rulings (shown.Game played) =
    (id : ℕ) × (game : Game M) × AreRowsOf rules terms id row moves rulings game × (terms_of played.view ≡ terms)
    × Shows rules game played.view × IsSound rules played.view × IsHistoryOf rules game played
IsSoundIfShown rules terms row moves rulings _ = Unit {0}

-- `WrongMoves` only if the moves are wrong, and the rulings not already by themselves; `WrongRulings` only if the
-- rulings are wrong, and the moves right unless the rulings are wrong by themselves; `WrongGame` only if both are right
-- and the row is wrong
abbrev pub IsWrongAsTold : {R P M E T : Type 0} → GameRules P M E T → Terms → GameTableRow → List MoveRow
    → List RulingRow → CheckedRows R P M E T → Type 0
IsWrongAsTold rules terms row moves rulings (shown.Game played) = Unit {0}
IsWrongAsTold rules terms row moves rulings shown.WrongMoves =
    ArePossibleRows row rulings × ¬ AreMovesOf rules terms row moves rulings
IsWrongAsTold rules terms row moves rulings shown.WrongRulings =
    (ArePossibleRows row rulings → AreMovesOf rules terms row moves rulings)
    × ¬ AreRulingsOf rules terms row moves rulings
IsWrongAsTold {M = M} rules terms row moves rulings shown.WrongGame =
    AreMovesOf rules terms row moves rulings × AreRulingsOf rules terms row moves rulings
    × ((id : ℕ) (game : Game M) → ¬ AreRowsOf rules terms id row moves rulings game)

-- with an invalid id: `WrongRulings` if there are rulings, else `WrongMoves` if there are moves, else `WrongGame`
abbrev pub IsWithoutId : {R P M E T : Type 0} → List MoveRow → List RulingRow → CheckedRows R P M E T → Type 0
IsWithoutId moves rulings (shown.Game played) = ⊥
IsWithoutId moves rulings shown.WrongMoves = (rulings ≡ []) × (moves ≢ [])
IsWithoutId moves rulings shown.WrongRulings = rulings ≢ []
IsWithoutId moves rulings shown.WrongGame = (rulings ≡ []) × (moves ≡ [])

-- with an invalid start: `WrongMoves` if there are moves, else `WrongRulings` if there are rulings, else `WrongGame`
abbrev pub IsUnstarted : {R P M E T : Type 0} → List MoveRow → List RulingRow → CheckedRows R P M E T → Type 0
IsUnstarted moves rulings (shown.Game played) = ⊥
IsUnstarted moves rulings shown.WrongMoves = moves ≢ []
IsUnstarted moves rulings shown.WrongRulings = (moves ≡ []) × (rulings ≢ [])
IsUnstarted moves rulings shown.WrongGame = (moves ≡ []) × (rulings ≡ [])

-- the outcome is a game if its row is possible and has the stored columns
abbrev pub StandsAs : {R P M E T : Type 0} → GameRules P M E T → Columns → CheckedGame R P M E T → CheckedRows R P M E T
    → Type 0
StandsAs rules c played (shown.Game p) =
    (p ≡ played) × (may_stand rules.has_draw_offers (may_declare rules played.view) played.view.row ≡ true)
    × HasReplayed rules played.view.row c
StandsAs rules c played shown.WrongMoves = ⊥
StandsAs rules c played shown.WrongRulings = ⊥
StandsAs rules c played shown.WrongGame =
    may_stand rules.has_draw_offers (may_declare rules played.view) played.view.row ≡ true
    → HasReplayed rules played.view.row c → ⊥
