-- When rows are those of a legal game, and the view that they give.
use Rattle.std.specs.Prelude.{◌≡◌, ◌≢◌, ◌<◌, ◌≤◌, ◌^◌, ◌⊎◌, ℕ, pos, List, [], map, Some, None, IsTrue, IfSome, codes}
use Rattle.std.specs.Prelude.{string_bytes}
use Rattle.std.specs.Option.{option_map}
use Rattle.club_rules.specs.GameRules.{GameRules}
use Rattle.club_requests.specs.Limits.{is_name, is_budget, is_increment, last_moment}
use Rattle.club_core.specs.Events.{Terms}
use Rattle.club_core.specs.Game.{Game, rule_end}
use Rattle.club_core.specs.Legal.{AreLegalRulings, IsLegalGame}
use Rattle.club_core.specs.LegalState.{Each}
use Rattle.club_core.specs.Rulings.{verdict_of}
use Rattle.club_rows.specs.Replay.{IsPlayedAs}
use Rattle.club_rows.specs.Rulings.{AreRulingRows}
use Rattle.store_tables.specs.Cells.{game_cells, move_cells, ruling_cells}
use Rattle.store_tables.specs.declared.rows.GameTableRow.{GameTableRow}
use Rattle.store_tables.specs.declared.rows.MoveRow.{MoveRow}
use Rattle.store_tables.specs.declared.rows.RulingRow.{RulingRow}
use Rattle.club_rows.specs.Tables.{game_row, move_rows, ruling_rows}

-- the game's values fit their columns: a legal key, ids of 32 bits, timestamps up to `last_moment`
pub record FitsTables {M : Type 0} (number : ℕ) (game : Game M) : Type 0 where
  pub id : number < 2 ^ 32
  pub event : game.event < 2 ^ 32
  pub first : game.first < 2 ^ 32
  pub second : game.second < 2 ^ 32
  pub key : IfSome game.key (λ k. IsTrue (is_name k))
  pub start : game.start ≤ last_moment
  pub entries : Each (λ e. e.moment ≤ last_moment) game.entries
  pub rulings : Each (λ r. r.moment ≤ last_moment) game.rulings

-- the rows are those of this legal game with this id and these terms
pub record AreRowsOf {P M E T : Type 0} (rules : GameRules P M E T) (terms : Terms) (id : ℕ) (stored : GameTableRow)
    (stored_moves : List MoveRow) (stored_rulings : List RulingRow) (game : Game M) : Type 0 where
  pub budget : IsTrue (is_budget terms.budget)
  pub increment : IsTrue (is_increment terms.increment)
  pub legal : IsLegalGame rules terms game
  pub fits : FitsTables id game
  pub row : game_cells stored ≡ game_row rules terms id game
  pub moves : map move_cells stored_moves ≡ move_rows rules terms id game
  pub rulings : map ruling_cells stored_rulings ≡ ruling_rows id game

-- the game has the id and start of this row
pub record StartsAs (stored : GameTableRow) (id start : ℕ) : Type 0 where
  pub id_is : stored.id ≡ pos id
  pub start_is : stored.start ≡ pos start
  pub short : id < 2 ^ 32
  pub within : start ≤ last_moment

-- the rows are those of the moves of some game with the id and start of this row, and of its rulings
pub record HaveGameFrom {P M E T : Type 0} (rules : GameRules P M E T) (terms : Terms) (stored : GameTableRow)
    (stored_moves : List MoveRow) (stored_rulings : List RulingRow) : Type 0 where
  pub id : ℕ
  pub start : ℕ
  pub starts : StartsAs stored id start
  pub game : Game M
  pub played : IsPlayedAs rules terms id start stored_moves game
  pub rulings : AreRulingRows id stored_rulings game.rulings

-- there are no moves, or they are those of such a game
abbrev pub AreMovesOf : {P M E T : Type 0} → GameRules P M E T → Terms → GameTableRow → List MoveRow → List RulingRow
    → Type 0
AreMovesOf rules terms stored stored_moves stored_rulings =
    (stored_moves ≡ []) ⊎ HaveGameFrom rules terms stored stored_moves stored_rulings

-- The rows are those of the legal rulings on some game with these moves and with the id and start of this row. Without
-- a verdict and without an end by the rules, the row does not name the score of an imported record as the end.
pub record HaveRuledGame {P M E T : Type 0} (rules : GameRules P M E T) (terms : Terms) (stored : GameTableRow)
    (stored_moves : List MoveRow) (stored_rulings : List RulingRow) : Type 0 where
  pub id : ℕ
  pub start : ℕ
  pub starts : StartsAs stored id start
  pub game : Game M
  pub played : IsPlayedAs rules terms id start stored_moves game
  pub legal : AreLegalRulings rules terms game
  pub moments : Each (λ r. r.moment ≤ last_moment) game.rulings
  pub rows : map ruling_cells stored_rulings ≡ ruling_rows id game
  pub recorded : rule_end rules game ≡ None → verdict_of game.rulings ≡ None
      → option_map (λ s. string_bytes s) stored.end ≢ Some (codes "Recorded")

-- there are no rulings, or they are those on such a game
abbrev pub AreRulingsOf : {P M E T : Type 0} → GameRules P M E T → Terms → GameTableRow → List MoveRow → List RulingRow
    → Type 0
AreRulingsOf rules terms stored stored_moves stored_rulings =
    (stored_rulings ≡ []) ⊎ HaveRuledGame rules terms stored stored_moves stored_rulings
