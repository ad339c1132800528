-- When all rows of one game are those of a legal game of its event, and the first wrong table.
use Rattle.std.specs.Prelude.{◌≡◌, ◌≤◌, ℕ, List, map, Option, Some}
use Rattle.club_rules.specs.declared.names.GameKind.{GameKind}
use Rattle.club_rules.specs.declared.names.GameKind.TheVariants.{Draughts, Shogi}
use Rattle.club_rules.specs.GameRules.{GameRules}
use Rattle.club_core.specs.Events.{Terms}
use Rattle.club_core.specs.Game.{Game}
use Rattle.store_tables.specs.Cells.{seen_cells}
use Rattle.store_tables.specs.declared.rows.GameTableRow.{GameTableRow}
use Rattle.store_tables.specs.declared.rows.MoveRow.{MoveRow}
use Rattle.store_tables.specs.declared.rows.RulingRow.{RulingRow}
use Rattle.store_tables.specs.declared.rows.SeenRow.{SeenRow}
use Rattle.store_tables.specs.declared.names.Table.{Table}
use Rattle.store_tables.specs.declared.names.Table.TheVariants.{Moves, Games, Seen, Meta, Rulings}
use Rattle.club_requests.specs.Limits.{last_moment}
use Rattle.club_audit.specs.Audit.{EndsBy, HaveGame}
use Rattle.club_rows.specs.Club.{both_games}
use Rattle.club_rows.specs.EachOnce.{AreEachOnce}
use Rattle.club_rows.specs.Seen.{seen_rows}
use Rattle.club_rows.specs.LegalRows.{AreMovesOf, AreRowsOf, AreRulingsOf}
use Rattle.club_rows.specs.Rulings.{ArePossibleRows}

-- these are all rows of some legal game with these rules and terms, with timestamps up to `last`
pub record HaveAll {P M E T : Type 0} (rules : GameRules P M E T) (terms : Terms) (last : ℕ)
    (row : GameTableRow) (moves : List MoveRow) (rulings : List RulingRow) (seen : List SeenRow) : Type 0 where
  pub id : ℕ
  pub game : Game M
  pub are : AreRowsOf rules terms id row moves rulings game
  pub within : EndsBy rules terms last game
  pub seen_are : AreEachOnce (map seen_cells seen) (seen_rows rules id game)

-- ---- table by table

-- The condition on each table, given that the tables before it are right: moves of a legal game, unless its rulings are
-- wrong by themselves; legal rulings beside these moves; the game's row, without a limit on timestamps; all positions;
-- timestamps up to `last`, if given.
abbrev pub IsRightIn : {P M E T : Type 0} → GameRules P M E T → Terms → Option ℕ → GameTableRow → List MoveRow
    → List RulingRow → List SeenRow → Table → Type 0
IsRightIn rules terms last row moves rulings seen Moves =
    ArePossibleRows row rulings → AreMovesOf rules terms row moves rulings
IsRightIn rules terms last row moves rulings seen Rulings = AreRulingsOf rules terms row moves rulings
IsRightIn rules terms last row moves rulings seen Games = HaveGame rules terms last_moment row moves rulings
IsRightIn rules terms last row moves rulings seen Seen = HaveAll rules terms last_moment row moves rulings seen
IsRightIn rules terms last row moves rulings seen Meta =
    (n : ℕ) → last ≡ Some n → n ≤ last_moment → HaveAll rules terms n row moves rulings seen
IsRightIn rules terms last row moves rulings seen t = Unit {0}

-- the same for the rules of the kind
abbrev pub IsRightOf : GameKind → Terms → Option ℕ → GameTableRow → List MoveRow → List RulingRow → List SeenRow
    → Table → Type 0
IsRightOf Draughts terms last row moves rulings seen t =
    IsRightIn both_games.draughts terms last row moves rulings seen t
IsRightOf Shogi terms last row moves rulings seen t = IsRightIn both_games.shogi terms last row moves rulings seen t
