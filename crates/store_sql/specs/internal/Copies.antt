-- All rows of a club, for a copy. No promise of the program rests on these definitions.
use Rattle.std.specs.Prelude.{◌≡◌, ℤ, [], Some, map}
use Rattle.store_tables.specs.Cells.{event_cells, move_cells, game_cells, ruling_cells}
use Rattle.store_tables.specs.internal.Cells.{member_cells, challenge_cells}
use Rattle.store_tables.specs.Cells.{seen_cells}
use Rattle.store_tables.specs.internal.Cells.{closing_cells, event_rule_cells, key_cells, score_cells}
use Rattle.store_tables.specs.internal.Changed.{maybe_row}
use Rattle.store_tables.specs.Changes.{HaveSame}
use Rattle.store_tables.specs.Contents.{Content}
use Rattle.store_tables.specs.declared.rows.Changes.{Changes}
use Rattle.store_tables.specs.Names.{tree_of}
use Rattle.store_tables.specs.declared.names.Table.TheVariants.{Meta, Members, Events, Challenges, Moves, Games}
use Rattle.store_tables.specs.declared.names.Table.TheVariants.{Seen, Scores, EventRules, Keys, Rulings, Closings}
use Rattle.store_tables.specs.declared.names.Version.{Version}
use Rattle.store_tables.specs.declared.names.Version.TheVariants.{V1, V2, V3}
use Rattle.store_sql.specs.declared.rows.ArbiterRows.{ArbiterRows}
use Rattle.store_sql.specs.declared.rows.CopiedRows.{CopiedRows}
use Rattle.store_sql.specs.declared.rows.Play.{Play}

-- These are all rows of members, events, event rules and challenges, in any order.
pub record ArePeople (rows : CopiedRows) (content : Content) : Type 0 where
  pub members : HaveSame (map member_cells rows.members.items) (content (tree_of Members))
  pub events : HaveSame (map event_cells rows.events.items) (content (tree_of Events))
  pub event_rules : HaveSame (map event_rule_cells rows.event_rules.items) (content (tree_of EventRules))
  pub challenges : HaveSame (map challenge_cells rows.challenges.items) (content (tree_of Challenges))

-- These are all rows of games, moves, positions and scores, in any order.
pub record ArePlay (rows : Play) (content : Content) : Type 0 where
  pub moves : HaveSame (map move_cells rows.moves.items) (content (tree_of Moves))
  pub games : HaveSame (map game_cells rows.games.items) (content (tree_of Games))
  pub seen : HaveSame (map seen_cells rows.seen.items) (content (tree_of Seen))
  pub scores : HaveSame (map score_cells rows.scores.items) (content (tree_of Scores))

-- These are all rows of later keys, rulings and closed events, in any order.
pub record AreRulings (rows : ArbiterRows) (content : Content) : Type 0 where
  pub keys : HaveSame (map key_cells rows.keys.items) (content (tree_of Keys))
  pub rulings : HaveSame (map ruling_cells rows.rulings.items) (content (tree_of Rulings))
  pub closings : HaveSame (map closing_cells rows.closings.items) (content (tree_of Closings))

-- there are none
pub record AreNoRulings (rows : ArbiterRows) : Type 0 where
  pub keys : rows.keys.items ≡ []
  pub rulings : rows.rulings.items ≡ []
  pub closings : rows.closings.items ≡ []

-- These are all rows of the arbiter's tables that a club of this version has.
abbrev pub AreRulingsIn : Version → ArbiterRows → Content → Type 0
AreRulingsIn V1 rows content = AreNoRulings rows
AreRulingsIn V2 rows content = AreNoRulings rows
AreRulingsIn V3 rows content = AreRulings rows content

-- the same for the changes that have the rows
abbrev pub arbiter_rows : Changes → ArbiterRows
arbiter_rows c = record { keys = c.keys; rulings = c.rulings; closings = c.closings }

-- These are all rows of each table of a club of this version, in any order; `meta` has exactly one row, with
-- the number of the version.
pub record AreAll (version : Version) (rows : Changes) (content : Content) : Type 0 where
  pub last : ℤ
  pub is_last : rows.last ≡ Some last
  pub meta : HaveSame (maybe_row version rows.last) (content (tree_of Meta))
  pub members : HaveSame (map member_cells rows.members.items) (content (tree_of Members))
  pub events : HaveSame (map event_cells rows.events.items) (content (tree_of Events))
  pub event_rules : HaveSame (map event_rule_cells rows.event_rules.items) (content (tree_of EventRules))
  pub challenges : HaveSame (map challenge_cells rows.challenges.items) (content (tree_of Challenges))
  pub moves : HaveSame (map move_cells rows.moves.items) (content (tree_of Moves))
  pub games : HaveSame (map game_cells rows.games.items) (content (tree_of Games))
  pub seen : HaveSame (map seen_cells rows.seen.items) (content (tree_of Seen))
  pub scores : HaveSame (map score_cells rows.scores.items) (content (tree_of Scores))
  pub arbiter : AreRulingsIn version (arbiter_rows rows) content
