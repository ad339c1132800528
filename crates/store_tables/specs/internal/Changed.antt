-- The content of the tables after the rows that a command changes are upserted. No promise of the program rests on
-- these definitions.
use Rattle.std.specs.Prelude.{◌≡◌, ℤ, pos, List, [], ◌∷◌, map, Option, Some, None}
use Rattle.sqlite_value.specs.declared.value.Value.TheVariants.{Int}
use Rattle.sqlite.specs.Order.{Row}
use Rattle.store_tables.specs.internal.Changes.{Alters}
use Rattle.store_tables.specs.Cells.{event_cells, move_cells, game_cells, ruling_cells}
use Rattle.store_tables.specs.internal.Cells.{meta_cells, member_cells, challenge_cells}
use Rattle.store_tables.specs.Cells.{seen_cells}
use Rattle.store_tables.specs.internal.Cells.{event_rule_cells, score_cells}
use Rattle.store_tables.specs.internal.Cells.{closing_cells, key_cells}
use Rattle.store_tables.specs.Contents.{Content}
use Rattle.store_tables.specs.internal.Contents.{put_in, put_each}
use Rattle.store_tables.specs.Names.{tree_of}
use Rattle.store_tables.specs.Tables.{schema_number}
use Rattle.store_tables.specs.declared.names.Table.TheVariants.{Members, Events, EventRules, Challenges, Moves, Games}
use Rattle.store_tables.specs.declared.names.Table.TheVariants.{Seen, Scores, Meta, Keys, Rulings, Closings}
use Rattle.store_tables.specs.declared.rows.EventRuleRow.{EventRuleRow}
use Rattle.store_tables.specs.declared.rows.MetaRow.{MetaRow}
use Rattle.store_tables.specs.declared.rows.Changes.{Changes}
use Rattle.store_tables.specs.declared.names.Version.{Version}
use Rattle.store_tables.specs.declared.names.Version.TheVariants.{V1, V2, V3}

abbrev pub people_put : Changes → Content → Content
people_put c content =
    put_each (tree_of Challenges) (0 ∷ 1 ∷ []) (map challenge_cells c.challenges.items)
    (put_each (tree_of EventRules) (0 ∷ []) (map event_rule_cells c.event_rules.items)
    (put_each (tree_of Events) (0 ∷ []) (map event_cells c.events.items)
    (put_each (tree_of Members) (0 ∷ []) (map member_cells c.members.items) content)))

abbrev pub play_put : Changes → Content → Content
play_put c content = put_each (tree_of Moves) (0 ∷ 1 ∷ []) (map move_cells c.moves.items)
    (put_each (tree_of Games) (0 ∷ []) (map game_cells c.games.items) content)

abbrev pub counts_put : Changes → Content → Content
counts_put c content = put_each (tree_of Scores) (0 ∷ 1 ∷ 2 ∷ []) (map score_cells c.scores.items)
    (put_each (tree_of Seen) (0 ∷ 1 ∷ []) (map seen_cells c.seen.items) content)

-- the arbiter's tables
abbrev pub rulings_put : Changes → Content → Content
rulings_put c content =
    put_each (tree_of Closings) (0 ∷ []) (map closing_cells c.closings.items)
    (put_each (tree_of Rulings) (0 ∷ 1 ∷ []) (map ruling_cells c.rulings.items)
    (put_each (tree_of Keys) (0 ∷ 1 ∷ []) (map key_cells c.keys.items) content))

-- the row of `meta` of a club of this version whose last accepted command has this timestamp
abbrev pub meta_at : Version → ℤ → Row
meta_at version last = Int (pos 1) ∷ Int (pos (schema_number version)) ∷ Int last ∷ []

abbrev pub put_maybe : Version → Option ℤ → Content → Content
put_maybe version None content = content
put_maybe version (Some last) content = put_in (tree_of Meta) (0 ∷ []) (meta_at version last) content

abbrev pub meta_put : Version → Changes → Content → Content
meta_put version c content = put_maybe version c.last content

-- the content of a club of this version after all upserts, table by table
abbrev pub changed : Version → Changes → Content → Content
changed version c content = meta_put version c (rulings_put c (counts_put c (play_put c (people_put c content))))

-- the content after a migration: the rows before it with these event rules and this row of `meta`
abbrev pub widened : List EventRuleRow → MetaRow → Content → Content
widened rules meta content = put_in (tree_of Meta) (0 ∷ []) (meta_cells meta)
    (put_each (tree_of EventRules) (0 ∷ []) (map event_rule_cells rules) content)

abbrev pub maybe_row : Version → Option ℤ → List Row
maybe_row version None = []
maybe_row version (Some last) = meta_at version last ∷ []

-- Each table of the new content is the old one with its changed rows upserted, in any order.
pub record AltersTables (version : Version) (changes : Changes) (old new : Content) : Type 0 where
  pub meta : Alters (0 ∷ []) (maybe_row version changes.last) (old (tree_of Meta)) (new (tree_of Meta))
  pub members : Alters (0 ∷ []) (map member_cells changes.members.items) (old (tree_of Members)) (new (tree_of Members))
  pub events : Alters (0 ∷ []) (map event_cells changes.events.items) (old (tree_of Events)) (new (tree_of Events))
  pub event_rules : Alters (0 ∷ []) (map event_rule_cells changes.event_rules.items)
      (old (tree_of EventRules)) (new (tree_of EventRules))
  pub challenges : Alters (0 ∷ 1 ∷ []) (map challenge_cells changes.challenges.items)
      (old (tree_of Challenges)) (new (tree_of Challenges))
  pub moves : Alters (0 ∷ 1 ∷ []) (map move_cells changes.moves.items) (old (tree_of Moves)) (new (tree_of Moves))
  pub games : Alters (0 ∷ []) (map game_cells changes.games.items) (old (tree_of Games)) (new (tree_of Games))
  pub seen : Alters (0 ∷ 1 ∷ []) (map seen_cells changes.seen.items) (old (tree_of Seen)) (new (tree_of Seen))
  pub scores : Alters (0 ∷ 1 ∷ 2 ∷ []) (map score_cells changes.scores.items)
      (old (tree_of Scores)) (new (tree_of Scores))
  pub keys : Alters (0 ∷ 1 ∷ []) (map key_cells changes.keys.items) (old (tree_of Keys)) (new (tree_of Keys))
  pub rulings : Alters (0 ∷ 1 ∷ []) (map ruling_cells changes.rulings.items)
      (old (tree_of Rulings)) (new (tree_of Rulings))
  pub closings : Alters (0 ∷ []) (map closing_cells changes.closings.items)
      (old (tree_of Closings)) (new (tree_of Closings))

-- The changes can be upserted in a club of this version: only schema 3 takes rows of the arbiter's tables.
abbrev pub FitsVersion : Version → Changes → Type 0
FitsVersion V1 changes = ⊥
FitsVersion V2 changes =
    (changes.keys.items ≡ []) × (changes.rulings.items ≡ []) × (changes.closings.items ≡ [])
FitsVersion V3 changes = Unit {0}
