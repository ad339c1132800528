-- The result of reading a club's tables, and the meaning of each error. No promise of the program rests on these
-- definitions.
use Rattle.std.specs.Prelude.{◌≡◌, ◌≢◌, ◌⊎◌, ℕ, ℤ, pos, true, false, List, [], ◌∷◌, map}
use Rattle.std.specs.List.{AllByRecursion}
use Rattle.sqlite.specs.Order.{Row}
use Rattle.sqlite.specs.Table.{Table as Definition}
use Rattle.sqlite.specs.State.{State, IsUnchanged}
use Rattle.sqlite.specs.declared.types.Value.TheVariants.{Int}
use Rattle.store_tables.specs.Placed.{HasTablesOf, club_trees}
use Rattle.store_tables.specs.Cells.{event_cells, game_cells}
use Rattle.store_tables.specs.internal.Cells.{closing_cells, key_cells, meta_cells, member_cells, challenge_cells}
use Rattle.store_tables.specs.internal.Cells.{event_rule_cells}
use Rattle.store_tables.specs.Content.{Keeps, AreApart, cells}
use Rattle.store_sql.specs.internal.Read.{AreCounted, AreReadOf, IsReadAs}
use Rattle.store_tables.specs.Tables.{events, schema_number}
use Rattle.store_tables.specs.declared.rows.EventRow.{EventRow}
use Rattle.store_tables.specs.declared.rows.ClosingRow.{ClosingRow}
use Rattle.store_tables.specs.declared.rows.EventRuleRow.{EventRuleRow}
use Rattle.store_tables.specs.declared.rows.KeyRow.{KeyRow}
use Rattle.store_tables.specs.declared.rows.MetaRow.{MetaRow}
use Rattle.store_tables.specs.declared.rows.Rows.{Rows}
use Rattle.store_tables.specs.declared.names.Table.{Table}
use Rattle.store_tables.specs.declared.names.Table.TheVariants.{Members, Events, EventRules, Challenges, Games}
use Rattle.store_tables.specs.declared.names.Table.TheVariants.{Meta, Keys, Closings, Rulings}
use Rattle.store_tables.specs.Names.{tree_of}
use Rattle.schema_match.specs.Shapes.{is_of_club}
use Rattle.store_tables.specs.declared.names.Version.{Version}
use Rattle.store_tables.specs.declared.names.Version.TheVariants.{V1, V2, V3}
use Rattle.store_tables.specs.Tables.{standing}
use Rattle.club_check.specs.declared.fault.OpenFault.{OpenFault}
use Rattle.club_check.specs.declared.read.MembersAndEvents.{MembersAndEvents}
use Rattle.club_check.specs.declared.fault.OpenFault.TheVariants.{Damaged, Store, Memory}
use Rattle.sqlite.specs.Effect.{Database}
use Rattle.club_check.specs.ReasonIsRight.{HasTypes, HoldsNone, HoldsOnly, IsOneMeta}

-- whatever content the database may hold, it holds it in this version
abbrev pub HoldsIn : Version → Database → Type 0
HoldsIn version db = HoldsOnly db (λ v content. v ≡ version)

-- without a schema number the version is schema 3 if there are tables that can be used as all of its tables
abbrev pub IsAssumed : Version → State → Type 0
IsAssumed version old = ((version ≡ V3) × (is_of_club V3 old.now.schema ≡ true))
    ⊎ ((version ≡ V2) × (is_of_club V3 old.now.schema ≡ false))

-- This is the row of `meta`, with the number of this version. If `meta` is not one row with the right types, the
-- version is assumed and this row has an invalid timestamp.
abbrev pub IsMetaRead : Version → MetaRow → State → State → Type 0
IsMetaRead version row old new =
    (IsReadAs (standing Meta) 1 (meta_cells row ∷ []) old new × (row.id ≡ pos 1)
    × (row.schema ≡ pos (schema_number version)))
    ⊎ (IsAssumed version old × ((n : ℕ) → row.last ≢ pos n) × HoldsNone old.now (λ _ content. HasTypes Meta content)
    × (¬ IsOneMeta (map (cells (standing Meta)) (club_trees old.now (tree_of Meta)))))

-- the row of event rules for an event that does not allow declarations
abbrev pub undeclared_row : EventRow → Row
undeclared_row event = Int event.id ∷ Int (pos 0) ∷ []

-- the event rules of these events: the rows of their table, or, in a version without it, no declarations for any event
abbrev pub AreRulesRead : Version → List EventRow → List EventRuleRow → State → State → Type 0
AreRulesRead V1 events rules old new = IsUnchanged old new
    × (map event_rule_cells rules ≡ map undeclared_row events)
AreRulesRead _ events rules old new = IsReadAs (standing EventRules) 1 (map event_rule_cells rules) old new

-- the later keys: the rows of their table, or none in a version without it
abbrev pub AreKeysRead : Version → List KeyRow → State → State → Type 0
AreKeysRead V3 keys old new = IsReadAs (standing Keys) 2 (map key_cells keys) old new
AreKeysRead _ keys old new = IsUnchanged old new × (keys ≡ [])

-- the closed events: the rows of their table, or none in a version without it
abbrev pub AreClosingsRead : Version → List ClosingRow → State → State → Type 0
AreClosingsRead V3 closings old new = IsReadAs (standing Closings) 1 (map closing_cells closings) old new
AreClosingsRead _ closings old new = IsUnchanged old new × (closings ≡ [])

-- the number of rulings, 0 in a version without the table
abbrev pub AreRulingsCounted : Version → ℕ → State → State → Type 0
AreRulingsCounted V3 count old new = AreCounted (tree_of Rulings) count old new
AreRulingsCounted _ count old new = IsUnchanged old new × (count ≡ 0)

-- the rulings on the game with this id, in the order of their numbers; none in a version without the table
abbrev pub AreRulingsRead : Version → ℤ → List Row → State → State → Type 0
AreRulingsRead V3 id rows old new = AreReadOf (standing Rulings) 2 id rows old new
AreRulingsRead _ id rows old new = IsUnchanged old new × (rows ≡ [])

-- The tables that are read whole have these rows, and the schema number is that of the version, if `meta` has its row.
pub record AreRead (version : Version) (rows : Rows) (old new : State) : Type 0 where
  pub meta : IsMetaRead version rows.meta old new
  pub members : IsReadAs (standing Members) 1 (map member_cells rows.members.items) old new
  pub events : IsReadAs (standing Events) 1 (map event_cells rows.events.items) old new
  pub keys : AreKeysRead version rows.keys.items old new
  pub rules : AreRulesRead version rows.events.items rows.event_rules.items old new
  pub closings : AreClosingsRead version rows.closings.items old new
  pub challenges : IsReadAs (standing Challenges) 2 (map challenge_cells rows.challenges.items) old new
  pub games : IsReadAs (standing Games) 1 (map game_cells rows.games.items) old new
  pub same : IsUnchanged old new

-- `meta`, members, events and event rules have these rows, and the schema is that of the version.
pub record ArePeopleRead (people : MembersAndEvents) (old new : State) : Type 0 where
  pub schema : HasTablesOf people.version old.now.schema
  pub meta : IsMetaRead people.version people.meta old new
  pub members : IsReadAs (standing Members) 1 (map member_cells people.members.items) old new
  pub events : IsReadAs (standing Events) 1 (map event_cells people.events.items) old new
  pub keys : AreKeysRead people.version people.keys.items old new
  pub rules : AreRulesRead people.version people.events.items people.event_rules.items old new
  pub closings : AreClosingsRead people.version people.closings.items old new
  pub same : IsUnchanged old new

-- out of memory, or the table is reported as damaged for this reason
abbrev pub Faults : Table → Type 0 → OpenFault → Type 0
Faults table Reason fault = (fault ≡ Memory) ⊎ ((fault ≡ Damaged table) × Reason)

-- a table is reported as damaged only if its rows do not have the types of its columns
abbrev pub ReasonIsRight : Table → Definition → (Row → Type 0) → State → OpenFault → Type 0
ReasonIsRight table definition IsTyped old fault =
    (fault ≡ Store)
    ⊎ Faults table ((rows : List Row) → Keeps definition (club_trees old.now) rows
    → AreApart (club_trees old.now definition.tree) → ¬ AllByRecursion IsTyped rows) fault
