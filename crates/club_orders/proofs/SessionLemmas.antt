-- What sessions led to, and what stands where they led.
use Rattle.std.proofs.Common.{List, [], ◌++◌, append-nil, sym, subst}
use Rattle.sqlite.specs.Schema.{Schema}
use Rattle.sqlite.specs.Tree.{Trees}
use Rattle.sqlite.specs.State.{State}
use Rattle.store_tables.specs.Over.{Neighbours}
use Rattle.store_tables.specs.Placed.{HasClubTables, HasTables}
use Rattle.store_tables.specs.declared.names.Version.{Version}
use Rattle.store_tables.specs.declared.names.Version.TheVariants.{V1}
use Rattle.store_tables.proofs.Proved.{has_first_tables, leaves_in_version}
use Rattle.club_rows.specs.FirstSchema.{tables_at}
use Rattle.store.specs.Histories.{HistoryStep, IsReachable, IsReachableIn, IsHistory}

-- with no session more
pub led_still : (from version : Version) (them : Neighbours) (sessions : List HistoryStep) (db : Trees)
    → IsReachable from version them sessions db → IsReachable from version them (sessions ++ []) db
led_still from version them sessions db led =
    subst (λ xs. IsReachable from version them xs db) (sym (append-nil sessions)) led

pub led_still_in : (from : Version) (versions : List Version) (them : Neighbours) (sessions : List HistoryStep)
    (db : Trees) → IsReachableIn from versions them sessions db → IsReachableIn from versions them (sessions ++ []) db
led_still_in from versions them sessions db led = record {
  version = led.version;
  among = led.among;
  reached = led_still from led.version them sessions db led.reached;
}

-- what a stop leaves of tables that sessions led to is what they led to
pub left_led : (from version : Version) (them : Neighbours) (sessions : List HistoryStep) (s : State)
    → IsHistory from version them sessions s → (db : Trees) → s.may_leave db → IsReachable from version them sessions db
left_led from version them sessions s at db left = record {
  after = at.after;
  legal = at.legal;
  leads = at.leads;
  leaves = leaves_in_version version them (tables_at version at.after) s at.exactly db left;
}

-- a club of each version has the tables of schema 1
pub first_tables_of : (schema : Schema) → HasClubTables schema → HasTables V1 schema
first_tables_of schema (version, has) = has_first_tables version schema has.0

-- wherever sessions lead, the tables of schema 1 stand
pub stand_first : (from version : Version) (them : Neighbours) (sessions : List HistoryStep) (s : State)
    → IsHistory from version them sessions s → HasTables V1 s.now.schema
stand_first from version them sessions s at =
    subst (HasTables V1) (sym at.exactly.holds.exactly.now.schema)
    (has_first_tables at.exactly.before.version at.exactly.before.schema at.exactly.holds.clear.club)
