-- Where the commands of a serving session lead, over files.
use Rattle.std.specs.Prelude.{List, ◌++◌}
use Rattle.sqlite_wal.specs.Recovery.{Image}
use Rattle.sqlite.specs.Tree.{Trees}
use Rattle.store_tables.specs.Over.{Neighbours}
use Rattle.store_tables.specs.Tables.{IsServed}
use Rattle.store_tables.specs.declared.names.Version.{Version}
use Rattle.store.specs.Histories.{HistoryStep, IsReachableIn}
use Rattle.store_files.specs.Finds.{IsFoundIn}
use Rattle.club_session.specs.Turns.{AreTurns, AreWhole}

-- the history and commands of a serving session lead to these tables, in one of these schemas
pub record IsReachedBy (from : Version) (versions : List Version) (them : Neighbours) (sessions : List HistoryStep)
    (found : Trees) : Type 0 where
  pub turns : List HistoryStep
  pub are_turns : AreTurns turns
  pub led : IsReachableIn from versions them (sessions ++ turns) found

-- they lead to whatever an opening finds in the files
abbrev pub AreReachableOn : (from : Version) → List Version → Neighbours → List HistoryStep → Image → Type 0
AreReachableOn from versions them sessions files =
    (found : Trees) → IsFoundIn files found → ∥ IsReachedBy from versions them sessions found ∥₁

-- the same, if none of these commands was cut off, in a schema that can be served
abbrev pub AreReachableWhole : (from : Version) → List Version → Neighbours → List HistoryStep → Image → Type 0
AreReachableWhole from versions them sessions files = (found : Trees) → IsFoundIn files found
    → ∥ ((reached : IsReachedBy from versions them sessions found) × AreWhole reached.turns
    × IsServed reached.led.version) ∥₁
