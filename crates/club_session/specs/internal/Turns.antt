-- Commands sent by members over HTTP and by the officer over the control socket, each a session of its own in the
-- history. No promise of the program rests on these definitions.
use Rattle.std.specs.Prelude.{List, ◌++◌}
use Rattle.sqlite.specs.Tree.{Trees}
use Rattle.sqlite.specs.State.{State}
use Rattle.store_tables.specs.Over.{Neighbours}
use Rattle.store_tables.specs.declared.names.Version.{Version}
use Rattle.store.specs.Histories.{HistoryStep, IsReachable, IsHistory}
use Rattle.club_session.specs.Turns.{AreTurns, AreWhole}

-- the history, with uncut commands added, leads to the present state, in this schema
pub record IsHistoryOn (from version : Version) (them : Neighbours) (sessions : List HistoryStep) (now : State) : Type 0
  where
    pub turns : List HistoryStep
    pub are_turns : AreTurns turns
    pub whole : AreWhole turns
    pub stands : IsHistory from version them (sessions ++ turns) now

-- the history, with commands added, leads to any state that a crash can leave, in this schema
pub record IsReachableOn (from version : Version) (them : Neighbours) (sessions : List HistoryStep)
    (now : State) : Type 0 where
  pub turns : List HistoryStep
  pub are_turns : AreTurns turns
  pub led : (db : Trees) → now.may_leave db → IsReachable from version them (sessions ++ turns) db
