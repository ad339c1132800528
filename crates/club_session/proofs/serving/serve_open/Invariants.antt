use Rattle.std.proofs.Common.{◌≡◌, ◌++◌, List, false}
use Rattle.sqlite.specs.State.{HasCleanDisk}
use Rattle.sqlite.specs.Held.{state}
use Rattle.store_tables.specs.Over.{Neighbours}
use Rattle.store_tables.specs.declared.names.Version.{Version}
use Rattle.store.specs.Clubs.{version_with}
use Rattle.store.specs.Histories.{HistoryStep, IsHistory}
use Rattle.server.specs.Acknowledged.{LeadTo}
use Rattle.server.specs.declared.connections.Served.{Served}
use Rattle.club_session.specs.Served.{DeskState, served}
use Rattle.club_session.specs.ServedStates.{IsOpenIn}
use Rattle.club_session.specs.internal.Turns.{IsHistoryOn}
use Rattle.club_session.proofs.serving.serve_open.Given as goal

abbrev pub invariant-loop : goal.invariant-loop
invariant-loop g l = record {
  ready : l.club.club.needs_reopening ≡ false;
  clean : HasCleanDisk (state g.S.Store l.club.club.connection)
      → HasCleanDisk (state g.S.Store l.fn.club.club.connection);
  stands : HasCleanDisk (state g.S.Store l.club.club.connection) → (from : Version) (them : Neighbours)
      (sessions : List HistoryStep)
      → IsHistory from (version_with l.fn.club.club.has_arbiter) them sessions
      (state g.S.Store l.fn.club.club.connection)
      → IsHistoryOn from (version_with l.fn.club.club.has_arbiter) them sessions
      (state g.S.Store l.club.club.connection)
      × (l.club.club.has_arbiter ≡ l.fn.club.club.has_arbiter);
  leads : (before : List Served) → g.V.Connections.HasServed l.fn.visits before
      → (items : List Served) × g.V.Connections.HasServed l.visits (before ++ items)
      × (HasCleanDisk (state g.S.Store l.club.club.connection) → (s : DeskState)
      → IsOpenIn l.fn.club.club.has_arbiter false (state g.S.Store l.fn.club.club.connection) s
      → (t : DeskState) × LeadTo served s items t
      × IsOpenIn l.club.club.has_arbiter l.club.club.needs_reopening (state g.S.Store l.club.club.connection) t);
}
