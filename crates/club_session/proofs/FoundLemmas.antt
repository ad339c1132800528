-- What an opening found in files, by what is told of the connection that it gave.
use Rattle.std.proofs.Common.{◌≡◌, ◌≤◌, ◌⊎◌, List, [], ◌∷◌, Option, Some, None, true, sym, subst, ap}
use Rattle.std.proofs.Common.{inl, inr, ◌∙◌}
use Rattle.std.proofs.Math.Logic.{∥∥₁_elim, ∥∥₁_map}
use Rattle.sqlite_wal.specs.Recovery.{Image}
use Rattle.sqlite_catalog.specs.Listing.{IsSound}
use Rattle.sqlite.specs.Effect.{Database}
use Rattle.sqlite.specs.Schema.{Schema}
use Rattle.sqlite.specs.Tree.{Trees}
use Rattle.sqlite.specs.State.{State, IsLive, Opens}
use Rattle.sqlite.specs.Start.{FindsIn}
use Rattle.store_tables.specs.Over.{Neighbours}
use Rattle.store_tables.specs.Placed.{HasClubTables}
use Rattle.store_tables.specs.Tables.{schema_number}
use Rattle.store_tables.specs.declared.names.Version.{Version}
use Rattle.store_tables.specs.declared.names.Version.TheVariants.{V1, V2}
use Rattle.store_sql.proofs.Proved.{schema_once}
use Rattle.schema_match.specs.Shapes.{is_of_club}
use Rattle.club_rows.specs.Club.{ClubState}
use Rattle.club_check.specs.ReasonIsRight.{IsRightFault}
use Rattle.store.specs.Histories.{HistoryStep, IsReachable}
use Rattle.store.specs.Upgrades.{IsNameTaken, uses_names_of}
use Rattle.club_check.specs.Refused.{HoldClub}
use Rattle.club_check.specs.internal.Refused.{IsKept, IsRefusal}
use Rattle.club_check.specs.RightTables.{NamesFirstDamaged}
use Rattle.club_check.specs.Versions.{HasToldTables}
use Rattle.club_check.specs.declared.fault.OpenFault.{OpenFault}
use Rattle.store_files.specs.Finds.{AreReachable, Finds, IsFoundIn}
use Rattle.cli.specs.declared.words.Task.{Task}
use Rattle.cli.specs.declared.words.Task.TheVariants as task
use Rattle.club_orders.specs.Report.{IfUpgrade}
use Rattle.club_orders.specs.declared.report.Report.{Report}
use Rattle.club_orders.specs.internal.Report.{IsUpgradeResult}
use Rattle.club_orders.specs.internal.Refused.{IsUpgradeRefusal}
use Rattle.http_desk.specs.declared.faults.ClubFault.{ClubFault}
use Rattle.club_session.specs.ToldFault.{IfOpened}
use Rattle.club_session.specs.internal.ToldFault.{HasServedSchema, IsReportedFault}
use Rattle.club_session.specs.Found.{AnswerAs, AnswerAsClub, AreCarriedOver, AreKept, AreNotUpgraded}
use Rattle.club_session.specs.Found.{AreRefused, AreSound, HaveClubTables, IsSessionFault, UseNamesOf, database_of}
use Rattle.club_session.proofs.TaskLemmas.{if_taken, taken_under}

-- the trees list one schema: that of the connection
pub listed : (s : State) → Opens s → IsLive s → (schema : Schema) → IsSound schema s.committed.trees
    → s.now.schema ≡ schema
listed s opens live schema sound =
    schema_once s.now.trees s.now.schema schema (live opens.is_open).0
    (subst (IsSound schema) (sym (ap (λ d. d.trees) opens.clean)) sound)

-- what is said of the database of the connection is said of the trees that were found, by the schema that they list
said_found : (P : Database → Type 0) (s : State) → Opens s → (schema : Schema) → s.now.schema ≡ schema → P s.now
    → P (database_of schema s.committed.trees)
said_found P s opens schema is said =
    subst (λ trees. P (database_of schema trees)) (ap (λ d. d.trees) opens.clean)
    (subst (λ sch. P (record { schema = sch; trees = s.now.trees })) is said)

-- what is said of the trees that were found, by the schema that they list, is said of the database of the connection
said_here : (P : Database → Type 0) (s : State) → Opens s → (schema : Schema) → s.now.schema ≡ schema
    → P (database_of schema s.committed.trees) → P s.now
said_here P s opens schema is said =
    subst (λ sch. P (record { schema = sch; trees = s.now.trees })) (sym is)
    (subst (λ trees. P (database_of schema trees)) (sym (ap (λ d. d.trees) opens.clean)) said)

module _ (files : Image) (old : State) (here : FindsIn files old) where
  abbrev pub found_there : IsFoundIn files old.committed.trees
  found_there = record { holds = here.holds; reads = here.reads }

  pub sound_files : Opens old → IsLive old → (HasToldTables old.now → HoldClub old.committed.trees)
      → AreSound files
  sound_files opens live legal =
      record {
        found = old.committed.trees;
        is_found = found_there;
        legal = λ schema (has, sound).
            legal (said_here HasToldTables old opens schema (listed old opens live schema sound) has);
      }

  -- the connection has the tables of a club if the files have
  pub club_tables : Opens old → IsLive old → HaveClubTables files → HasClubTables old.now.schema
  club_tables opens live have =
      let (schema, has, sound) = have old.committed.trees found_there in
      subst HasClubTables (sym (listed old opens live schema sound)) has

  -- the connection uses the names of an upgrade's tables if the files do
  pub names_used : (to : Version) → Opens old → IsLive old → UseNamesOf to files
      → uses_names_of to old.now.schema ≡ true
  names_used to opens live used =
      used old.committed.trees found_there old.now.schema
      (subst (IsSound old.now.schema) (ap (λ d. d.trees) opens.clean) (live opens.is_open).0)

  -- the trees list one schema, which answers as that of a club
  pub shaped_as : (version : Version) → Opens old → IsLive old → is_of_club version old.now.schema ≡ true
      → AnswerAs version files
  shaped_as version opens live shape =
      record {
        found = old.committed.trees;
        is_found = found_there;
        shape = λ schema sound. ap (is_of_club version) (sym (listed old opens live schema sound)) ∙ shape;
      }

  pub shaped_files : Opens old → IsLive old → HasServedSchema old.now.schema → AnswerAsClub files
  shaped_files opens live (version, serves, shape) = (version, serves, shaped_as version opens live shape)

  pub taken_files : Opens old → IsLive old → (told : Option ClubFault)
      → (HasToldTables old.now → IfOpened told (HoldClub old.committed.trees))
      → IfOpened told (AreSound files)
  taken_files opens live told taken =
      if_taken told (λ legal. sound_files opens live legal)
      (taken_under _ _ told taken)

  module _ (new : State) (MayLeave : Image → Type 0)
      (member : (left : Image) → MayLeave left → (later : Trees) → Finds left later → ∥ new.may_leave later ∥₁) where
    pub kept_files : IsKept old new → AreKept files MayLeave
    kept_files kept =
        record {
          found = old.committed.trees;
          is_found = found_there;
          stays = λ left may later finds. ∥∥₁_map (member left may later finds.holds) (λ now. kept later now);
        }

    pub refused_files : Opens old → IsLive old → (fault : OpenFault)
        → IsRefusal old new fault → AreRefused files MayLeave fault
    unfolding kept_files
    refused_files opens live fault refusal =
        record {
          kept = kept_files (refusal.kept opens);
          blames = λ schema (has, sound).
              let is = listed old opens live schema sound in
              said_found (λ db. IsRightFault V2 db fault) old opens schema is
              (refusal.blames (said_here HasToldTables old opens schema is has));
          first = λ schema (has, sound).
              let is = listed old opens live schema sound in
              said_found (λ db. NamesFirstDamaged db fault) old opens schema is
              (refusal.first (said_here HasToldTables old opens schema is has));
        }

    pub not_upgraded : (to : Version) → Opens old → IsLive old → (fault : OpenFault)
        → IsUpgradeRefusal to old new fault → AreNotUpgraded to files MayLeave fault
    not_upgraded to opens live fault refusal =
        record {
          found = old.committed.trees;
          is_found = found_there;
          blames = λ schema (has, sound).
              let is = listed old opens live schema sound in
              said_found (λ db. IsRightFault V1 db fault ⊎ IsNameTaken to db fault) old opens schema is
              (refusal.blames (said_here HasToldTables old opens schema is has));
          first = λ schema (has, sound).
              let is = listed old opens live schema sound in
              said_found (λ db. NamesFirstDamaged db fault) old opens schema is
              (refusal.first (said_here HasToldTables old opens schema is has));
          kept = λ other. kept_files (refusal.kept other opens);
          beside = λ used. kept_files (refusal.beside (names_used to opens live used) opens);
        }

    pub carried_files : (from : Version) (them : Neighbours) (s : ClubState) (report : Report)
        → IsUpgradeResult from them s report new → AreCarriedOver from them s report MayLeave
    carried_files from them s report carried =
        record {
          answer = carried.answer;
          leaves = λ left may later finds.
              ∥∥₁_map (member left may later finds.holds) (λ now. carried.leaves later now);
        }

    -- what stays after an upgrade is found by later openings
    pub stays_files : (t : Task) → ((from version : Version) (them : Neighbours) (sessions : List HistoryStep)
        → IsReachable from version them sessions old.committed.trees
        → IfUpgrade t (λ to. schema_number to ≤ schema_number version → (db : Trees) → new.may_leave db
        → IsReachable from version them sessions db))
        → IfUpgrade t (λ to. (from version : Version) (them : Neighbours) (sessions : List HistoryStep)
        → schema_number to ≤ schema_number version → AreReachable from (version ∷ []) them sessions files
        → (left : Image) → MayLeave left → AreReachable from (version ∷ []) them sessions left)
    stays_files (task.Upgrade arbiter) stays = λ from version them sessions earlier led left may found finds.
        ∥∥₁_elim (led _ found_there) squash₁ (λ was.
        ∥∥₁_map (member left may found finds.holds) (λ now. record {
          version = was.version;
          among = was.among;
          reached = elim was.among [
            | inl is ↦
                subst (λ v. IsReachable from v them sessions found) (sym is)
                (stays from version them sessions
                (subst (λ v. IsReachable from v them sessions old.committed.trees) is was.reached) earlier found now)
            | inr none ↦ absurd none
          ];
        }))
    stays_files _ stays = tt

    pub told_files : Opens old → IsLive old
        → (told : Option ClubFault) → IsReportedFault old new told → IsSessionFault files MayLeave told
    told_files opens live None is = tt
    told_files opens live (Some fault) (inl is) = inl is
    told_files opens live (Some fault) (inr untaken) = inr (
      untaken.0,
      untaken.1,
      refused_files opens live untaken.0 untaken.2,
    )
