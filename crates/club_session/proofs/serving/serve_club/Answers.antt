use Rattle.std.proofs.Common.{◌≡◌, ◌∙◌, List, [], false, true, refl, sym, subst, inr}
use Rattle.std.proofs.lemmas.List.{append-nil}
use Rattle.sqlite.specs.State.{HasCleanDisk}
use Rattle.sqlite.specs.Held.{state}
use Rattle.schema_match.specs.Shapes.{is_of_club}
use Rattle.store_tables.specs.Over.{HoldsClubAmong}
use Rattle.store_tables.specs.Tables.{IsServed}
use Rattle.store_tables.proofs.Proved.{leaves_beside, still_beside}
use Rattle.club_rows.specs.Club.{tables}
use Rattle.club_rows.specs.Tables.{version_of}
use Rattle.server.specs.declared.connections.Served.{Served}
use Rattle.store.specs.Clubs.{version_with}
use Rattle.store.specs.Histories.{IsHistory}
use Rattle.store.proofs.Proved.{holds_beside, still_stands, version_taken, with_served}
use Rattle.club_session.specs.Served.{beside_them}
use Rattle.club_session.specs.ServedStates.{IsOpenIn}
use Rattle.club_session.specs.internal.Turns.{IsHistoryOn, IsReachableOn}
use Rattle.club_session.proofs.ToldLemmas.{untaken, good_told, held_club, served_told, served_taken, served_good}
use Rattle.club_session.proofs.ToldLemmas.{none_failed, stood}
use Rattle.club_session.proofs.TurnLemmas.{reads_led}
use Rattle.club_session.proofs.serving.serve_club.Goals as goal

pub returns-in-Err-clause-history : goal.returns-in-Err-clause-history
returns-in-Err-clause-history g c clean opens live from version them sessions serves led =
    reads_led from version them sessions (state g.S.Store c.args.conn) (state g.S.Store c.in-Err.unopened.conn)
    c.in-Err.ensures.reads clean
    (c.crash_keeps_history.ensures from version them sessions
    (c.opened_history_holds.ensures opens live from version them sessions led))

pub returns-clause-history : goal.returns-clause-history
returns-clause-history g c clean opens live from version them sessions serves led =
    let same = c.into_connection.ensures.same in
    let after : HasCleanDisk (state g.S.Store c.serve_open-has_failed.new.club.club.connection) =
    subst (λ k. HasCleanDisk (state g.S.Store k)) same clean in
    let before = c.serve_open-has_failed.ensures.clean after in
    let arbiter = c.in-Ok.club.has_arbiter in
    let was = state g.S.Store c.args.conn in
    let at = c.opened_history_holds.ensures opens live from version them sessions led in
    let is = version_taken arbiter version serves (λ u first. c.in-Ok.ensures.older before them u first serves)
    (c.in-Ok.ensures.standing before) at in
    let stands = still_stands from (version_with arbiter) them sessions was (state g.S.Store c.in-Ok.club.connection)
    (c.in-Ok.ensures.kept.kept refl before) (subst (λ v. IsHistory from v them sessions was) is at) in
    subst (λ k. IsReachableOn from version them sessions (state g.S.Store k)) (sym same)
    (subst (λ v. IsReachableOn from v them sessions (state g.S.Store c.serve_open-has_failed.new.club.club.connection))
    (sym is) (c.serve_open-has_failed.ensures.history after from them sessions stands))

pub returns-clause-stands : goal.returns-clause-stands
returns-clause-stands g c clean opens live none from version them sessions serves led =
    let same = c.into_connection.ensures.same in
    let after : HasCleanDisk (state g.S.Store c.serve_open-has_failed.new.club.club.connection) =
    subst (λ k. HasCleanDisk (state g.S.Store k)) same clean in
    let before = c.serve_open-has_failed.ensures.clean after in
    let arbiter = c.in-Ok.club.has_arbiter in
    let was = state g.S.Store c.args.conn in
    let at = c.opened_history_holds.ensures opens live from version them sessions led in
    let is = version_taken arbiter version serves (λ u first. c.in-Ok.ensures.older before them u first serves)
    (c.in-Ok.ensures.standing before) at in
    let stands = still_stands from (version_with arbiter) them sessions was (state g.S.Store c.in-Ok.club.connection)
    (c.in-Ok.ensures.kept.kept refl before) (subst (λ v. IsHistory from v them sessions was) is at) in
    let open_still = none_failed c.serve_open-has_failed.result c.fault_after.result c.fault_after.ensures none in (
      subst IsServed (sym is) (with_served arbiter),
      subst (λ k. IsHistoryOn from version them sessions (state g.S.Store k)) (sym same)
          (subst (λ v. IsHistoryOn from v them sessions (state g.S.Store c.serve_open-has_failed.new.club.club.connection))
          (sym is) (c.serve_open-has_failed.ensures.stands open_still after from them sessions stands)),
    )

pub returns-in-Err-clause-told : goal.returns-in-Err-clause-told
returns-in-Err-clause-told g c clean = inr (
  c.in-Err.unopened.fault,
  c.fault_of_opening.ensures,
  record {
    blames = λ is. c.in-Err.ensures.reason_is_right clean is;
    first = λ is. c.in-Err.ensures.first_damaged clean is;
    kept = λ opens db left.
        g.met.S.Store.settled c.args.conn.store db opens.is_open (c.in-Err.ensures.reads.may clean db left);
  },
)

pub returns-clause-told : goal.returns-clause-told
returns-clause-told g c clean =
    served_told _ _ c.serve_open-has_failed.result c.fault_after.result c.fault_after.ensures

pub returns-in-Err-clause-taken : goal.returns-in-Err-clause-taken
returns-in-Err-clause-taken g c clean opens live schema =
    untaken _ c.in-Err.unopened.fault c.fault_of_opening.result c.fault_of_opening.ensures

pub returns-clause-taken : goal.returns-clause-taken
returns-clause-taken g c clean opens live has =
    let same = c.into_connection.ensures.same in
    let after : HasCleanDisk (state g.S.Store c.serve_open-has_failed.new.club.club.connection) =
    subst (λ k. HasCleanDisk (state g.S.Store k)) same clean in
    let before = c.serve_open-has_failed.ensures.clean after in
    let (beside, unchanged, may) = c.in-Ok.ensures.unchanged before has in
    let (s, own, held) = c.in-Ok.ensures.held before has (live opens.is_open).0 in
    let shown = unchanged.0 in
    let arbiter = c.in-Ok.club.has_arbiter in
    served_taken _ c.serve_open-has_failed.result c.fault_after.result c.fault_after.ensures
    (held_club arbiter s (state g.S.Store c.args.conn).committed.trees own
    (stood (version_with arbiter) s (state g.S.Store c.args.conn) (state g.S.Store c.in-Ok.club.connection) held
    shown.now_is opens.clean))

pub returns-in-Err-clause-shape : goal.returns-in-Err-clause-shape
returns-in-Err-clause-shape g c = untaken _ c.in-Err.unopened.fault c.fault_of_opening.result c.fault_of_opening.ensures

pub returns-clause-shape : goal.returns-clause-shape
returns-clause-shape g c =
    let arbiter = c.in-Ok.club.has_arbiter in
    served_taken _ c.serve_open-has_failed.result c.fault_after.result c.fault_after.ensures
    (version_with arbiter, with_served arbiter, c.in-Ok.ensures.shape)

pub returns-in-Err-clause-accepts_sound : goal.returns-in-Err-clause-accepts_sound
returns-in-Err-clause-accepts_sound g c clean opens live s is_club has =
    let was = state g.S.Store c.args.conn in
    let found : HoldsClubAmong has.them (tables s) was = record {
      clear = has.leaves.clear;
      exactly = c.holds_exactly.ensures opens live _ _ has.leaves.leaves;
    } in
    good_told c.in-Err.unopened.fault c.fault_of_opening.result c.fault_of_opening.ensures
    (c.in-Err.ensures.accepts_sound clean s is_club (holds_beside has.them s was has.version is_club found)
    (subst (λ schema. is_of_club (version_of s) schema ≡ true) (sym found.exactly.now.schema) has.shape))

pub returns-clause-accepts_sound : goal.returns-clause-accepts_sound
returns-clause-accepts_sound g c clean opens live s is_club left =
    served_good c.serve_open-has_failed.result c.fault_after.result c.fault_after.ensures

pub returns-in-Err-clause-acknowledged : goal.returns-in-Err-clause-acknowledged
returns-in-Err-clause-acknowledged g c before had =
    let P : List Served → Type 0 = λ xs. g.V.Connections.HasServed c.args.visits.now xs in (
      [],
      subst P (sym (append-nil before)) had,
      λ clean opens live s is_club has db may.
          let was = state g.S.Store c.args.conn in
          let found : HoldsClubAmong has.them (tables s) was = record {
            clear = has.leaves.clear;
            exactly = c.holds_exactly.ensures opens live _ _ has.leaves.leaves;
          } in
          record {
            them = has.them;
            version = has.version;
            after = beside_them has.them s;
            leads = refl;
            leaves =
                leaves_beside has.them (tables s) was found db (c.in-Err.ensures.reads.may clean db may);
          },
    )

pub returns-clause-acknowledged : goal.returns-clause-acknowledged
returns-clause-acknowledged g c before had =
    let (items, served, leads) = c.serve_open-has_failed.ensures.acknowledged before had in (
      items,
      served,
      λ clean opens live s is_club has db may.
          let same = c.into_connection.ensures.same in
          let after : HasCleanDisk (state g.S.Store c.serve_open-has_failed.new.club.club.connection) =
          subst (λ k. HasCleanDisk (state g.S.Store k)) same clean in
          let before_it = c.serve_open-has_failed.ensures.clean after in
          let was = state g.S.Store c.args.conn in
          let now = state g.S.Store c.in-Ok.club.connection in
          let found : HoldsClubAmong has.them (tables s) was = record {
            clear = has.leaves.clear;
            exactly = c.holds_exactly.ensures opens live _ _ has.leaves.leaves;
          } in
          let is : IsOpenIn c.in-Ok.club.has_arbiter false now (beside_them has.them s) = record {
            ready = refl;
            serves = record {
              legal = is_club;
              arbiter = c.in-Ok.ensures.standing before_it s is_club
                  (holds_beside has.them s was has.version is_club found);
              version = has.version;
              holds = still_beside was now (c.in-Ok.ensures.kept.kept refl before_it) has.them (tables s) found;
            };
          } in
          let (t, on, left) =
          (leads after (beside_them has.them s) is).leaves db
          (subst (λ k. (state g.S.Store k).may_leave db) same may) in
          record { them = has.them; version = has.version; after = t; leads = on; leaves = left },
    )

pub returns-clause-answered : goal.returns-clause-answered
returns-clause-answered g c none before had =
    let (items, served, leads) = c.serve_open-has_failed.ensures.acknowledged before had in (
      items,
      served,
      λ clean opens live s is_club has.
          let same = c.into_connection.ensures.same in
          let after : HasCleanDisk (state g.S.Store c.serve_open-has_failed.new.club.club.connection) =
          subst (λ k. HasCleanDisk (state g.S.Store k)) same clean in
          let before_it = c.serve_open-has_failed.ensures.clean after in
          let was = state g.S.Store c.args.conn in
          let now = state g.S.Store c.in-Ok.club.connection in
          let found : HoldsClubAmong has.them (tables s) was = record {
            clear = has.leaves.clear;
            exactly = c.holds_exactly.ensures opens live _ _ has.leaves.leaves;
          } in
          let is : IsOpenIn c.in-Ok.club.has_arbiter false now (beside_them has.them s) = record {
            ready = refl;
            serves = record {
              legal = is_club;
              arbiter = c.in-Ok.ensures.standing before_it s is_club
                  (holds_beside has.them s was has.version is_club found);
              version = has.version;
              holds = still_beside was now (c.in-Ok.ensures.kept.kept refl before_it) has.them (tables s) found;
            };
          } in
          let open_still = none_failed c.serve_open-has_failed.result c.fault_after.result c.fault_after.ensures none in
          let (t, on, stood) =
          (leads after (beside_them has.them s) is).stands (sym c.serve_open-has_failed.ensures.told ∙ open_still) in
          record {
            them = has.them;
            version = has.version;
            after = t;
            leads = on;
            leaves = λ db may.
                leaves_beside t.them (tables t.state) _ stood.serves.holds db
                (subst (λ k. (state g.S.Store k).may_leave db) same may);
          },
    )
