use Rattle.std.proofs.Common.{◌≡◌, ◌⊎◌, [], sym, subst}
use Rattle.sqlite.specs.State.{HasCleanDisk}
use Rattle.store.specs.Clubs.{version_with}
use Rattle.store.specs.Histories.{IsHistory, IsReachable}
use Rattle.sqlite.specs.Held.{state}
use Rattle.club_check.specs.declared.fault.OpenFault.TheVariants.{Foreign}
use Rattle.sqlite.specs.Tree.{Trees}
use Rattle.store_tables.specs.Over.{alone}
use Rattle.store_tables.specs.Room.{LeavesNoClub}
use Rattle.club_rows.specs.Tables.{version_of}
use Rattle.club_orders.proofs.SessionLemmas.{first_tables_of, stand_first}
use Rattle.club_orders.proofs.TakenLemmas.{stand_beside, without_club}
use Rattle.club_orders.proofs.execution.init.Goals as goal

pub returns-in-Ok-clause-begun : goal.returns-in-Ok-clause-begun
returns-in-Ok-clause-begun g c clean opens live empty db left =
    let same = c.into_connection-conn.ensures.same in
    let version = version_with c.args.has_arbiter in
    let made = c.in-Ok.ensures.begins (subst (λ h. HasCleanDisk (state g.S.Store h)) same clean)
    (c.opened_empty_holds.ensures opens live empty) in
    c.crash_keeps_history-in-Ok.ensures version version (alone version) []
    (subst (λ h. IsHistory version version (alone version) [] (state g.S.Store h)) (sym same) made) db left

pub returns-in-Ok-clause-history : goal.returns-in-Ok-clause-history
returns-in-Ok-clause-history g c clean opens live from versions them sessions led db left =
    let same = c.into_connection-conn.ensures.same in
    let at = c.opened_history_holds.ensures opens live from led.version them sessions led.reached in
    absurd (c.in-Ok.ensures.fresh (subst (λ h. HasCleanDisk (state g.S.Store h)) same clean)
    (stand_first from led.version them sessions _ at))

pub returns-in-Ok-clause-behind : goal.returns-in-Ok-clause-behind
returns-in-Ok-clause-behind g c clean opens live them is left =
    let same = c.into_connection-conn.ensures.same in
    let version = version_with c.args.has_arbiter in
    let made = c.in-Ok.ensures.behind (subst (λ h. HasCleanDisk (state g.S.Store h)) same clean) them is
    (without_club them _ (c.holds_exactly.ensures opens live) left) in (
      tt,
      subst (λ v. (db : Trees) → (state g.S.Store c.into_connection-conn.result).may_leave db → IsReachable v v them [] db)
          (sym is)
          (c.crash_keeps_history-in-Ok.ensures version version them []
          (subst (λ h. IsHistory version version them [] (state g.S.Store h)) (sym same) made)),
    )

pub returns-in-Err-clause-behind : goal.returns-in-Err-clause-behind
returns-in-Err-clause-behind g c clean opens live them is left =
    let told = c.in-Err.ensures.behind_fault clean them is
    (without_club them _ (c.holds_exactly.ensures opens live) left) in
    let new = state g.S.Store c.in-Err.unopened.conn in (
      told.0,
      subst (λ v. (db : Trees) → new.may_leave db → LeavesNoClub them db ⊎ IsReachable v v them [] db) (sym is) told.1,
    )

pub returns-in-Err-clause-begun : goal.returns-in-Err-clause-begun
returns-in-Err-clause-begun g c clean opens live empty db left =
    c.in-Err.ensures.after_crash clean (c.opened_empty_holds.ensures opens live empty) db left

pub returns-in-Err-clause-history : goal.returns-in-Err-clause-history
returns-in-Err-clause-history g c clean opens live from versions them sessions led db left =
    let at = c.opened_history_holds.ensures opens live from led.version them sessions led.reached in
    record {
      version = led.version;
      among = led.among;
      reached =
          c.crash_keeps_history.ensures from led.version them sessions at db
          (c.in-Err.ensures.stays clean (stand_first from led.version them sessions _ at) db left);
    }

pub returns-in-Err-clause-spares : goal.returns-in-Err-clause-spares
returns-in-Err-clause-spares g c clean opens is db left =
    let foreign : c.in-Err.unopened.fault ≡ Foreign = cc in
    g.met.S.Store.settled c.args.conn.store db opens.is_open (c.in-Err.ensures.refused clean foreign db left)

pub returns-in-Err-clause-empty : goal.returns-in-Err-clause-empty
returns-in-Err-clause-empty g c clean opens live empty =
    c.in-Err.ensures.empty clean (c.opened_empty_holds.ensures opens live empty)

pub returns-in-Ok-clause-existing : goal.returns-in-Ok-clause-existing
returns-in-Ok-clause-existing g c clean opens has =
    let same = c.into_connection-conn.ensures.same in
    absurd (c.in-Ok.ensures.fresh (subst (λ h. HasCleanDisk (state g.S.Store h)) same clean) (first_tables_of _ has))

pub returns-in-Err-clause-existing : goal.returns-in-Err-clause-existing
returns-in-Err-clause-existing g c clean opens has = (
  c.in-Err.ensures.possible_faults,
  λ db left. g.met.S.Store.settled c.args.conn.store db opens.is_open
      (c.in-Err.ensures.stays clean (first_tables_of _ has) db left),
)

pub returns-in-Ok-clause-unchanged : goal.returns-in-Ok-clause-unchanged
returns-in-Ok-clause-unchanged g c clean opens live s is_club has =
    let stands = stand_beside s _ (c.holds_exactly.ensures opens live) has is_club in
    absurd (returns-in-Ok-clause-existing g c clean opens (version_of s, stands)).0

pub returns-in-Err-clause-unchanged : goal.returns-in-Err-clause-unchanged
returns-in-Err-clause-unchanged g c clean opens live s is_club has =
    let stands = stand_beside s _ (c.holds_exactly.ensures opens live) has is_club in
    (returns-in-Err-clause-existing g c clean opens (version_of s, stands)).1
