use Rattle.std.proofs.Common.{refl, subst}
use Rattle.std.proofs.lemmas.Result.{IfOk-weaker, IfErr-weaker}
use Rattle.sqlite.specs.Held.{state}
use Rattle.store_tables.proofs.Proved.{still_beside}
use Rattle.store_tables.specs.declared.names.Version.TheVariants.{V1}
use Rattle.club_rows.specs.Club.{tables}
use Rattle.store.specs.Clubs.{version_with}
use Rattle.store.specs.Histories.{IsHistory}
use Rattle.store.proofs.Proved.{holds_beside, still_stands, version_taken, with_served}
use Rattle.club_orders.proofs.RefusalLemmas.{stood}
use Rattle.club_orders.proofs.TakenLemmas.{both_err, both_ok, earlier_beside, earlier_shape, is_taken, stands_beside}
use Rattle.club_orders.proofs.open_club.open_checked.Goals as goal

pub returns-clause-taken : goal.returns-clause-taken
returns-clause-taken g c =
    IfOk-weaker c.adopt.result _ _
    (λ club told clean opens live.
    let reads = told.0 in
    let older = told.1.0 in
    let standing = told.1.1.0 clean in
    let exact = c.holds_exactly.ensures opens live in
    let found = c.opened_history_holds.ensures opens live in
    let old = state g.S.Store c.args.conn in
    let new = state g.S.Store club.connection in
    let version = version_with club.has_arbiter in
    record {
      newer = λ them s first. older clean them s first.legal first.served (earlier_beside V1 them s old exact first);
      legal = λ told_tables.
          let (stands, unchanged, may) = told.1.1.1.0 clean told_tables in
          let (s, own, holds) = told.1.1.1.1 clean told_tables (live opens.is_open).0 in
          stood version (with_served club.has_arbiter) s own old new holds unchanged.0.now_is opens.clean;
      stands = λ s is_club has.
          let here = stands_beside s old exact has in
          record {
            legal = is_club;
            arbiter = standing s is_club (holds_beside has.them s old has.version is_club here);
            version = has.version;
            holds = still_beside old new (reads.kept refl clean) has.them (tables s) here;
          };
      history = λ from version them sessions served led.
          let at = found from version them sessions led in
          let is = version_taken club.has_arbiter version served (λ s legal. older clean them s legal served) standing at in (
            is,
            still_stands from (version_with club.has_arbiter) them sessions old new (reads.kept refl clean)
                (subst (λ v. IsHistory from v them sessions old) is at),
          );
      leads = λ from version them sessions led db left.
          c.crash_keeps_history.ensures from version them sessions (found from version them sessions led) db
          (reads.may clean db left);
    })
    (both_ok c.adopt.result _ _ c.adopt.ensures.kept
    (both_ok c.adopt.result _ _ c.adopt.ensures.older
    (both_ok c.adopt.result _ _ c.adopt.ensures.standing
    (both_ok c.adopt.result _ _ c.adopt.ensures.unchanged c.adopt.ensures.held))))

pub returns-clause-accepts_sound : goal.returns-clause-accepts_sound
returns-clause-accepts_sound g c =
    IfErr-weaker c.adopt.result _ _
    (λ u good clean opens live s is_club has.
    is_taken s _ (c.holds_exactly.ensures opens live) has is_club _ (good clean s is_club)) c.adopt.ensures.accepts_sound

pub returns-clause-refuses : goal.returns-clause-refuses
returns-clause-refuses g c =
    IfErr-weaker c.adopt.result _ _
    (λ u told clean. record {
      blames = told.0 clean;
      first = told.1.0 clean;
      kept = λ opens db left.
          g.met.S.Store.settled c.args.conn.store db opens.is_open (told.1.1.may clean db left);
    })
    (both_err c.adopt.result _ _ c.adopt.ensures.reason_is_right
    (both_err c.adopt.result _ _ c.adopt.ensures.first_damaged c.adopt.ensures.reads))

pub returns-clause-older : goal.returns-clause-older
returns-clause-older g c =
    IfErr-weaker c.adopt.result _ _
    (λ u older clean opens live them s first.
    let exact = c.holds_exactly.ensures opens live in
    older clean them s first.legal first.served (earlier_beside V1 them s _ exact first)
    (earlier_shape V1 them s _ exact first)) c.adopt.ensures.first

pub returns-clause-history : goal.returns-clause-history
returns-clause-history g c =
    IfErr-weaker c.adopt.result _ _
    (λ u reads clean opens live from version them sessions led db left.
    c.crash_keeps_history.ensures from version them sessions
    (c.opened_history_holds.ensures opens live from version them sessions led) db (reads.may clean db left))
    c.adopt.ensures.reads
