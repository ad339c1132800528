use Rattle.std.proofs.Common.{arith, subst}
use Rattle.store_tables.specs.Sql.{Has}
use Rattle.store.specs.Clubs.{version_with}
use Rattle.store.proofs.Proved.{with_served}
use Rattle.sqlite.specs.Held.{state}
use Rattle.club_orders.proofs.RefusalLemmas.{taken_over}
use Rattle.club_orders.proofs.SessionLemmas.{led_still}
use Rattle.club_orders.proofs.TakenLemmas.{kept_tables, taken_so}
use Rattle.club_orders.proofs.open_club.execute_in_club.Goals as goal

pub returns-in-Err-clause-answer : goal.returns-in-Err-clause-answer
returns-in-Err-clause-answer g c clean opens live s is_club has =
    g.met.T.Execute.untaken c.args.task.now s c.args.moment _ _ (c.in-Err.ensures.accepts_sound clean opens live s is_club has)

pub returns-in-Err-clause-history : goal.returns-in-Err-clause-history
returns-in-Err-clause-history g c clean opens live from versions them sessions served led db left =
    rw (g.met.T.Execute.no_chapter c.args.task.now c.args.moment c.in-Err.unopened.fault)
    (record {
      version = led.version;
      among = led.among;
      reached =
          led_still from led.version them sessions db
          (c.in-Err.ensures.history clean opens live from led.version them sessions led.reached db left);
    })

pub returns-clause-refuses : goal.returns-clause-refuses
returns-clause-refuses g c clean = taken_over _ c.execute-report.result c.execute-report.ensures.taken

pub returns-clause-answer : goal.returns-clause-answer
returns-clause-answer g c clean opens live s is_club has =
    let after = rw c.into_connection.ensures.same at clean in
    c.execute-report.ensures.answer after has.them s
    ((c.in-Ok.ensures.taken (omega (arith, c.execute-report.ensures.clean, after)) opens live).stands s is_club has)

pub returns-clause-older : goal.returns-clause-older
returns-clause-older g c clean opens live them s first =
    let after = rw c.into_connection.ensures.same at clean in
    absurd ((c.in-Ok.ensures.taken (omega (arith, c.execute-report.ensures.clean, after)) opens live).newer them s first)

pub returns-clause-history : goal.returns-clause-history
returns-clause-history g c clean opens live from versions them sessions served led db left =
    let same = c.into_connection.ensures.same in
    let after = rw same at clean in
    let taken = c.in-Ok.ensures.taken (omega (arith, c.execute-report.ensures.clean, after)) opens live in
    let (is, at) = taken.history from led.version them sessions served led.reached in
    record {
      version = version_with c.in-Ok.club.has_arbiter;
      among = subst (Has versions) is led.among;
      reached = c.execute-report.ensures.history after from them sessions at db (rw same at left);
    }

pub returns-clause-shape : goal.returns-clause-shape
returns-clause-shape g c =
    let has = c.in-Ok.club.has_arbiter in
    taken_so _ c.execute-report.result (version_with has, with_served has, c.in-Ok.ensures.shape)

pub returns-in-Err-clause-next_state : goal.returns-in-Err-clause-next_state
returns-in-Err-clause-next_state g c clean opens live s is_club has db left =
    g.met.T.Execute.unchanged c.args.task.now has.them s c.args.moment c.in-Err.unopened.fault db
    (kept_tables s (state g.S.Store c.args.conn) (state g.S.Store c.in-Err.unopened.conn) has ((c.in-Err.ensures.refuses clean).kept opens) db left)

pub returns-clause-next_state : goal.returns-clause-next_state
returns-clause-next_state g c clean opens live s is_club has db left =
    let same = c.into_connection.ensures.same in
    let after = rw same at clean in
    let taken = c.in-Ok.ensures.taken (omega (arith, c.execute-report.ensures.clean, after)) opens live in
    c.execute-report.ensures.next_state after has.them s (taken.stands s is_club has) db (rw same at left)
