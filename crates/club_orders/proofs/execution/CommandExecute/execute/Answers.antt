use Rattle.std.proofs.Common.{◌∙◌, sym, subst}
use Rattle.sqlite.specs.Held.{state}
use Rattle.store_tables.proofs.Proved.{leaves_beside}
use Rattle.club_core.specs.State.{needs_arbiter, takes}
use Rattle.club_rows.specs.Club.{tables}
use Rattle.club_changes.specs.Steps.{club_next}
use Rattle.store.specs.Clubs.{version_with}
use Rattle.store.specs.Histories.{IsHistory}
use Rattle.store.proofs.Proved.{asks_served}
use Rattle.club_orders.specs.Report.{given}
use Rattle.club_orders.proofs.RecordedLemmas.{leaves_failed, not_taken, other_fault, recorded_by, sessions_failed}
use Rattle.club_orders.proofs.RecordedLemmas.{taken_alike}
use Rattle.club_orders.proofs.SessionLemmas.{left_led}
use Rattle.club_orders.proofs.execution.CommandExecute.execute.Goals as goal

pub returns-in-Ok-clause-answer : goal.returns-in-Ok-clause-answer
returns-in-Ok-clause-answer g c clean them s k =
    let asked = given c.args.self.now c.args.moment in
    recorded_by (takes s asked.command) _ (λ took. c.in-Ok.ensures.answer clean s (asks_served k))
    (λ left.
    let (needs, none) = not_taken (needs_arbiter asked.command) s.has_arbiter left in
    let fault = (c.apply.ensures.schema c.requires (k.arbiter ∙ none) needs).0 in
    absurd (cc))

pub returns-in-Ok-clause-history : goal.returns-in-Ok-clause-history
returns-in-Ok-clause-history g c clean from them sessions at =
    left_led from (version_with c.args.club.now.has_arbiter) them _ _ (c.in-Ok.ensures.stands clean from them sessions at)

pub returns-in-Ok-clause-next_state : goal.returns-in-Ok-clause-next_state
returns-in-Ok-clause-next_state g c clean them s k =
    leaves_beside them (tables (club_next s (given c.args.self.now c.args.moment))) _ (c.in-Ok.ensures.step clean them s k)

pub returns-in-Err-clause-answer : goal.returns-in-Err-clause-answer
returns-in-Err-clause-answer g c clean them s k =
    let asked = given c.args.self.now c.args.moment in
    recorded_by (takes s asked.command) _
    (λ took. other_fault c.in-Err.fault (c.in-Err.ensures.possible_faults c.requires)
    (λ is.
    let (none, needs) = c.apply.ensures.other_schema (cc) in
    taken_alike (needs_arbiter asked.command) s.has_arbiter took needs (sym k.arbiter ∙ none)))
    (λ left.
    let (needs, none) = not_taken (needs_arbiter asked.command) s.has_arbiter left in
    let fault = (c.apply.ensures.schema c.requires (k.arbiter ∙ none) needs).0 in
    cc)

pub returns-in-Err-clause-history : goal.returns-in-Err-clause-history
returns-in-Err-clause-history g c clean from them sessions at db left =
    let version = version_with c.args.club.now.has_arbiter in
    let asked = given c.args.self.now c.args.moment in
    sessions_failed from version them sessions asked c.in-Err.fault db (c.in-Err.ensures.possible_faults c.requires)
    (λ is.
    let (none, needs) = c.apply.ensures.other_schema (cc) in
    let same = (c.apply.ensures.schema c.requires none needs).1 in
    left_led from version them sessions (state g.S.Store c.apply.new.self.connection)
    (subst (λ u. IsHistory from version them sessions (state g.S.Store u.connection)) (sym same) at) db left)
    (c.in-Err.ensures.after_crash clean c.requires from them sessions at db left)

pub returns-in-Err-clause-next_state : goal.returns-in-Err-clause-next_state
returns-in-Err-clause-next_state g c clean them s k db left =
    let asked = given c.args.self.now c.args.moment in
    leaves_failed them s asked c.in-Err.fault db (c.in-Err.ensures.possible_faults c.requires)
    (λ is.
    let (none, needs) = c.apply.ensures.other_schema (cc) in
    let same = (c.apply.ensures.schema c.requires none needs).1 in
    leaves_beside them (tables s) (state g.S.Store c.args.club.now.connection) k.holds db
    (subst (λ u. (state g.S.Store u.connection).may_leave db) same left))
    (c.in-Err.ensures.fault clean c.requires them s k db left)
