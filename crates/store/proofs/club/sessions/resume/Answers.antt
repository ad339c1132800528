use Rattle.std.proofs.Common.{refl, arith, sym, ap, subst, ◌∙◌, [], ◌∷◌, ◌++◌}
use Rattle.sqlite.specs.State.{HasCleanDisk}
use Rattle.sqlite.specs.Held.{state}
use Rattle.store_tables.proofs.Proved.{still_beside}
use Rattle.club_rows.specs.Club.{tables}
use Rattle.store.specs.Clubs.{version_with}
use Rattle.store.specs.Histories.{IsHistory, IsReachable, session_of}
use Rattle.store.proofs.HistoryLemmas.{holds_beside, opens_beside, opens_led, opens_taken, stops_led}
use Rattle.store.proofs.club.sessions.resume.Goals as goal

pub returns-clause-history : goal.returns-clause-history
returns-clause-history g c clean opens live from version them sessions serves led db left =
    let before : HasCleanDisk (state g.S.Store c.in-Ok.club.connection) =
    omega (arith, c.session-run.ensures.clean, clean) in
    let (is, at) = opens_taken _ opens live (g.met.S.Store.settled c.args.conn.store) c.in-Ok.club.has_arbiter serves led
    (λ u first. c.in-Ok.ensures.older before them u first serves) (λ u legal holds. c.in-Ok.ensures.standing before u legal holds)
    (c.in-Ok.ensures.kept.kept refl before) in
    subst (λ v. IsReachable from v them (sessions ++ session_of c.args.requests.now c.session-run.result ∷ []) db)
    (sym is) (c.session-run.ensures.history clean c.in-Ok.ensures.ready from them sessions at db left)

pub returns-clause-stands : goal.returns-clause-stands
returns-clause-stands g c clean opens live none from version them sessions serves led =
    let before : HasCleanDisk (state g.S.Store c.in-Ok.club.connection) =
    omega (arith, c.session-run.ensures.clean, clean) in
    let (is, at) = opens_taken _ opens live (g.met.S.Store.settled c.args.conn.store) c.in-Ok.club.has_arbiter serves led
    (λ u first. c.in-Ok.ensures.older before them u first serves) (λ u legal holds. c.in-Ok.ensures.standing before u legal holds)
    (c.in-Ok.ensures.kept.kept refl before) in (
      is ∙ ap version_with (sym c.session-run.ensures.same_schema),
      subst (λ v. IsHistory from v them (sessions ++ session_of c.args.requests.now c.session-run.result ∷ [])
          (state g.S.Store c.session-run.new.self.connection)) (sym is)
          (c.session-run.ensures.stands clean none from them sessions at),
    )

pub returns-clause-outcomes : goal.returns-clause-outcomes
returns-clause-outcomes g c clean opens live s is_club left =
    let before : HasCleanDisk (state g.S.Store c.in-Ok.club.connection) =
    omega (arith, c.session-run.ensures.clean, clean) in
    let found = opens_beside _ opens live (g.met.S.Store.settled c.args.conn.store) left.them (tables s) left.leaves in
    c.session-run.ensures.outcomes clean left.them s (record {
      legal = is_club;
      arbiter = c.in-Ok.ensures.standing before s is_club (holds_beside left.them s _ left.version is_club found);
      version = left.version;
      holds = still_beside _ _ (c.in-Ok.ensures.kept.kept refl before) left.them (tables s) found;
    })

pub returns-in-Err-clause-accepts_sound : goal.returns-in-Err-clause-accepts_sound
returns-in-Err-clause-accepts_sound g c clean opens live s is_club left =
    let found =
    opens_beside _ opens live (g.met.S.Store.settled c.args.conn.store) left.them (tables s) left.leaves in
    c.in-Err.ensures.accepts_sound clean s is_club (holds_beside left.them s _ left.version is_club found)
    (rw found.exactly.now.schema left.shape)

pub returns-in-Err-clause-kept : goal.returns-in-Err-clause-kept
returns-in-Err-clause-kept g c clean opens live from version them sessions led db left =
    let at = opens_led _ opens live (g.met.S.Store.settled c.args.conn.store) from version them sessions led in
    stops_led from version them sessions _ at db (c.in-Err.ensures.reads.may clean db left)

pub returns-clause-possible_faults : goal.returns-clause-possible_faults
returns-clause-possible_faults g c = c.session-run.ensures.possible_faults c.in-Ok.ensures.ready
