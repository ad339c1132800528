use Rattle.std.proofs.Common.{◌≡◌, ap, ◌∙◌, arith, false, subst, sym}
use Rattle.sqlite.specs.Held.{state}
use Rattle.club_core.specs.Answer.{answered, outcome_of}
use Rattle.club_changes.specs.Steps.{request, club_step}
use Rattle.club_session.specs.ServedStates.{IsOpenIn}
use Rattle.club_session.proofs.ServeLemmas.{told_shut, apply_serves, asked, if_ok, of_schema, on_ok, on_err}
use Rattle.club_session.proofs.desk_club.DeskClubClubService.apply.Goals as goal

pub returns-clause-shut : goal.returns-clause-shut
returns-clause-shut g c fault shut =
    let told = c.apply.ensures.shut shut.0 in
    (c.club_fault.ensures ∙ told_shut fault _ shut.1 told.0, (ap (λ k. k.needs_reopening) told.1 ∙ shut.0, shut.1))

pub returns-clause-serves : goal.returns-clause-serves
returns-clause-serves g c clean s open_in =
    let given = request c.args.who.now c.args.command.now c.args.moment in
    apply_serves c.args.self.now.club.has_arbiter c.apply.new.self.has_arbiter
    c.args.self.now.club.needs_reopening c.apply.new.self.needs_reopening
    (state g.S.Store c.args.self.now.club.connection) (state g.S.Store c.apply.new.self.connection) s given
    (λ outcome. outcome_of outcome ≡ answered (club_step s.state given))
    c.apply.result c.club_fault.result c.club_fault.ensures c.requests_keep_clubs.ensures
    (omega (arith, c.seconds-within.ensures.value, c.seconds-within.ensures.range))
    c.apply.ensures.same_schema
    (λ none needs.
    let (told, same) = c.apply.ensures.schema open_in.ready none needs in (
      told,
      subst (λ k. IsOpenIn k.has_arbiter k.needs_reopening (state g.S.Store k.connection) s) (sym same) open_in,
    ))
    c.apply.ensures.other_schema
    c.apply.ensures.stays_open c.apply.ensures.ends c.apply.ensures.possible_faults
    (if_ok _ _ c.apply.result (c.apply.ensures.answer clean) (λ outcome is. is s.state (asked open_in)))
    (on_ok c.apply.result (c.apply.ensures.step clean) (λ is. is s.them s.state open_in.serves))
    (on_err c.apply.result (c.apply.ensures.fault clean) (λ left. left open_in.ready s.them s.state open_in.serves))
    open_in

pub returns-clause-schema : goal.returns-clause-schema
returns-clause-schema g c clean s open_in told =
    let named = of_schema c.apply.result c.club_fault.result c.club_fault.ensures told
    c.args.self.now.club.needs_reopening open_in.ready c.apply.ensures.possible_faults in
    let (none, needs) = c.apply.ensures.other_schema named in
    let (again, same) = c.apply.ensures.schema open_in.ready none needs in
    subst (λ k. IsOpenIn k.has_arbiter k.needs_reopening (state g.S.Store k.connection) s) (sym same) open_in
