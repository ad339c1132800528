use Rattle.std.proofs.Common.{◌≡◌, ap, ◌∙◌}
use Rattle.std.specs.Prelude.{option_map, string_bytes}
use Rattle.sqlite.specs.Held.{state}
use Rattle.club_reads.specs.Keys.{member_by_key}
use Rattle.club_session.proofs.ServeLemmas.{asked, told_shut, read_serves, if_ok}
use Rattle.club_session.proofs.desk_club.DeskClubClubService.member_by_key.Goals as goal

pub returns-clause-shut : goal.returns-clause-shut
returns-clause-shut g c fault shut =
    let told = c.member_by_key.ensures.shut shut.0 in
    (c.club_fault.ensures ∙ told_shut fault _ shut.1 told.0, (ap (λ k. k.needs_reopening) told.1 ∙ shut.0, shut.1))

pub returns-clause-serves : goal.returns-clause-serves
returns-clause-serves g c clean s open_in =
    read_serves c.args.self.now.club.has_arbiter c.member_by_key.new.self.has_arbiter
    c.args.self.now.club.needs_reopening c.member_by_key.new.self.needs_reopening
    (state g.S.Store c.args.self.now.club.connection) (state g.S.Store c.member_by_key.new.self.connection) s
    (λ name. option_map string_bytes name ≡ member_by_key s.state c.args.key.now)
    c.member_by_key.result c.club_fault.result c.club_fault.ensures c.member_by_key.ensures.same_schema
    c.member_by_key.ensures.stays_open c.member_by_key.ensures.ends
    c.member_by_key.ensures.possible_faults c.member_by_key.ensures.reads
    (if_ok _ _ c.member_by_key.result (c.member_by_key.ensures.held clean)
    (λ name held. held s.state (asked open_in)))
    clean open_in
