use Rattle.std.proofs.Common.{ap, ◌∙◌}
use Rattle.club_core.specs.Challenges.{challenge_by, answer_step}
use Rattle.club_core.specs.Members.{find_id}
use Rattle.club_requests.specs.Outcome.{by_member}
use Rattle.club_core.specs.Seats.{has_member_name}
use Rattle.club_rows.specs.Club.{tables}
use Rattle.store_tables.proofs.Proved.{clean_before, reads_on, rows_after}
use Rattle.store.proofs.challenges.decided_answer.Goals as goal

pub returns-clause-decided : goal.returns-clause-decided
returns-clause-decided g c clean s is_club ms es k =
    let looked = clean_before c.count_games.ensures.reads clean in
    let number = c.args.command.now.number in
    let found = c.find_member-challenger.ensures ∙ (λ i. find_id (has_member_name (c.as_str.ensures.value i)) (ms i)) in
    let under = c.in_ok-under.ensures.found looked s is_club k ∙ ap (λ o. challenge_by s.challenges o number) found in
    let games = c.in_ok-games.ensures.count clean s
    (rows_after c.in_ok-under.ensures.reads looked (tables s) k) in
    c.answer_challenge.ensures
    ∙ (λ i. by_member c.args.caller (λ m. answer_step (es i) (under i) (games i) m c.args.command.now.accept))

pub returns-clause-reads : goal.returns-clause-reads
returns-clause-reads g c = reads_on c.in_ok-under.ensures.reads c.in_ok-games.ensures.reads
