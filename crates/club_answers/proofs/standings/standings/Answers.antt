use Rattle.std.proofs.Common.{refl, sym, ◌∙◌}
use Rattle.store_tables.proofs.Proved.{reads_on}
use Rattle.club_rows.proofs.Proved.{stores-rows}
use Rattle.club_answers.proofs.CallLemmas.{between_three}
use Rattle.club_answers.proofs.standings.standings.Goals as goal

pub returns-in_ok-text-in-Some-clause-reads : goal.returns-in_ok-text-in-Some-clause-reads
returns-in_ok-text-in-Some-clause-reads g c =
    reads_on c.in_ok-event.ensures.reads
    (reads_on c.in_ok-scores-in-Some.ensures.reads c.in_ok-club-in-Some.ensures.reads)

pub returns-in_ok-text-in-Some-clause-found : goal.returns-in_ok-text-in-Some-clause-found
returns-in_ok-text-in-Some-clause-found g c clean s is_club version k =
    let (first, one, second, two) = between_three s c.in_ok-event.ensures.reads c.in_ok-scores-in-Some.ensures.reads
    c.in_ok-club-in-Some.ensures.reads clean k in
    let scores = c.in_ok-scores-in-Some.ensures.scores second s (stores-rows s _ one) in
    c.in_ok-text-in-Some.ensures s c.args.moment
    (c.in_ok-club-in-Some.ensures.read clean s is_club version two)
    (rw c.deref.ensures.value scores)
    (sym (c.in_ok-event.ensures.found first s is_club (stores-rows s _ k)) ∙ c.in-Some.is)

pub returns-in-None-clause-found : goal.returns-in-None-clause-found
returns-in-None-clause-found g c clean s is_club version k =
    (sym (c.in_ok-event.ensures.found clean s is_club (stores-rows s _ k)) ∙ c.in-None.is, refl)
