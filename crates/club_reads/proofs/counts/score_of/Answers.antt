use Rattle.club_changes.proofs.Proved.{score_first}
use Rattle.club_reads.proofs.counts.score_of.Goals as goal

pub returns-clause-found : goal.returns-clause-found
returns-clause-found g c clean content k =
    score_first (content 14) c.args.event c.args.member c.args.opponent _ _ _ c.in_ok-find.field-0.items
    c.first-row.result c.pair_of-question.ensures.event c.pair_of-question.ensures.member
    c.pair_of-question.ensures.opponent (c.in_ok-find.ensures.rows clean content k) c.first-row.ensures
