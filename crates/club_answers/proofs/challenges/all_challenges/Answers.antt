use Rattle.club_rows.specs.Club.{tables}
use Rattle.store_tables.proofs.Proved.{ended}
use Rattle.club_answers.proofs.AllChallenges.{all_read}
use Rattle.club_answers.proofs.CallLemmas.{both_ok}
use Rattle.club_answers.proofs.challenges.all_challenges.Goals as goal

pub returns-clause-reads : goal.returns-clause-reads
returns-clause-reads g c = ended _ c.in_ok-rows.ensures.reads

pub returns-clause-found : goal.returns-clause-found
returns-clause-found g c clean =
    both_ok c.challenges_in.result c.challenges_in.ensures.rows c.challenges_in.ensures.order (λ all rows up s k.
    all_read s c.in_ok-rows.rows.items all.items (c.in_ok-rows.ensures.same clean (tables s) k)
    (rw c.deref.ensures.value at rows) up)
