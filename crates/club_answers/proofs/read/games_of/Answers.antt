use Rattle.store_tables.proofs.Proved.{ended}
use Rattle.std.proofs.Common.{refl}
use Rattle.std.proofs.lemmas.Result.{IfOk-weaker}
use Rattle.club_rows.specs.Club.{tables}
use Rattle.club_reads.proofs.Proved.{games_begin}
use Rattle.club_answers.proofs.read.games_of.Goals as goal

pub returns-clause-reads : goal.returns-clause-reads
returns-clause-reads g c = ended _ c.in_ok-rows.ensures.reads

pub returns-clause-told : goal.returns-clause-told
returns-clause-told g c clean =
    IfOk-weaker c.entries_of.result _ _ (λ games told s is_club k.
    told s is_club (rw c.deref.ensures.value (c.in_ok-rows.ensures.rows clean refl (tables s) k (games_begin s))))
    c.entries_of.ensures
