use Rattle.store_sql.proofs.read.check_columns.Goals.{in-Ok, in-Err}
use Rattle.store_sql.proofs.read.check_columns.Goals as goal

pub returns-clause-reason_is_right : goal.returns-clause-reason_is_right
returns-clause-reason_is_right g c clean = elim c.match-show_by_first.branch [
  | in-Ok w ↦ rw w.result-is tt
  | in-Err w ↦ rw w.result-is (λ stands. w.failed.ensures.store (w.in-Err.ensures.known clean stands))
]
