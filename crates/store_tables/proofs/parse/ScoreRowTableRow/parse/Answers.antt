use Rattle.std.proofs.Common.{rules}
use Rattle.store_tables.proofs.RowLemmas.{seven}
use Rattle.store_tables.proofs.parse.ScoreRowTableRow.parse.Goals as goal

pub returns-clause-shows : goal.returns-clause-shows
returns-clause-shows c = seven c.args.row.now _ _ _ _ _ _ _ (search rules) (search rules) (search rules) (search rules)
    (search rules) (search rules) (search rules) (search rules)
