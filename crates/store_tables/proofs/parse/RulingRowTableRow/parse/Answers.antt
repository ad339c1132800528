use Rattle.std.proofs.Common.{rules}
use Rattle.store_tables.proofs.RowLemmas.{nine}
use Rattle.store_tables.proofs.parse.RulingRowTableRow.parse.Goals as goal

pub returns-clause-shows : goal.returns-clause-shows
returns-clause-shows c = nine c.args.row.now _ _ _ _ _ _ _ _ _ (search rules) (search rules) (search rules)
    (search rules) (search rules) (search rules) (search rules) c.in_ok-read_text.ensures.reads
    c.in_ok-read_text-2.ensures.reads c.in_ok-read_text-3.ensures.reads
