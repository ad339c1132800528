use Rattle.std.proofs.Common.{rules}
use Rattle.store_tables.proofs.RowLemmas.{seventeen}
use Rattle.store_tables.proofs.parse.GameTableRowTableRow.parse.Goals as goal

pub returns-clause-shows : goal.returns-clause-shows
returns-clause-shows c = seventeen c.args.row.now _ _ _ _ _ _ _ _ _ _ _ _ _ _ _ _ _ (search rules)
    (search rules) c.in_ok-read_text.ensures.reads (search rules) (search rules) (search rules) (search rules)
    (search rules) (search rules) (search rules) (search rules) c.in_ok-read_integer.ensures.reads
    c.in_ok-read_integer-2.ensures.reads c.in_ok-read_text-2.ensures.reads c.in_ok-read_text-3.ensures.reads
    (search rules) (search rules) (search rules)
