use Rattle.std.proofs.Common.{refl, rules}
use Rattle.store_tables.specs.declared.names.Version.TheVariants.{V2}
use Rattle.store_tables.proofs.Proved.{events_by_name_placed}
use Rattle.store_sql.proofs.SelectLemmas.{question_reads, question_rows}
use Rattle.store_sql.proofs.keys.EventNameUniqueKey.show.Goals as goal

pub returns-clause-reads : goal.returns-clause-reads
returns-clause-reads g c =
    question_reads (events_by_name_placed c.args.self.now.name.now) (search rules) _ _ (λ rows. rows.items) _
    c.query_all.ensures.mode c.query_all.ensures.survives c.query_all.ensures.ok c.query_all.ensures.err

pub returns-clause-rows : goal.returns-clause-rows
returns-clause-rows g c clean =
    question_rows (events_by_name_placed c.args.self.now.name.now) (search rules) _ _ (λ rows. rows.items) _
    V2 refl c.query_all.ensures.survives clean (c.query_all.ensures.ok clean)
