use Rattle.std.proofs.Common.{ap, ◌∙◌}
use Rattle.std.proofs.lemmas.Result.{IfOk-weaker}
use Rattle.sqlite.specs.Compile.{table_defined_by}
use Rattle.store_tables.specs.Tables.{made_as}
use Rattle.store_tables.proofs.Proved.{defined}
use Rattle.schema_match.proofs.tables.has_club_table.Goals as goal

pub returns : goal.returns
returns c =
    let ours = made_as c.args.table 0 in
    IfOk-weaker c.has_table_made_by.result _ _ (λ stands told.
    told ours (ap table_defined_by c.create.ensures ∙ defined c.args.table)) c.has_table_made_by.ensures
