use Rattle.std.proofs.Common.{sym, ◌∙◌}
use Rattle.schema_match.proofs.ShapeLemmas.{counted_to, counted_all}
use Rattle.store_tables.specs.declared.names.Table.TheVariants.{Members}
use Rattle.schema_match.proofs.tables.count_tables.Goals as goal

pub returns-then-not-branch : goal.returns-then-not-branch
returns-then-not-branch c = rw c.loop-table.invariant.0
    (counted_to c.args.schema.now c.args.tables.now c.loop-table.table-index Members c.loop-table-test.true
    c.loop-table.invariant.1 (sym c.in_ok-has_club_table.ensures ∙ c.if-not-branch.true))

pub returns : goal.returns
returns c = rw c.loop-table.invariant.0
    (counted_all c.args.schema.now c.args.tables.now c.loop-table.table-index c.loop-table-test.false
    c.loop-table.invariant.1)
