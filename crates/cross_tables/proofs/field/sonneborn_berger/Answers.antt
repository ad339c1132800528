use Rattle.std.proofs.Common.{arith}
use Rattle.std.proofs.lemmas.Grind.{common_steps}
use Rattle.std.proofs.lemmas.List.Sums.{sum_by_more, sum_by_more_le}
use Rattle.cross_tables.specs.declared.sums.OpponentScore.{OpponentScore}
use Rattle.cross_tables.specs.Field.{weighted}
use Rattle.cross_tables.proofs.field.sonneborn_berger.Goals as goal

abbrev nothing : OpponentScore
nothing = record { member = 0; opponent = 0; sums = record { points = 0; wins = 0; draws = 0; losses = 0 } }

pub returns-in_default-clause-none : goal.returns-in_default-clause-none
returns-in_default-clause-none c t _ small =
    let rows = c.args.rows.now in
    grind (
      arith,
      common_steps,
      c.loop-row.invariant t,
      c.weighted.ensures rows t,
      c.checked_add.ensures,
      c.in_default.is,
      sum_by_more_le (weighted c.args.member rows) rows c.loop-row.row-index nothing (omega arith),
      small,
    )

pub loop-row-preserved : goal.loop-row-preserved
loop-row-preserved c t =
    let rows = c.args.rows.now in
    grind (
      arith,
      common_steps,
      c.loop-row.invariant t,
      c.weighted.ensures rows t,
      c.checked_add.ensures,
      c.in-Some.is,
      sum_by_more (weighted c.args.member rows) rows c.loop-row.row-index nothing (omega arith),
    )
