use Rattle.cross_tables.proofs.field.line_of.Goals as goal

pub returns-clause-some : goal.returns-clause-some
returns-clause-some c t = λ k. record {
  standing = record { member = c.args.member; sums = c.totals_of.ensures c.args.rows.now t k };
  running = c.running_games.ensures k;
  sonneborn_berger = c.in_ok-sonneborn_berger.ensures.some t k;
}
