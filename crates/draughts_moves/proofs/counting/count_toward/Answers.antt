use Rattle.std.proofs.Common.{◌∙◌}
use Rattle.draughts_moves.proofs.CountLemmas.{count-few, toward-counted}
use Rattle.draughts_moves.proofs.counting.count_toward.Goals as goal

pub returns-clause-value : goal.returns-clause-value
returns-clause-value c = c.len.ensures
    ∙ toward-counted c.args.squares c.args.empty c.exposed_squares-before.result c.args.toward c.exposed_squares-before.ensures

pub returns-clause-few : goal.returns-clause-few
returns-clause-few c = rw (returns-clause-value c) (count-few _)
