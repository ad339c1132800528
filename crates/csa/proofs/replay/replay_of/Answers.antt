use Rattle.std.proofs.Common.{◌≡◌, ◌+◌, ◌++◌, ◌∷◌, [], List, take, sym, ap, subst, ◌∙◌, rules}
use Rattle.std.proofs.lemmas.List.{take_more}
use Rattle.squares.specs.ShogiOpening.{opening}
use Rattle.csa.specs.declared.lines.NumberedStatement.{NumberedStatement}
use Rattle.csa.specs.Moves.{MeanAll}
use Rattle.csa.specs.Replays.{written_moves}
use Rattle.csa.specs.internal.Replays.{RefusesMoves}
use Rattle.csa.proofs.RecordLemmas.{written-more, refuses-record}
use Rattle.csa.proofs.replay.replay_of.Goals as goal

pub returns-in_err-push_statement-clause-fault : goal.returns-in_err-push_statement-clause-fault
returns-in_err-push_statement-clause-fault c =
    let placed : List NumberedStatement = c.args.placed.now in
    let held : RefusesMoves (written_moves placed) c.in_err-push_statement.field-0.0 =
    refuses-record placed c.loop-each.each-index c.each-item.result c.loop-each.replay.moves.items
    c.in_err-push_statement.field-0.0 c.loop-each-test.true c.each-item.is
    (record { mean = c.loop-each.invariant.mean; played = c.loop-each.invariant.stands.follows.played })
    c.in_err-push_statement.ensures.fault in
    search rules

pub loop-each-preserved : goal.loop-each-preserved
loop-each-preserved c =
    let placed : List NumberedStatement = c.args.placed.now in
    let k = c.loop-each.each-index in
    let each : NumberedStatement = c.each-item.result in
    let longer : take (k + 1) placed ≡ take k placed ++ each ∷ [] = take_more placed k each c.loop-each-test.true
    ∙ ap (λ e. take k placed ++ e ∷ []) (sym c.each-item.is) in
    record {
      stands = c.in_ok-push_statement.ensures.stands;
      mean =
          subst (λ ws. MeanAll opening ws c.push_statement.new.replay.moves.items)
          (sym (written-more placed k each c.loop-each-test.true longer))
          (c.in_ok-push_statement.ensures.grown (written_moves (take k placed)) c.loop-each.invariant.mean);
    }
