use Rattle.std.proofs.Common.{map, rules}
use Rattle.csa.specs.internal.Reading.{FailsOrMemory}
use Rattle.csa.proofs.RecordLemmas.{fails-record, records-more}
use Rattle.csa.proofs.reading.read_records.Goals as goal

pub returns-in_err-game-clause-fault : goal.returns-in_err-game-clause-fault
returns-in_err-game-clause-fault c =
    let held : FailsOrMemory (map (λ x. x.now) c.args.records.now) c.in_err-game.field-0.0 =
    fails-record c.args.records.now (λ x. x.now) c.loop-i.i c.index-records-i.result c.loop-i.games.items
    c.loop-i-test.true c.index-records-i.is c.loop-i.invariant _ c.in_err-game.ensures.fault in
    search rules

pub loop-i-preserved : goal.loop-i-preserved
loop-i-preserved c =
    rw c.in_ok-push.ensures.items
    (records-more c.args.records.now (λ x. x.now) c.loop-i.i c.index-records-i.result c.loop-i.games.items
    c.loop-i-test.true c.index-records-i.is c.loop-i.invariant c.in_ok-game.game c.in_ok-game.ensures.game)
