use Rattle.std.proofs.Common.{subst, length, rules}
use Rattle.std.proofs.lemmas.List.{take_all}
use Rattle.game_history.proofs.Proved.{fault-of-beginning, grown}
use Rattle.shogi_repetition.specs.Faults.{shogi_lines, IsPlayed}
use Rattle.shogi_repetition.specs.internal.Faults.{HasFault}
use Rattle.shogi_repetition.specs.internal.Counting.{Follows}
use Rattle.shogi_repetition.proofs.judging.judge.Goals as goal

pub returns-in_err-push-clause-fault : goal.returns-in_err-push-clause-fault
returns-in_err-push-clause-fault c =
    let held : HasFault c.args.start.now c.args.moves.now c.in_err-push.field-0.0 =
    fault-of-beginning shogi_lines c.args.start.now c.args.moves.now c.loop-played.played-index
    c.played-item.result c.in_err-push.field-0.0 c.loop-played-test.true c.played-item.is
    (c.in_err-push.ensures.fault c.args.start.now _ c.loop-played.invariant) in
    search rules

pub loop-played-preserved : goal.loop-played-preserved
loop-played-preserved c =
    subst (λ l. Follows c.args.start.now l c.push.new.self)
    (grown c.args.moves.now c.loop-played.played-index c.played-item.result c.loop-played-test.true c.played-item.is)
    (c.in_ok-push.ensures.follows c.args.start.now _ c.loop-played.invariant)

pub returns-clause-played : goal.returns-clause-played
returns-clause-played c =
    let all = take_all c.loop-played.played-index c.args.moves.now c.loop-played-test.false in
    subst (λ l. IsPlayed c.args.start.now l (length l)) all c.loop-played.invariant.played
